use Rattle.std.proofs.Common.{◌≡◌, ◌++◌, drop}
use Rattle.cdxj_index.specs.Groups.{AreGroups}
use Rattle.cdxj_index.specs.Maps.{by_numbers, shown_all, values_shown}
use Rattle.cdxj_index.proofs.index.Index.of_sorted.Given as goal

abbrev pub invariant-loop-place : goal.invariant-loop-place
invariant-loop-place l =
    AreGroups l.groups.items × (values_shown l.numbers.items ≡ by_numbers (shown_all l.groups.items))
    × (shown_all l.groups.items ++ drop l.place l.fn.entries.items ≡ l.fn.entries.items)
