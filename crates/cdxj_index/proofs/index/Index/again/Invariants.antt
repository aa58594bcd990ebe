use Rattle.std.proofs.Common.{◌≡◌, ◌++◌}
use Rattle.cdxj_index.specs.Groups.{AreGroups}
use Rattle.cdxj_index.specs.Maps.{by_numbers, shown_all, values_shown}
use Rattle.cdxj_index.proofs.index.Index.again.Given as goal

abbrev pub invariant-loop-entry : goal.invariant-loop-entry
invariant-loop-entry l =
    AreGroups l.groups.items × (values_shown l.numbers.items ≡ by_numbers (shown_all l.groups.items))
    × (shown_all l.groups.items ++ l.entry-iterator ≡ l.self)
