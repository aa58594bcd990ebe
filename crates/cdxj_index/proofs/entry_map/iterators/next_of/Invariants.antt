use Rattle.std.proofs.Common.{◌≡◌}
use Rattle.cdxj_index.specs.Maps.{keys_left, left_of}
use Rattle.cdxj_index.proofs.entry_map.iterators.next_of.Given as goal

abbrev pub invariant-loop-entry : goal.invariant-loop-entry
invariant-loop-entry l =
    (goal.iterator-loop-entry).can_next l.captures × (goal.iterator-loop-entry).is_finite l.captures × (left_of l.start l.keys l.captures ≡ left_of l.start l.initial.keys l.initial.captures)

abbrev pub decreases-loop-entry : goal.decreases-loop-entry
decreases-loop-entry l = keys_left l.keys
