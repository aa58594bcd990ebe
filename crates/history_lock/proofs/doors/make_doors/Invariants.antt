use Rattle.std.proofs.Common.{◌≤◌, ◌-◌, vec_len}
use Rattle.std.specs.Vec.{vec_capacity}
use Rattle.history_lock.proofs.doors.make_doors.Given as goal

-- there is room for all, and not too many are made
abbrev pub invariant-making : goal.invariant-making
invariant-making l = (vec_len l.doors ≤ l.count) × (l.count ≤ vec_capacity l.doors)

abbrev pub decreases-making : goal.decreases-making
decreases-making l = l.count - vec_len l.doors
