use Rattle.std.specs.Prelude.{◌≡◌, ◌≤◌, length}
use Rattle.std.specs.Vec.{vec_capacity}
use Rattle.test_runs.proofs.side_by_side.crew_of.Given as goal

-- so many members were made, and there is room for all
abbrev pub invariant-making : goal.invariant-making
invariant-making g l = (length l.members.items ≡ l._place) × (16 ≤ vec_capacity l.members)
