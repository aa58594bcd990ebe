use Rattle.std.proofs.Common.{◌-◌, ◌≤◌, vec_len}
use Rattle.std.specs.Vec.{vec_capacity}
use Rattle.test_threads.proofs.links.kept_of.Given as goal

abbrev pub invariant-making : goal.invariant-making
invariant-making g l = (vec_len l.crew ≤ l.workers) × (l.workers ≤ vec_capacity l.crew)

abbrev pub decreases-making : goal.decreases-making
decreases-making g l = l.workers - vec_len l.crew
