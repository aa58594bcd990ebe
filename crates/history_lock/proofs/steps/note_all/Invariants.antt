use Rattle.std.proofs.Common.{◌≡◌}
use Rattle.history_lock.specs.Phases.{IsSame, HasLeft}
use Rattle.history_lock.proofs.steps.note_all.Given as goal

abbrev pub invariant-loop-left : goal.invariant-loop-left
invariant-loop-left g l = IsSame l.fn.seat l.seat × HasLeft g.T.Told.list g.T.Told.by l.left l.seat.me × (l.seat.me ≡ (record l.fn.seat.me.0 { seen = l.seat.me.0.seen }, l.fn.seat.me.1))

abbrev pub decreases-loop-left : goal.decreases-loop-left
decreases-loop-left g l = l.left
