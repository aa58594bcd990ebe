use Rattle.std.proofs.Common.{◌≡◌, []}
use Rattle.std.specs.Vec.{vec_capacity}
use Rattle.history_lock.specs.Phases.{maker}
use Rattle.history_lock.proofs.Making.{Made}
use Rattle.history_lock.proofs.lock.make_passes.Given as goal

abbrev pub invariant-loop-number : goal.invariant-loop-number
invariant-loop-number g l =
    Made l.fn.desk.table_id l.fn.seat.me.0.seen l.passes l.number l.made.items
    × (vec_capacity l.made ≡ vec_capacity l.fn.made)
    × (l.seat.table_id ≡ l.fn.seat.table_id)
    × (l.seat.me ≡ (maker l.fn.seat.me.0.seen l.passes l.number, []))
