use Rattle.std.proofs.Common.{ap}
use Rattle.history_lock.proofs.Closing.{none_left}
use Rattle.history_lock.proofs.lock.HistoryLock.close.Goals as goal

pub unreachable-requires : goal.unreachable-requires
unreachable-requires g c = c.in_default.not-None (none_left g.T.Told.list g.T.Told.by _ _ _ c.leave_empty.new.seat.me.0 _ _ c.take-left.result
    (ap (λ m. m.0.stage) c.leave_empty.ensures.empty) c.close_with-closed.ensures.values.2 c.take-left.ensures.value)
