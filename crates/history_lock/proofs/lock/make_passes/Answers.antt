use Rattle.std.proofs.Common.{rules}
use Rattle.history_lock.proofs.Opening.{opens_one}
use Rattle.history_lock.proofs.lock.make_passes.Goals as goal

pub split_seat-next-requires : goal.split_seat-next-requires
split_seat-next-requires g c = (search rules, search rules, opens_one g.T.Told.list g.T.Told.by _ _ c.loop-number.seat.me.0 (search rules) (search rules) (search rules) (search rules))
