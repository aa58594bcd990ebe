use Rattle.std.proofs.Common.{rules}
use Rattle.history_lock.proofs.Keeps.{empties}
use Rattle.history_lock.proofs.steps.leave_empty.Goals as goal

pub load-requires : goal.load-requires
load-requires g c = (search rules, search rules, empties g.T.Told.list g.T.Told.by _ _ _ c.args.seat.now.me.0 _ c.requires.holds.0 c.requires.holds.1)
