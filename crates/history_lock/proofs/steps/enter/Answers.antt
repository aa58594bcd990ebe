use Rattle.std.proofs.Common.{rules}
use Rattle.history_lock.proofs.Keeps.{draws, looks}
use Rattle.history_lock.proofs.steps.enter.Goals as goal

pub fetch_add-ticket-requires : goal.fetch_add-ticket-requires
fetch_add-ticket-requires g c = (search rules, search rules, draws g.T.Told.list g.T.Told.by _ _ _ c.args.seat.now.me.0 _ (search rules))

pub load-serving-requires : goal.load-serving-requires
load-serving-requires g c = let i = c.loop.invariant.1 in
    (search rules, search rules, looks g.T.Told.list g.T.Told.by _ _ _ i.0 c.loop.seat.me.0 _ (search rules) (search rules))
