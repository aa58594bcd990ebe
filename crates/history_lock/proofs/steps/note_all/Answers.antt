use Rattle.std.proofs.Common.{rules}
use Rattle.history_lock.proofs.Noting.{can_note, left_after, still}
use Rattle.history_lock.proofs.steps.note_all.Goals as goal

pub fetch_add-requires : goal.fetch_add-requires
fetch_add-requires g c = (search rules, search rules, can_note g.T.Told.list g.T.Told.by _ _ _ c.loop-left.left c.loop-left.seat.me c.loop-left.invariant.1 (search rules))

pub loop-left-preserved : goal.loop-left-preserved
loop-left-preserved g c = let i = c.loop-left.invariant in let e = c.fetch_add.ensures.2 in (
  (search rules, search rules),
  left_after g.T.Told.list g.T.Told.by c.loop-left.left c.loop-left.seat.me c.fetch_add.new.seat.me i.1 (search rules) e,
  still g.T.Told.list g.T.Told.by c.args.seat.now.me c.loop-left.seat.me c.fetch_add.new.seat.me i.2 e,
)
