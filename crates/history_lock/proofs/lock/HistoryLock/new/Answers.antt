use Rattle.std.proofs.Common.{rules, ap, ◌∙◌, sym, length}
use Rattle.history_lock.proofs.Keeps.{begins, fills}
use Rattle.history_lock.proofs.lock.HistoryLock.new.Goals as goal

pub vacant-requires : goal.vacant-requires
vacant-requires g c = begins g.T.Told.list g.T.Told.by c.args.passes (g.T.Told.list c.of.result.value) c.told.result (c.told.ensures ∙ ap (λ x. length (g.T.Told.list x)) (sym c.of.ensures)) (search rules) c.requires.some (search rules) (rw c.of.ensures c.requires.before)

pub load-requires : goal.load-requires
load-requires g c = (search rules, search rules, fills g.T.Told.list g.T.Told.by _ _ _ 0 c.in-Ok-vacant.seat.me.0 _ (search rules))
