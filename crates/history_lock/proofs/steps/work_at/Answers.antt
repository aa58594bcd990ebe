use Rattle.std.proofs.Common.{◌-◌, subst}
use Rattle.history_lock.proofs.Turns.{seen_of, left_of, worked_of}
use Rattle.history_lock.proofs.steps.work_at.Goals as goal

pub act-reply-requires : goal.act-reply-requires
act-reply-requires g c = let h = c.requires.holds in
    subst (λ xs. g.W.Work.ready c.args.work xs) (seen_of g.T.Told.list g.T.Told.by h.0 c.args.seat.now.me c.take-value.result h.1 c.take-value.ensures.taken.0) c.requires.ready

pub note_all-requires-clause-left : goal.note_all-requires-clause-left
note_all-requires-clause-left g c = let h = c.requires.holds in
    left_of g.T.Told.list g.T.Told.by c.args.number h.0 (c.told.result - c.told-found.result) c.args.seat.now.me c.take-value.new.seat.me c.give.new.seat.me c.take-value.result c.act-reply.new.value (λ added. g.W.Work.does c.args.work c.args.number (g.T.Told.list c.take-value.result) added c.act-reply.result)
    h.1 c.take-value.ensures.taken.0 c.take-value.ensures.taken.1 c.act-reply.ensures c.give.ensures.given c.requires.numbered (λ i. c.told.ensures i - c.told-found.ensures i)

pub returns-clause-worked : goal.returns-clause-worked
returns-clause-worked g c = let h = c.requires.holds in
    worked_of g.T.Told.list g.T.Told.by c.args.number h.0 c.args.seat.now.me c.take-value.new.seat.me c.give.new.seat.me c.note_all.new.seat.me c.take-value.result c.act-reply.new.value (λ found added. g.W.Work.does c.args.work c.args.number found added c.act-reply.result)
    h.1 c.take-value.ensures.taken.0 c.take-value.ensures.taken.1 c.act-reply.ensures c.give.ensures.given c.note_all.ensures.noted
