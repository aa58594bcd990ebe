use Rattle.std.proofs.Common.{◌≡◌, ◌∷◌, refl, sym, ap, ◌∙◌, subst, drop}
use Rattle.history_lock.specs.Seen.{Shows}
use Rattle.history_lock.specs.Known.{known_of, sole}
use Rattle.history_lock.proofs.Passes.{numbered_of, pass_of}
use Rattle.history_lock.proofs.Turns.{came, shown, turn_of, stays, rested}
use Rattle.history_lock.proofs.lock.HistoryLock.turn.Given.{Over}
use Rattle.history_lock.proofs.lock.HistoryLock.turn.Goals as goal

pub work_at-reply-requires-clause-holds : goal.work_at-reply-requires-clause-holds
work_at-reply-requires-clause-holds g c = (c.enter-ticket.result, came g.T.Told.list g.T.Told.by _ _ _ c.enter-ticket.ensures.entered)

pub work_at-reply-requires-clause-numbered : goal.work_at-reply-requires-clause-numbered
work_at-reply-requires-clause-numbered g c = subst (λ ns. ns ≡ c.pass.inside.number ∷ drop 1 ns) (sym (ap (λ m. m.0.numbers) c.enter-ticket.ensures.entered.me_is)) (numbered_of _ _ _ c.pass.invariant c.take_seat-seat.ensures.1)

pub work_at-reply-requires-clause-ready : goal.work_at-reply-requires-clause-ready
work_at-reply-requires-clause-ready g c =
    let found = c.enter-ticket.new.seat.me.0.seen in
    let same = ap (λ m. known_of c.pass.inside.badge.table_id c.pass.inside.number m.0) c.take_seat-seat.ensures.1 ∙ c.pass.view_is in
    c.requires.ready found (subst (λ p. Shows g.T.Told.by p.passes p.numbers p.seen found) same (shown g.T.Told.list g.T.Told.by _ _ _ c.enter-ticket.ensures.entered))

pub pass_on-requires-clause-holds : goal.pass_on-requires-clause-holds
pass_on-requires-clause-holds g c = c.work_at-reply.ensures.worked.holds _ (came g.T.Told.list g.T.Told.by _ _ _ c.enter-ticket.ensures.entered)

pass_is : (g : Over) (c : goal.After-drop-badge g) → known_of c.pass.inside.badge.table_id c.pass.inside.number c.take_seat-seat.result.me.0 ≡ c.args.pass.now
pass_is g c = ap (λ m. known_of c.pass.inside.badge.table_id c.pass.inside.number m.0) c.take_seat-seat.ensures.1 ∙ c.pass.view_is

view_is : (g : Over) (c : goal.After-drop-badge g) → sole c.into_badge.result.views ≡ c.pass_on.new.seat.me.0
view_is g c = ap sole c.into_badge.ensures.2

pub returns-clause-turn : goal.returns-clause-turn
returns-clause-turn g c =
    let number = c.pass.inside.number in
    let made = turn_of g.T.Told.list g.T.Told.by c.pass.inside.badge.table_id number _ c.take_seat-seat.result.me.0 c.enter-ticket.new.seat.me c.work_at-reply.new.seat.me c.pass_on.new.seat.me (λ found added. g.W.Work.does c.args.work number found added c.work_at-reply.result)
    c.enter-ticket.ensures.entered c.work_at-reply.ensures.worked c.pass_on.ensures.rests in
    rw (sym (pass_is g c), view_is g c) made

pub returns-clause-same : goal.returns-clause-same
returns-clause-same g c =
    let s = stays g.T.Told.list g.T.Told.by _ _ _ _ _ _ _ c.enter-ticket.ensures.entered c.work_at-reply.ensures.worked c.pass_on.ensures.rests in
    let table : c.into_badge.result.table_id ≡ c.pass.inside.badge.table_id = c.into_badge.ensures.0 ∙ c.pass_on.ensures.same.0 ∙ c.work_at-reply.ensures.same.0 ∙ c.enter-ticket.ensures.same.0 ∙ c.take_seat-seat.ensures.0 in
    rw (sym (pass_is g c), view_is g c) (table, refl, s.0, s.1)

pub invariant_of-pass : goal.invariant_of-pass
invariant_of-pass g c = pass_of c.pass.inside.number c.pass_on.new.seat.me _ (rested g.T.Told.list g.T.Told.by _ _ _ _ _ _ _ c.enter-ticket.ensures.entered c.work_at-reply.ensures.worked c.pass_on.ensures.rests (numbered_of _ _ _ c.pass.invariant c.take_seat-seat.ensures.1)) c.into_badge.ensures.2
