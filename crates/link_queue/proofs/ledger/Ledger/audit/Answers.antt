use Rattle.std.proofs.Common.{rules, ◌+◌, ◌<◌, ◌≡◌, ap, ◌∙◌, subst, arith}
use Rattle.link_queue.specs.Rule.{keeper, sole}
use Rattle.link_queue.proofs.Keeps.{joins, audits_all}
use Rattle.link_queue.proofs.Shares.{same_view, whole_of}
use Rattle.link_queue.proofs.ledger.Ledger.audit.Goals as goal

pub join_seat-requires : goal.join_seat-requires
join_seat-requires g c =
    let is = same_view c.store.inside.badge.views (keeper (sole c.store.inside.badge.views).held) _ c.store.invariant.1 c.into_seat-seat.ensures.2 in
    (search rules, search rules, search rules, search rules, joins _ _ _ _ (subst (λ v. 0 < v.parts) is (omega arith)))

pub load-requires : goal.load-requires
load-requires g c =
    let is = same_view c.store.inside.badge.views (keeper (sole c.store.inside.badge.views).held) _ c.store.invariant.1 c.into_seat-seat.ensures.2 in
    let some : 0 < c.into_seat-seat.result.me.0.parts = subst (λ v. 0 < v.parts) is (omega arith) in
    let sum : c.join_seat.new.seat.me.0.parts ≡ c.into_seat-seat.result.me.0.parts + c.into_seat.result.me.0.parts = ap (λ m. m.0.parts) c.join_seat.ensures.2 in
    (search rules, search rules, audits_all _ 0 _ _ (omega (arith, sum, some)))

pub returns : goal.returns
returns g c = rw (← c.share.view_is, ← c.store.view_is) (whole_of c.store.inside.badge.views c.share.inside.badge.views c.into_seat-seat.result.me.0 c.into_seat.result.me.0 c.join_seat.new.seat.me.0
    c.store.invariant.1 c.into_seat-seat.ensures.2 c.share.invariant.1 c.into_seat.ensures.2 (ap (λ m. m.0) c.join_seat.ensures.2) (ap (λ a. a.parts) c.share.view_is ∙ c.requires) c.load.ensures.2.1)
