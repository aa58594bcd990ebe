use Rattle.std.proofs.Common.{rules, ◌<◌, subst, arith}
use Rattle.link_queue.specs.Rule.{founder}
use Rattle.link_queue.proofs.Keeps.{cuts}
use Rattle.link_queue.proofs.Shares.{same_view}
use Rattle.link_queue.proofs.ledger.Blank.named.Goals as goal

pub split_seat-store-requires : goal.split_seat-store-requires
split_seat-store-requires g c =
    let is = same_view _ founder c.into_seat-seat.result.me.0 c.self.invariant.2 c.into_seat-seat.ensures.2 in
    (search rules, search rules, cuts _ _ (subst (λ v. 1 < v.parts) is (omega arith)))
