use Rattle.std.proofs.Common.{◌≡◌, rules, refl, ap}
use Rattle.history_lock.specs.Known.{sole}
use Rattle.history_lock.proofs.Joining.{BothKnown, joins, both_known}
use Rattle.history_lock.proofs.Keeps.{settles}
use Rattle.history_lock.proofs.Passes.{pass_of}
use Rattle.history_lock.proofs.lock.HistoryLock.join.Given.{Over}
use Rattle.history_lock.proofs.lock.HistoryLock.join.Goals as goal

pub join_seat-requires : goal.join_seat-requires
join_seat-requires g c = (search rules, search rules, search rules, search rules, joins g.T.Told.list g.T.Told.by _ _ _ c.into_parts-seat.result.0.me.0 c.into_parts-joined.result.0.me.0 (search rules) (search rules) (search rules) (search rules))

pub load-requires : goal.load-requires
load-requires g c = (search rules, search rules, settles g.T.Told.list g.T.Told.by _ _ _ c.join_seat.new.seat.me.0 _ (search rules) (search rules))

pub into_badge-requires : goal.into_badge-requires
into_badge-requires g c = (both_known g.T.Told.by c.into_parts-seat.result.1 c.into_parts-seat.result.0.me c.into_parts-joined.result.0.me c.join_seat.new.seat.me c.load.new.seat.me c.into_parts-seat.ensures.rest c.join_seat.ensures.2 c.load.ensures.2).rest.empty_handed

both : (g : Over) (c : goal.After-into_badge g) → BothKnown g.T.Told.by c.into_parts-seat.result.1 c.into_parts-seat.result.0.me c.into_parts-joined.result.0.me c.load.new.seat.me
both g c = both_known g.T.Told.by _ _ _ c.join_seat.new.seat.me _ c.into_parts-seat.ensures.rest c.join_seat.ensures.2 c.load.ensures.2

view_is : (g : Over) (c : goal.After-into_badge g) → sole c.into_badge.result.views ≡ c.load.new.seat.me.0
view_is g c = ap sole c.into_badge.ensures.2

pub invariant_of-result : goal.invariant_of-result
invariant_of-result g c = pass_of _ _ _ (both g c).rest c.into_badge.ensures.2

pub returns-clause-numbers : goal.returns-clause-numbers
returns-clause-numbers g c = rw (c.into_parts-seat.ensures.known, c.into_parts-joined.ensures.known, view_is g c) (refl, (both g c).numbers, (both g c).passes)

pub returns-clause-one : goal.returns-clause-one
returns-clause-one g c = rw (c.into_parts-seat.ensures.known, c.into_parts-joined.ensures.known, view_is g c) (both g c).one

pub returns-clause-pass : goal.returns-clause-pass
returns-clause-pass g c = rw (c.into_parts-seat.ensures.known, view_is g c) (both g c).first

pub returns-clause-other : goal.returns-clause-other
returns-clause-other g c = rw (c.into_parts-seat.ensures.known, c.into_parts-joined.ensures.known, view_is g c) (both g c).second
