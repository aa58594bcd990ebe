use Rattle.std.proofs.Common.{List, [], ◌∷◌, ◌++◌, ap, sym, ◌∙◌, append_assoc, arith, map}
use Rattle.std.specs.Vec.Iter.{into_iter_items}
use Rattle.history_lock.specs.Known.{Known}
use Rattle.vault.specs.Company.{Passing}
use Rattle.vault_turns.specs.Listing.{IsListed}
use Rattle.vault_turns.specs.declared.noted.Noted.{Noted}
use Rattle.vault.proofs.SeatLaws.{first_of, rest_of}
use Rattle.vault.proofs.pass.seat_all.Goals as goal

pub seat-requires-clause-listed : goal.seat-requires-clause-listed
seat-requires-clause-listed c =
    first_of (λ (p : Known Noted). IsListed p.seen c.args.listed.now.note c.args.listed.now.whole) c.in-Some.known (into_iter_items c.next.new.self)
    (into_iter_items c.seating.queue) c.in-Some.ensures.items c.seating.invariant.listed

pub seating-preserved : goal.seating-preserved
seating-preserved c = record {
  known = ap (λ (l : List (Known Noted)). l ++ into_iter_items c.next.new.self) c.seat.ensures.known
      ∙ (append_assoc (map (λ (p : Passing). p.known) c.seating.room.items) (c.in-Some.known ∷ []) (into_iter_items c.next.new.self)
      ∙ (ap (λ (l : List (Known Noted)). map (λ (p : Passing). p.known) c.seating.room.items ++ l) (sym c.in-Some.ensures.items)
      ∙ c.seating.invariant.known));
  shown = c.seat.ensures.shown c.seating.invariant.shown;
  viewers = c.seat.ensures.viewers;
  listed = rest_of (λ (p : Known Noted). IsListed p.seen c.args.listed.now.note c.args.listed.now.whole) c.in-Some.known (into_iter_items c.next.new.self)
      (into_iter_items c.seating.queue) c.in-Some.ensures.items c.seating.invariant.listed;
  count = omega (arith, c.seat.ensures.count, c.in-Some.ensures.len, c.seating.invariant.count);
  many = omega (arith, c.seat.ensures.fewer, c.in-Some.ensures.len, c.seating.invariant.many);
  room = c.seat.ensures.capacity ∙ c.seating.invariant.room;
}
