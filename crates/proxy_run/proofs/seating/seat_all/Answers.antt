-- The first pass that is left is a member, and so are the others.
use Rattle.std.proofs.Common.{List, [], ◌∷◌, ◌++◌, ap, sym, ◌∙◌, append_assoc, rules}
use Rattle.std.specs.Vec.Iter.{into_iter_items}
use Rattle.vault.specs.Company.{Passing}
use Rattle.vault.specs.Members.{IsMember}
use Rattle.vault.proofs.SeatLaws.{first_of, rest_of}
use Rattle.proxy_run.proofs.seating.seat_all.Goals as goal

pub new-requires-clause-member : goal.new-requires-clause-member
new-requires-clause-member g c =
    first_of (λ (p : Passing). IsMember g.J.Naming.vault p.known) c.in-Some.pass (into_iter_items c.next.new.self) (into_iter_items c.seating.rest)
    c.in-Some.ensures.items c.seating.invariant.members

pub seating-preserved : goal.seating-preserved
seating-preserved g c =
    let i = c.seating.invariant in
    record {
      all =
          ap (λ (l : List Passing). l ++ into_iter_items c.next.new.self) c.push_reserved.ensures.items
          ∙ (append_assoc c.seating.shelves.items (c.new.result ∷ []) (into_iter_items c.next.new.self)
          ∙ (ap (λ (p : Passing). c.seating.shelves.items ++ p ∷ into_iter_items c.next.new.self) c.new.ensures
          ∙ (ap (λ (l : List Passing). c.seating.shelves.items ++ l) (sym c.in-Some.ensures.items) ∙ i.all)));
      members =
          rest_of (λ (p : Passing). IsMember g.J.Naming.vault p.known) c.in-Some.pass (into_iter_items c.next.new.self) (into_iter_items c.seating.rest)
          c.in-Some.ensures.items i.members;
      count = search rules;
      room = search rules;
    }
