-- Each pass that comes back is a member.
use Rattle.std.proofs.Common.{List, [], ◌∷◌, ◌++◌, ap, sym, subst, ◌∙◌, append_assoc, rules}
use Rattle.std.specs.List.{All}
use Rattle.std.specs.Vec.Iter.{into_iter_items}
use Rattle.std.proofs.lemmas.List.Elements.{All-append, All-from_recursion}
use Rattle.vault.specs.Company.{Passing}
use Rattle.vault.specs.Members.{IsMember}
use Rattle.proxy_run.proofs.seating.stand_up.Goals as goal

pub rising-init : goal.rising-init
rising-init g c = record {
  all = search rules;
  members = subst (λ (l : List Passing). All (λ (p : Passing). IsMember g.J.Naming.vault p.known) l) (sym c.requires.none)
      (All-from_recursion (λ (p : Passing). IsMember g.J.Naming.vault p.known) [] tt);
  count = search rules;
  room = search rules;
}

pub rising-preserved : goal.rising-preserved
rising-preserved g c =
    let i = c.rising.invariant in
    let P = λ (p : Passing). IsMember g.J.Naming.vault p.known in
    record {
      all =
          ap (λ (l : List Passing). l ++ into_iter_items c.next.new.self) c.push_reserved.ensures.items
          ∙ (append_assoc c.rising.passes.items (c.into_pass.result ∷ []) (into_iter_items c.next.new.self)
          ∙ (ap (λ (p : Passing). c.rising.passes.items ++ p ∷ into_iter_items c.next.new.self) c.into_pass.ensures.same
          ∙ (ap (λ (l : List Passing). c.rising.passes.items ++ l) (sym c.in-Some.ensures.items) ∙ i.all)));
      members = subst (λ (l : List Passing). All P l) (sym c.push_reserved.ensures.items)
          (All-append P c.rising.passes.items (c.into_pass.result ∷ []) i.members (All-from_recursion P (c.into_pass.result ∷ []) (c.into_pass.ensures.member, tt)));
      count = search rules;
      room = search rules;
    }
