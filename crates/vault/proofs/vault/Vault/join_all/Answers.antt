use Rattle.std.proofs.Common.{◌≡◌, List, ◌∷◌, sym, subst, ◌∙◌}
use Rattle.std.specs.List.{All}
use Rattle.std.specs.Vec.Iter.{into_iter_items}
use Rattle.std.proofs.lemmas.List.Elements.{All-cons}
use Rattle.vault.specs.Company.{Passing}
use Rattle.vault.specs.Members.{IsMember}
use Rattle.vault.specs.Sharing.{IsShownIn}
use Rattle.vault.proofs.ClosingLaws.{first_shown, other_shown}
use Rattle.vault.proofs.SeatLaws.{first_of, rest_of}
use Rattle.vault.proofs.vault.Vault.join_all.Goals as goal

pub joining-init : goal.joining-init
joining-init g c =
    let left = into_iter_items c.next.new.self in
    let whole : c.args.passes.items ≡ c.in-Some.first ∷ left = sym c.into_iter-rest.ensures.rest ∙ c.in-Some.ensures.items in
    let member = first_of (λ (p : Passing). IsMember g.J.Naming.vault p.known) c.in-Some.first left c.args.passes.items whole c.requires.members in
    record {
      lock = member.lock_is;
      count = member.count;
      members = rest_of (λ (p : Passing). IsMember g.J.Naming.vault p.known) c.in-Some.first left c.args.passes.items whole c.requires.members;
      shown = λ history one others. subst (λ (l : List Passing). All (IsShownIn history) l) (sym whole) (All-cons (IsShownIn history) c.in-Some.first left one others);
    }

pub join-joined-requires-clause-other : goal.join-joined-requires-clause-other
join-joined-requires-clause-other g c =
    (first_of (λ (p : Passing). IsMember g.J.Naming.vault p.known) c.in-Some-next.pass (into_iter_items c.next-in-joining.new.self)
    (into_iter_items c.joining.rest) c.in-Some-next.ensures.items c.joining.invariant.members).lock_is ∙ sym c.requires.vault

pub joining-preserved : goal.joining-preserved
joining-preserved g c =
    let left = into_iter_items c.next-in-joining.new.self in
    let items = c.in-Some-next.ensures.items in
    let member = first_of (λ (p : Passing). IsMember g.J.Naming.vault p.known) c.in-Some-next.pass left (into_iter_items c.joining.rest) items c.joining.invariant.members in
    let numbers = c.join-joined.ensures.numbers in
    let same = c.joining.invariant.count ∙ sym member.count in
    record {
      lock = c.join-joined.ensures.of_vault ∙ c.requires.vault;
      count = numbers.2 ∙ c.joining.invariant.count;
      members = rest_of (λ (p : Passing). IsMember g.J.Naming.vault p.known) c.in-Some-next.pass left (into_iter_items c.joining.rest) items c.joining.invariant.members;
      shown = λ history one others. c.joining.invariant.shown history
          (first_shown history c.joining.joined c.in-Some-next.pass c.join-joined.result same numbers.2 numbers.1 one c.join-joined.ensures.pass)
          (subst (λ (l : List Passing). All (IsShownIn history) l) (sym items) (All-cons (IsShownIn history) c.in-Some-next.pass left
          (other_shown history c.joining.joined c.in-Some-next.pass c.join-joined.result same numbers.2 numbers.1 one c.join-joined.ensures.other) others));
    }
