use Rattle.std.proofs.Common.{◌++◌, ◌∷◌, [], List, Option, ap, drop, fold, subst, sym, ◌∙◌}
use Rattle.std.specs.Prelude.{option_to_list}
use Rattle.index_snapshot.specs.Edges.{Edge, head_of}
use Rattle.index_snapshot.specs.Entries.{IsNew, entries_in}
use Rattle.index_snapshot.specs.Listings.{IsTied, Names}
use Rattle.index_snapshot.specs.Publishing.{IsAt, Print, State, applied}
use Rattle.index_snapshot.specs.declared.listing.Addition.{Addition}
use Rattle.index_snapshot.proofs.Appending.{appended}
use Rattle.index_snapshot.proofs.Outcomes.{none_at_false}
use Rattle.index_snapshot.proofs.publisher.Publisher.append.Goals as goal
use Rattle.left_right.specs.Sides.{view}

pub invariant_of-self : goal.invariant_of-self
invariant_of-self g c =
    let brings = g.B.Brings.entries in
    let Fits = g.B.Brings.fits in
    let was = c.self.invariant in
    let longer = c.in-Some.ensures in
    let none = none_at_false c.self.inside.held (sym c.is_some.ensures ∙ c.if-is_some.false) in
    let s : State _ = (c.self.inside.copies.desk.shown.value.index, c.self.inside.copies.desk.shown.value.note) in
    let pending = drop c.self.inside.copies.behind c.self.inside.copies.log.items in
    let before = subst (λ (h : Option (Addition _)). IsAt brings Fits (fold applied s (pending ++ option_to_list h)) c.self.inside.full) none was.whole in
    let items = ap (λ (p : Print _). p.full) (c.self.view_is ∙ c.in_ok-settle.ensures.same) in
    let next = subst (λ (is : List _). IsNew (entries_in brings is) c.args.place) (sym items) c.requires.new in
    let fits = subst (λ (is : List _). Fits (is ++ c.args.item.now ∷ [])) (sym items) c.requires.fits in
    let now = drop c.put.new.copies.behind c.put.new.copies.log.items ++ option_to_list c.put.new.held in
    let added : Addition _ = record { place = c.args.place; note = c.again.result } in
    let after : IsAt brings Fits (fold applied s now) c.in-Some.full = appended brings Fits s pending now c.self.inside.full c.in-Some.full added c.args.item.now before c.put.ensures.all longer c.again.ensures c.requires.place next fits in
    record {
      word_is = was.word_is ∙ sym (ap (λ (e : Edge _). head_of e.of) longer);
      tied = subst (λ d. IsTied brings Fits d.shown.value) (sym c.put.ensures.desk) was.tied;
      shown_is = ap (λ d. d.shown.value.note) c.put.ensures.desk ∙ was.shown_is;
      of_is = was.of_is ∙ sym (ap (λ (e : Edge _). e.of) longer);
      whole = subst (λ d. IsAt brings Fits (fold applied (d.shown.value.index, d.shown.value.note) now) c.in-Some.full) (sym c.put.ensures.desk) after;
      named = subst (λ d. Names c.in-Some.full.of (view d.place)) (sym c.put.ensures.desk) (subst (λ b. Names b (view c.self.inside.copies.desk.place)) (sym (ap (λ (e : Edge _). e.of) longer)) was.named);
    }
