use Rattle.std.proofs.Common.{◌≡◌, [], ◌++◌, List, ap, fold, subst, sym, ◌∙◌}
use Rattle.std.specs.List.{All}
use Rattle.index_snapshot.specs.Edges.{Edge}
use Rattle.index_snapshot.specs.Listings.{IsOf, IsTied}
use Rattle.index_snapshot.specs.Publishing.{IsAt, applied}
use Rattle.index_snapshot.specs.declared.listing.Addition.{Addition}
use Rattle.index_snapshot.specs.declared.listing.Listing.{Listing}
use Rattle.index_snapshot.proofs.Outcomes.{at_ok}
use Rattle.index_snapshot.proofs.Rules.{alone, tied_by}
use Rattle.index_snapshot.proofs.publisher.published.Goals as goal

pub new-requires-clause-rule : goal.new-requires-clause-rule
new-requires-clause-rule g c =
    let items = ap (λ (e : Edge _). e.items) c.again.ensures ∙ c.in_ok-full.ensures.items in
    alone g.B.Brings.entries g.B.Brings.fits _ (subst (IsOf g.B.Brings.entries g.B.Brings.fits c.args.first) (sym items) (record { has = c.requires.has; fits = c.requires.fits }))

pub begin-copies-requires-clause-tied : goal.begin-copies-requires-clause-tied
begin-copies-requires-clause-tied g c =
    let items = ap (λ (e : Edge _). e.items) c.again.ensures ∙ c.in_ok-full.ensures.items in
    let tied = subst (IsOf g.B.Brings.entries g.B.Brings.fits c.args.first) (sym items) (record { has = c.requires.has; fits = c.requires.fits }) in
    subst (IsTied g.B.Brings.entries g.B.Brings.fits) (sym c.in_ok-copies.ensures.0) tied

pub invariant_of-publisher : goal.invariant_of-publisher
invariant_of-publisher g c =
    let brings = g.B.Brings.entries in
    let Fits = g.B.Brings.fits in
    let items = ap (λ (e : Edge _). e.items) c.again.ensures ∙ c.in_ok-full.ensures.items in
    let made = subst (IsTied brings Fits) (sym c.in_ok-copies.ensures.0) (subst (IsOf brings Fits c.args.first) (sym items) (record { has = c.requires.has; fits = c.requires.fits })) in
    let ok = sym c.is_err.ensures.value ∙ c.if-is_err.false in
    let now = c.make_viewers.new.copies.desk.shown.value in
    let shown = ap (λ s. s.value) c.make_viewers.ensures.shown in
    let index = ap (λ (l : Listing _). l.index) shown ∙ at_ok _ _ ok c.begin-copies.ensures.index in
    let note = ap (λ (l : Listing _). l.note) shown ∙ at_ok _ _ ok c.begin-copies.ensures.note in
    let full : now.note ≡ c.in_ok-full.full = note ∙ ap (λ (l : Listing _). l.note) c.in_ok-copies.ensures.0 ∙ c.again.ensures in
    let tied : IsTied brings Fits now = tied_by brings Fits now c.in_ok-copies.copies.desk.shown.value index note made in
    let none = c.make_viewers.ensures.pending ∙ at_ok _ _ ok c.begin-copies.ensures.none in
    let has : IsOf brings Fits now.index c.in_ok-full.full.items = subst (λ (e : Edge _). IsOf brings Fits now.index e.items) full tied in
    record {
      word_is = c.in_ok-full.ensures.head;
      tied = tied;
      shown_is = full ∙ sym c.again-shown.ensures;
      of_is = ap (λ (e : Edge _). e.of) c.again-shown.ensures;
      whole = subst (λ (ops : List (Addition _)). IsAt brings Fits (fold applied (now.index, now.note) (ops ++ [])) c.in_ok-full.full) (sym none) (has, full);
      named = (c.in_ok-copies.copies.desk.shown.value.note, c.make_viewers.ensures.view ∙ at_ok _ _ ok c.begin-copies.ensures.knows, ap (λ (e : Edge _). e.of) (ap (λ (l : Listing _). l.note) c.in_ok-copies.ensures.0 ∙ c.again.ensures));
    }

pub returns-clause-viewers : goal.returns-clause-viewers
returns-clause-viewers g c =
    let ok = sym c.is_err-else-is_err.ensures.value ∙ c.if-is_err-2.false in
    let edge : c.in_ok-full.full ≡ record { of = c.in_ok-full.full.of; items = c.again-shown.result.items } = λ i. record { of = c.in_ok-full.full.of; items = (sym c.again-shown.ensures i).items } in
    (at_ok _ _ ok c.make_viewers.ensures.count, subst (λ (e : Edge _). All (λ (v : Edge _). v ≡ e) c.make_viewers.new.viewers.items) edge c.make_viewers.ensures.viewers)
