use Rattle.std.proofs.Common.{◌∙◌, subst, sym, ap}
use Rattle.index_snapshot.specs.Edges.{Edge}
use Rattle.index_snapshot.specs.Listings.{IsOf}
use Rattle.index_snapshot.specs.Publishing.{IsAt, State}
use Rattle.index_snapshot.proofs.Rules.{stays}
use Rattle.index_snapshot.proofs.publisher.show.Goals as goal

pub publish_as-requires : goal.publish_as-requires
publish_as-requires g c next is =
    let whole = subst (λ (p : State _). IsAt g.B.Brings.entries g.B.Brings.fits p c.args.full.now) (sym is) c.requires.whole in
    let tied = subst (λ (e : Edge _). IsOf g.B.Brings.entries g.B.Brings.fits next.index e.items) (sym whole.1) whole.0 in
    stays g.B.Brings.entries g.B.Brings.fits _ _ c.args.copies.desk.shown.value next tied (ap (λ (e : Edge _). e.of) whole.1 ∙ sym c.requires.of)
