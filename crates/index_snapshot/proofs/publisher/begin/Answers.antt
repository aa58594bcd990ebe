use Rattle.std.proofs.Common.{◌≡◌, ◌∙◌, subst, sym, ap, fold}
use Rattle.index_snapshot.specs.Listings.{IsOf}
use Rattle.index_snapshot.specs.Publishing.{State, applied}
use Rattle.index_snapshot.proofs.Rules.{first}
use Rattle.index_snapshot.proofs.publisher.begin.Goals as goal

pub publish_as-requires : goal.publish_as-requires
publish_as-requires g c next is =
    let now = c.args.copies.desk.shown.value in
    let s : State _ = (now.index, now.note) in
    let same : (next.index, next.note) ≡ s = is ∙ ap (λ ops. fold applied s ops) c.requires.none in
    let tied = subst (λ (p : State _). IsOf g.B.Brings.entries g.B.Brings.fits p.0 (p.1).items) (sym same) c.requires.tied in
    first g.B.Brings.entries g.B.Brings.fits _ _ now next tied (ap (λ (p : State _). (p.1).of) same)
