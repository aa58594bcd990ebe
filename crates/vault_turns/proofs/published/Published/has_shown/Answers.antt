use Rattle.std.proofs.Common.{List, sym, ap, subst, ◌∙◌}
use Rattle.std.specs.Prelude.{Contains}
use Rattle.index_snapshot.specs.Edges.{Edge}
use Rattle.index_snapshot.specs.Entries.{entries_in}
use Rattle.vault_lists.specs.Items.{brings_of, shown_in}
use Rattle.vault_lists.specs.declared.item.Item.{Item}
use Rattle.vault_turns.specs.Guarded.{AreShown, Publication}
use Rattle.vault_turns.specs.History.{Names}
use Rattle.vault_turns.proofs.SeenLaws.{names_one, prefix_if, shown_there}
use Rattle.vault_turns.proofs.published.Published.has_shown.Goals as goal

pub begins-requires : goal.begins-requires
begins-requires g c =
    ap (λ (e : Edge Item). e.of) c.note-all.ensures
    ∙ names_one c.self.inside.keeping.history c.args.seen.now.of c.self.inside.publisher.of
    (subst (λ (p : Publication _). Names p.kept.history c.args.seen.now.of) (sym c.self.view_is) c.requires) c.self.invariant.named

pub returns : goal.returns
returns g c begins =
    let seen = c.args.seen.now.items in
    let all = c.note-all.result.items in
    subst (λ (p : Publication _). AreShown (shown_in seen) p.kept.holdings) c.self.view_is
    (λ e has. c.self.invariant.shown e (subst (λ (l : List Item). Contains (entries_in brings_of l) e) (ap (λ (edge : Edge Item). edge.items) c.note-all.ensures)
    (shown_there all seen (prefix_if c.begins.result seen all c.begins.ensures begins) e has)))
