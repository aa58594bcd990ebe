use Rattle.std.proofs.Common.{refl, subst, sym, ap, ◌∙◌, length}
use Rattle.capture.specs.Captures.{captures}
use Rattle.archive_core.specs.Holdings.{Holdings}
use Rattle.archive_shelf.specs.declared.counts.Counts.{Counts}
use Rattle.index_snapshot.specs.Edges.{Edge}
use Rattle.index_snapshot.specs.Entries.{entries_in}
use Rattle.vault_lists.specs.Items.{brings_of}
use Rattle.vault_lists.specs.declared.item.Item.{Item}
use Rattle.vault_turns.specs.Guarded.{AreShown}
use Rattle.vault_turns.specs.History.{Names, is_told}
use Rattle.vault_turns.proofs.PublishLaws.{first_publishes}
use Rattle.vault_turns.proofs.published.Published.begin.Goals as goal

pub invariant_of-result : goal.invariant_of-result
invariant_of-result g c = first_publishes c.growth_keeps_captures.ensures.itself (is_told c.in-Ok-begin.keeping.history) c.in-Ok-begin.keeping.history c.in-Ok-begin.keeping.holdings
    c.in-Ok.made.0 c.counts-appended.result.captures
    (subst (λ (e : Edge Item). Names c.in-Ok-begin.keeping.history e.of) c.note-list.ensures c.in-Ok-begin.ensures.names)
    refl (c.in-Ok.ensures.told ∙ sym c.in-Ok-begin.ensures.told) c.in-Ok.ensures.fits
    (subst (λ (h : Holdings _). AreShown (entries_in brings_of c.in-Ok.made.0.full) h) (sym c.in-Ok-begin.ensures.holds) c.in-Ok.ensures.shown)
    (c.in-Ok.ensures.book ∙ ap (λ (h : Holdings _). h.book) (sym c.in-Ok-begin.ensures.holds))
    (ap (λ (n : Counts). n.captures) c.counts-appended.ensures ∙ ap (λ (h : Holdings _). length (captures h.book)) (sym c.in-Ok-begin.ensures.holds))
