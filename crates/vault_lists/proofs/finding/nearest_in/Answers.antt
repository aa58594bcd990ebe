use Rattle.std.proofs.Common.{sym, subst}
use Rattle.std.specs.Prelude.{Option}
use Rattle.index_entry.specs.Facts.{Facts}
use Rattle.archive_shelf.specs.Queries.{IsFound}
use Rattle.index_snapshot.specs.Edges.{Edge}
use Rattle.vault_lists.specs.Items.{shown_in}
use Rattle.vault_lists.specs.declared.item.Item.{Item}
use Rattle.vault_lists.proofs.FindingLaws.{found_shown, if_ok}
use Rattle.vault_lists.proofs.finding.nearest_in.Goals as goal

pub returns-in-Ok-nearest-clause-found : goal.returns-in-Ok-nearest-clause-found
returns-in-Ok-nearest-clause-found c =
    if_ok c.copied.result _ _ (λ entry is.
    subst (λ (e : Edge Item). IsFound (shown_in e.items) c.args.key.now c.args.time entry) (sym c.leave.ensures)
    (subst (λ (o : Option Facts). IsFound (shown_in c.in-Ok.view.items) c.args.key.now c.args.time o) (sym is)
    (found_shown c.growth_keeps_captures.ensures.keeps c.in-Ok.view.items c.index.ensures.fits c.index.result.now c.in-Ok-nearest.ensures.indexed c.index.ensures.has
    c.args.key.now c.args.time c.in-Ok-nearest.found c.in-Ok-nearest.ensures.found))) c.copied.ensures
