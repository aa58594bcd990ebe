use Rattle.std.proofs.Common.{sym, subst, ◌∙◌}
use Rattle.std.specs.Prelude.{nat_eq}
use Rattle.std.specs.List.{starts_with}
use Rattle.index_snapshot.specs.Edges.{Edge}
use Rattle.archive_shelf.specs.Queries.{ArePicked}
use Rattle.vault_lists.specs.Items.{shown_in}
use Rattle.vault_lists.specs.declared.item.Item.{Item}
use Rattle.vault_lists.proofs.FindingLaws.{if_ok, picked_shown}
use Rattle.vault_lists.proofs.finding.starting_in.Goals as goal

pub returns-in-Ok-starting-clause-found : goal.returns-in-Ok-starting-clause-found
returns-in-Ok-starting-clause-found c =
    if_ok c.all_copied.result _ _ (λ entries is. record {
      picked = subst (λ (e : Edge Item). ArePicked (λ e. starts_with nat_eq e.key c.args.start.now) (shown_in e.items) entries.items) (sym c.leave.ensures)
          (picked_shown c.growth_keeps_captures.ensures.keeps c.in-Ok.view.items c.index.ensures.fits c.index.result.now c.in-Ok-starting.ensures.indexed c.index.ensures.has
          (λ e. starts_with nat_eq e.key c.args.start.now) entries.items (is ∙ c.as_slice.ensures.value ∙ c.in-Ok-starting.ensures.found));
    }) c.all_copied.ensures
