-- What the archive says of it, as it says it.
use Rattle.std.proofs.Common.{ap}
use Rattle.std.proofs.lemmas.Bool.{eqb-false, eqb-true}
use Rattle.archive_shelf.specs.declared.counts.Counts.{Counts}
use Rattle.vault_turns.proofs.CommitLaws.{differs_by}
use Rattle.vault_turns.proofs.commit.stored.Goals as goal

pub returns-clause-stores : goal.returns-clause-stores
returns-clause-stores g c = c.store_after-answer.ensures.stores

pub returns-clause-began : goal.returns-clause-began
returns-clause-began g c =
    differs_by _ c.counts.result.volumes c.counts-before.result.volumes _ _ (eqb-true c.counts.result.volumes c.counts-before.result.volumes)
    (eqb-false c.counts.result.volumes c.counts-before.result.volumes) (ap (λ (k : Counts). k.volumes) c.counts.ensures)
    (ap (λ (k : Counts). k.volumes) c.counts-before.ensures)

pub returns-clause-shows : goal.returns-clause-shows
returns-clause-shows g c = c.shows_its_book.ensures.shows
