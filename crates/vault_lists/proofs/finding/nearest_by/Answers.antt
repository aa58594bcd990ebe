use Rattle.std.proofs.Common.{ap}
use Rattle.index_entry.specs.Facts.{Facts}
use Rattle.vault_lists.proofs.FindingLaws.{found_number, if_ok}
use Rattle.vault_lists.proofs.finding.nearest_by.Goals as goal

pub returns-in-Some : goal.returns-in-Some
returns-in-Some g c =
    if_ok c.shared.result _ _ (λ found is. found_number c.args.index.now c.args.key.now c.args.time c.entry.inside.number c.in-Some.entry.now c.requires.indexed
    c.in-Some.ensures.some (ap (λ (f : Facts). f.number) c.entry.view_is) found is) c.shared.ensures
