use Rattle.std.proofs.Common.{subst, sym}
use Rattle.index_entry.specs.Facts.{Facts}
use Rattle.index_entry.specs.Queries.{IsNearest}
use Rattle.archive_index.specs.Shown.{numbered}
use Rattle.archive_index.proofs.FindingLaws as laws
use Rattle.archive_index.proofs.finding.nearest_by.Goals as goal

pub returns-in-Some : goal.returns-in-Some
returns-in-Some g c =
    subst (λ (entry : Facts). IsNearest (numbered c.args.index.now) c.args.key.now c.args.time entry) (sym c.in_ok-copy-in-Some.ensures)
    (laws.nearest_shown c.args.index.now c.args.key.now c.args.time c.in-Some.entry.now c.in-Some.ensures.some)

pub returns : goal.returns
returns g c = laws.none_shown c.args.index.now c.args.key.now c.in-None.ensures.none
