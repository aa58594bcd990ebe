use Rattle.std.specs.Prelude.{◌<◌, IsTrue}
use Rattle.warc_journal.specs.Journals.{IsInStep, volumes}
use Rattle.bench_stock.proofs.pages.add_volume.Given as goal

abbrev pub invariant-adding : goal.invariant-adding
invariant-adding g l = (0 < volumes l.journal) × (IsTrue g.D.Disk.tells → IsInStep g.D.Disk l.journal)
