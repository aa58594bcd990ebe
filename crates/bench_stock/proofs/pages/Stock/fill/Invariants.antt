use Rattle.std.specs.Prelude.{IsTrue}
use Rattle.warc_journal.specs.Journals.{IsInStep}
use Rattle.bench_stock.proofs.pages.Stock.fill.Given as goal

abbrev pub invariant-filling : goal.invariant-filling
invariant-filling g l = IsTrue g.D.Disk.tells → IsInStep g.D.Disk l.journal
