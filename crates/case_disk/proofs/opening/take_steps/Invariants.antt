use Rattle.std.specs.Prelude.{IsTrue}
use Rattle.warc_journal.specs.Journals.{IsInStep}
use Rattle.case_disk.proofs.opening.take_steps.Given as goal

abbrev pub invariant-working : goal.invariant-working
invariant-working g l = IsTrue g.D.Disk.tells → IsInStep g.D.Disk l.journal
