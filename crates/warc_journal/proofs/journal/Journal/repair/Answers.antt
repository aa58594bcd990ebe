use Rattle.std.proofs.Common.{◌∙◌, sym}
use Rattle.warc_journal.specs.Journals.{texts}
use Rattle.warc_journal.proofs.Composing.{not_prepared, repaired}
use Rattle.warc_journal.proofs.Preparing.{prepared_twice}
use Rattle.warc_journal.proofs.journal.Journal.repair.Goals as goal

pub returns-in_err-clear_further-clause-change : goal.returns-in_err-clear_further-clause-change
returns-in_err-clear_further-clause-change g c told =
    let d = g.D.Disk in
    let m = g.met.D.Disk in
    let old = c.args.self.now in
    not_prepared d m.now_counts m.now_only old c.clear_further.new.self (texts d old)
    c.from_residual.result c.from_residual.ensures.0 (c.clear_further.ensures.prepared told)

pub returns-clause-change : goal.returns-clause-change
returns-clause-change g c told =
    let d = g.D.Disk in
    let m = g.met.D.Disk in
    let old = c.args.self.now in
    repaired d m.now_counts m.now_only old c.mend_last.new.self c.mend_last.result
    (prepared_twice d m.now_counts m.now_only old c.clear_further.new.self c.mend_last.new.self (c.clear_further.ensures.prepared told) (c.mend_last.ensures.prepared told))
    (c.mend_last.ensures.in_step told)
    c.mend_last.ensures.clean
    (λ unknown. c.in_ok-clear_further.ensures.known (sym c.mend_last.ensures.further ∙ unknown))
