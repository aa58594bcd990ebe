use Rattle.warc_journal.proofs.Preparing.{prepared_twice}
use Rattle.warc_journal.proofs.journal.Journal.clean.Goals as goal

pub returns-then-self-clause-prepared : goal.returns-then-self-clause-prepared
returns-then-self-clause-prepared g c told =
    let d = g.D.Disk in
    let m = g.met.D.Disk in
    prepared_twice d m.now_counts m.now_only c.args.self.now c.clear_further.new.self c.mend_last.new.self (c.clear_further.ensures.prepared told) (c.mend_last.ensures.prepared told)
