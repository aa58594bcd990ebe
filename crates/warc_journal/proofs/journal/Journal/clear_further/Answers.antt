use Rattle.std.proofs.Common.{sym, ◌∙◌}
use Rattle.std.proofs.lemmas.Bool.{false≢true}
use Rattle.disk_model.specs.declared.kind.Kind.TheVariants.{Warc}
use Rattle.warc_journal.specs.Journals.{texts}
use Rattle.warc_journal.proofs.Preparing.{further_absent, prepared_twice, texts_count}
use Rattle.warc_journal.proofs.journal.Journal.clear_further.Goals as goal

pub returns-then-branch-clause-prepared : goal.returns-then-branch-clause-prepared
returns-then-branch-clause-prepared g c told =
    let d = g.D.Disk in
    let m = g.met.D.Disk in
    prepared_twice d m.now_counts m.now_only c.args.self.now c.has_further.new.self c.mend_further.new.self (c.has_further.ensures.prepared told) (c.mend_further.ensures.prepared told)

pub returns-else-branch-clause-in_step : goal.returns-else-branch-clause-in_step
returns-else-branch-clause-in_step g c told =
    let d = g.D.Disk in
    let mid = c.has_further.new.self in
    further_absent mid.extent (texts d mid) (d.reading mid.disk) (d.images mid.disk)
    (λ i left. g.met.D.Disk.no_more_files mid.disk i Warc left)
    (λ less. false≢true (sym c.if-branch.false ∙ (c.in_ok-has_further-in-Unknown.ensures.there told).1 less))
    (texts_count d mid (c.has_further.ensures.in_step told))
    (c.has_further.ensures.in_step told)
