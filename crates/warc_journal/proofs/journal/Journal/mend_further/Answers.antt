use Rattle.std.proofs.Common.{[], subst}
use Rattle.disk_model.specs.Crash.{Leaves}
use Rattle.disk_model.specs.Moments.{AddsOnly}
use Rattle.gated_file.specs.Files.{IsAdded, IsFinished, KeepsText}
use Rattle.gated_file.specs.declared.file.GatedFile.{GatedFile}
use Rattle.warc_journal.proofs.Preparing.{further_cleared, further_failed, further_prepared, no_file}
use Rattle.warc_journal.proofs.journal.Journal.mend_further.Goals as goal

pub returns-in_err-mend-clause-prepared : goal.returns-in_err-mend-clause-prepared
returns-in_err-mend-clause-prepared g c told =
    let d = g.D.Disk in
    let m = g.met.D.Disk in
    let old = c.args.self.now in
    let new = c.mend.new.disk in
    further_prepared d m.now_counts m.now_only old new (c.requires.in_step told) c.requires.unknown
    (subst (λ (f : GatedFile). KeepsText f (d.reading old.disk) (d.reading new)) c.further_file.ensures (c.mend.ensures.stays told))
    (subst (λ (f : GatedFile). AddsOnly d.moment d.images_since old.disk new (IsFinished f (d.reading old.disk) (d.images old.disk))) c.further_file.ensures (c.mend.ensures.leaves told))
    old.extent.is_dirty old.extent.further

pub returns-in_err-mend-clause-in_step : goal.returns-in_err-mend-clause-in_step
returns-in_err-mend-clause-in_step g c told =
    let d = g.D.Disk in
    let m = g.met.D.Disk in
    let old = c.args.self.now in
    let new = c.mend.new.disk in
    further_failed d m.now_counts m.now_only old new (c.requires.in_step told) c.requires.unknown
    (subst (λ (f : GatedFile). KeepsText f (d.reading old.disk) (d.reading new)) c.further_file.ensures (c.mend.ensures.stays told))
    (subst (λ (f : GatedFile). AddsOnly d.moment d.images_since old.disk new (IsFinished f (d.reading old.disk) (d.images old.disk))) c.further_file.ensures (c.mend.ensures.leaves told))

pub returns-clause-prepared : goal.returns-clause-prepared
returns-clause-prepared g c told =
    let d = g.D.Disk in
    let m = g.met.D.Disk in
    let old = c.args.self.now in
    let new = c.mend.new.disk in
    further_prepared d m.now_counts m.now_only old new (c.requires.in_step told) c.requires.unknown
    (subst (λ (f : GatedFile). KeepsText f (d.reading old.disk) (d.reading new)) c.further_file.ensures (c.mend.ensures.stays told))
    (subst (λ (f : GatedFile). AddsOnly d.moment d.images_since old.disk new (IsFinished f (d.reading old.disk) (d.images old.disk))) c.further_file.ensures (c.mend.ensures.leaves told))
    old.extent.is_dirty _

pub returns-clause-in_step : goal.returns-clause-in_step
returns-clause-in_step g c told =
    let d = g.D.Disk in
    let m = g.met.D.Disk in
    let old = c.args.self.now in
    let new = c.mend.new.disk in
    further_cleared d m.now_counts m.now_only old new (c.requires.in_step told) c.requires.unknown
    (subst (λ (f : GatedFile). KeepsText f (d.reading old.disk) (d.reading new)) c.further_file.ensures (c.mend.ensures.stays told))
    (subst (λ (f : GatedFile). AddsOnly d.moment d.images_since old.disk new (IsFinished f (d.reading old.disk) (d.images old.disk))) c.further_file.ensures (c.mend.ensures.leaves told))
    (subst (λ (f : GatedFile). Leaves (d.images new) (IsAdded f (d.reading old.disk) (d.images old.disk) [])) c.further_file.ensures (c.in_ok-mend.ensures.only told))

pub returns-in_err-mend-clause-no_file : goal.returns-in_err-mend-clause-no_file
returns-in_err-mend-clause-no_file g c told =
    let d = g.D.Disk in
    no_file _ _ _ (d.reading c.args.self.now.disk) (d.reading c.mend.new.disk) (c.mend.ensures.stays told)

pub returns-clause-no_file : goal.returns-clause-no_file
returns-clause-no_file g c told =
    let d = g.D.Disk in
    no_file _ _ _ (d.reading c.args.self.now.disk) (d.reading c.mend.new.disk) (c.mend.ensures.stays told)
