use Rattle.std.proofs.Common.{◌<◌, ◌≤◌, [], length, subst, sym, arith, false, true}
use Rattle.disk_model.specs.Crash.{Leaves}
use Rattle.disk_model.specs.Moments.{AddsOnly}
use Rattle.gated_file.specs.Files.{HoldsBefore, IsAdded, IsFinished, KeepsText, bytes_of}
use Rattle.gated_file.specs.declared.file.GatedFile.{GatedFile}
use Rattle.warc_journal.specs.Extents.{last_of}
use Rattle.warc_journal.proofs.Last.{last_failed, last_mended, last_prepared, last_within}
use Rattle.warc_journal.proofs.Preparing.{no_file}
use Rattle.warc_journal.proofs.journal.Journal.mend_last.Goals as goal

pub mend-requires-clause-in_range : goal.mend-requires-clause-in_range
mend-requires-clause-in_range g c told =
    let d = g.D.Disk in
    let m = g.met.D.Disk in
    let old = c.args.self.now in
    let some : 0 < old.extent.volumes = omega arith in
    subst (λ (f : GatedFile). f.end ≤ length (bytes_of f (d.reading old.disk))) (sym c.last_file-last.ensures)
    (last_within d m.now_counts m.now_only old old.disk (c.requires.in_step told) some c.requires.known)

pub returns-in_err-mend-clause-prepared : goal.returns-in_err-mend-clause-prepared
returns-in_err-mend-clause-prepared g c told =
    let d = g.D.Disk in
    let m = g.met.D.Disk in
    let old = c.args.self.now in
    let new = c.mend.new.disk in
    let some : 0 < old.extent.volumes = omega arith in
    last_prepared d m.now_counts m.now_only old new (c.requires.in_step told) some c.requires.known
    (subst (λ (f : GatedFile). KeepsText f (d.reading old.disk) (d.reading new)) c.last_file-last.ensures (c.mend.ensures.stays told)) true
    (subst (λ (f : GatedFile). AddsOnly d.moment d.images_since old.disk new (IsFinished f (d.reading old.disk) (d.images old.disk))) c.last_file-last.ensures (c.mend.ensures.leaves told))

pub returns-in_err-mend-clause-in_step : goal.returns-in_err-mend-clause-in_step
returns-in_err-mend-clause-in_step g c told =
    let d = g.D.Disk in
    let m = g.met.D.Disk in
    let old = c.args.self.now in
    let new = c.mend.new.disk in
    let some : 0 < old.extent.volumes = omega arith in
    last_failed d m.now_counts m.now_only old new (c.requires.in_step told) some c.requires.known
    (subst (λ (f : GatedFile). KeepsText f (d.reading old.disk) (d.reading new)) c.last_file-last.ensures (c.mend.ensures.stays told))
    (HoldsBefore (last_of old.extent) (d.reading old.disk))
    (subst (λ (f : GatedFile). AddsOnly d.moment d.images_since old.disk new (IsFinished f (d.reading old.disk) (d.images old.disk))) c.last_file-last.ensures (c.mend.ensures.leaves told))

pub returns-clause-prepared : goal.returns-clause-prepared
returns-clause-prepared g c told =
    let d = g.D.Disk in
    let m = g.met.D.Disk in
    let old = c.args.self.now in
    let new = c.mend.new.disk in
    let some : 0 < old.extent.volumes = omega arith in
    last_prepared d m.now_counts m.now_only old new (c.requires.in_step told) some c.requires.known
    (subst (λ (f : GatedFile). KeepsText f (d.reading old.disk) (d.reading new)) c.last_file-last.ensures (c.mend.ensures.stays told)) false
    (subst (λ (f : GatedFile). AddsOnly d.moment d.images_since old.disk new (IsFinished f (d.reading old.disk) (d.images old.disk))) c.last_file-last.ensures (c.mend.ensures.leaves told))

pub returns-clause-in_step : goal.returns-clause-in_step
returns-clause-in_step g c told =
    let d = g.D.Disk in
    let m = g.met.D.Disk in
    let old = c.args.self.now in
    let new = c.mend.new.disk in
    let some : 0 < old.extent.volumes = omega arith in
    last_mended d m.now_counts m.now_only old new (c.requires.in_step told) some c.requires.known
    (subst (λ (f : GatedFile). KeepsText f (d.reading old.disk) (d.reading new)) c.last_file-last.ensures (c.mend.ensures.stays told))
    (HoldsBefore (last_of old.extent) (d.reading old.disk))
    (subst (λ (f : GatedFile). AddsOnly d.moment d.images_since old.disk new (IsFinished f (d.reading old.disk) (d.images old.disk))) c.last_file-last.ensures (c.mend.ensures.leaves told))
    (subst (λ (f : GatedFile). Leaves (d.images new) (IsAdded f (d.reading old.disk) (d.images old.disk) [])) c.last_file-last.ensures (c.in_ok-mend.ensures.only told))

pub returns-in_err-mend-clause-no_file : goal.returns-in_err-mend-clause-no_file
returns-in_err-mend-clause-no_file g c told =
    let d = g.D.Disk in
    no_file _ _ _ (d.reading c.args.self.now.disk) (d.reading c.mend.new.disk) (c.mend.ensures.stays told)

pub returns-clause-no_file : goal.returns-clause-no_file
returns-clause-no_file g c told =
    let d = g.D.Disk in
    no_file _ _ _ (d.reading c.args.self.now.disk) (d.reading c.mend.new.disk) (c.mend.ensures.stays told)
