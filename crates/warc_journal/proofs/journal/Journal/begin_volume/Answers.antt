use Rattle.std.proofs.Common.{◌≡◌, ◌⊎◌, ◌++◌, subst, sym}
use Rattle.disk_model.specs.Crash.{Leaves}
use Rattle.disk_model.specs.Image.{Image, with_file}
use Rattle.disk_model.specs.Moments.{AddsOnly}
use Rattle.gated_file.specs.Files.{IsAdded, IsEither, IsFinished, IsKnown, KeepsText, text_of}
use Rattle.gated_file.specs.declared.file.GatedFile.{GatedFile}
use Rattle.warc_journal.proofs.Rolling.{begin_done, begin_failed, begin_in_step, begin_known, begin_refused}
use Rattle.warc_journal.proofs.journal.Journal.begin_volume.Goals as goal

pub returns-in_err-append-clause-change : goal.returns-in_err-append-clause-change
returns-in_err-append-clause-change g c told =
    let d = g.D.Disk in
    let m = g.met.D.Disk in
    let old = c.args.self.now in
    let new = c.append.new.disk in
    let info = c.args.info.now in
    let is_read = m.reading_is_image old.disk told in
    let known = begin_known d m.now_counts m.now_only old new (c.requires.in_step told) c.requires.clean c.requires.empty is_read info in
    let own_known = subst (λ (f : GatedFile). IsKnown f (d.reading old.disk) (d.images old.disk)) (sym c.further_file-file.ensures) known in
    begin_refused d m.now_counts m.now_only old new (c.requires.in_step told) c.requires.clean c.requires.empty is_read info
    (subst (λ (f : GatedFile). KeepsText f (d.reading old.disk) (d.reading new)) c.further_file-file.ensures (c.append.ensures.stays told))
    (subst (λ (f : GatedFile). AddsOnly d.moment d.images_since old.disk new (IsEither f (d.reading old.disk) (d.images old.disk) info)) c.further_file-file.ensures (c.append.ensures.leaves told own_known))
    c.from_residual.result c.from_residual.ensures.0
    (subst (λ (f : GatedFile).
    Leaves (d.images new) (λ (image : Image). d.images old.disk image ⊎ IsFinished f (d.reading old.disk) (d.images old.disk) image)
    ⊎ Leaves (d.images new) (IsEither f (d.reading old.disk) (d.images old.disk) info)) c.further_file-file.ensures (c.in_err-append.ensures.refused told own_known))

pub returns-in_err-append-clause-in_step : goal.returns-in_err-append-clause-in_step
returns-in_err-append-clause-in_step g c told =
    let d = g.D.Disk in
    let m = g.met.D.Disk in
    let old = c.args.self.now in
    let new = c.append.new.disk in
    let info = c.args.info.now in
    let is_read = m.reading_is_image old.disk told in
    let known = begin_known d m.now_counts m.now_only old new (c.requires.in_step told) c.requires.clean c.requires.empty is_read info in
    let own_known = subst (λ (f : GatedFile). IsKnown f (d.reading old.disk) (d.images old.disk)) (sym c.further_file-file.ensures) known in
    begin_failed d m.now_counts m.now_only old new (c.requires.in_step told) c.requires.clean c.requires.empty is_read info
    (subst (λ (f : GatedFile). KeepsText f (d.reading old.disk) (d.reading new)) c.further_file-file.ensures (c.append.ensures.stays told))
    (subst (λ (f : GatedFile). AddsOnly d.moment d.images_since old.disk new (IsEither f (d.reading old.disk) (d.images old.disk) info)) c.further_file-file.ensures (c.append.ensures.leaves told own_known))

pub returns-clause-change : goal.returns-clause-change
returns-clause-change g c told =
    let d = g.D.Disk in
    let m = g.met.D.Disk in
    let old = c.args.self.now in
    let new = c.append.new.disk in
    let info = c.args.info.now in
    let is_read = m.reading_is_image old.disk told in
    let known = begin_known d m.now_counts m.now_only old new (c.requires.in_step told) c.requires.clean c.requires.empty is_read info in
    let own_known = subst (λ (f : GatedFile). IsKnown f (d.reading old.disk) (d.images old.disk)) (sym c.further_file-file.ensures) known in
    begin_done d m.now_counts m.now_only old new (c.requires.in_step told) c.requires.clean c.requires.empty is_read info
    (subst (λ (f : GatedFile). d.reading new ≡ with_file (d.reading old.disk) f.kind f.file (text_of f (d.reading old.disk) ++ info)) c.further_file-file.ensures (c.in_ok-append.ensures.added told own_known))
    (subst (λ (f : GatedFile). Leaves (d.images new) (IsAdded f (d.reading old.disk) (d.images old.disk) info)) c.further_file-file.ensures (c.in_ok-append.ensures.only told own_known))
    _
    (subst (λ (f : GatedFile). AddsOnly d.moment d.images_since old.disk new (IsEither f (d.reading old.disk) (d.images old.disk) info)) c.further_file-file.ensures (c.append.ensures.leaves told own_known))

pub returns-clause-in_step : goal.returns-clause-in_step
returns-clause-in_step g c told =
    let d = g.D.Disk in
    let m = g.met.D.Disk in
    let old = c.args.self.now in
    let new = c.append.new.disk in
    let info = c.args.info.now in
    let is_read = m.reading_is_image old.disk told in
    let known = begin_known d m.now_counts m.now_only old new (c.requires.in_step told) c.requires.clean c.requires.empty is_read info in
    let own_known = subst (λ (f : GatedFile). IsKnown f (d.reading old.disk) (d.images old.disk)) (sym c.further_file-file.ensures) known in
    begin_in_step d m.now_counts m.now_only old new (c.requires.in_step told) c.requires.clean c.requires.empty is_read info
    (subst (λ (f : GatedFile). d.reading new ≡ with_file (d.reading old.disk) f.kind f.file (text_of f (d.reading old.disk) ++ info)) c.further_file-file.ensures (c.in_ok-append.ensures.added told own_known))
    (subst (λ (f : GatedFile). Leaves (d.images new) (IsAdded f (d.reading old.disk) (d.images old.disk) info)) c.further_file-file.ensures (c.in_ok-append.ensures.only told own_known))
