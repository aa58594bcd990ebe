use Rattle.std.proofs.Common.{◌≡◌, ◌⊎◌, ◌≤◌, ◌++◌, length, subst, sym}
use Rattle.disk_model.specs.Crash.{Leaves}
use Rattle.disk_model.specs.Image.{Image, with_file}
use Rattle.disk_model.specs.Moments.{AddsOnly}
use Rattle.gated_file.specs.Files.{HoldsEither, IsAdded, IsEither, IsFinished, IsKnown, KeepsText, bytes_of, text_of}
use Rattle.gated_file.specs.declared.file.GatedFile.{GatedFile}
use Rattle.warc_journal.specs.Extents.{last_of}
use Rattle.warc_journal.proofs.Adding.{add_done, add_in_step, add_known, add_refused}
use Rattle.warc_journal.proofs.Last.{last_failed, last_within}
use Rattle.warc_journal.proofs.Preparing.{no_file}
use Rattle.warc_journal.proofs.journal.Journal.put.Goals as goal

pub append-requires-clause-in_range : goal.append-requires-clause-in_range
append-requires-clause-in_range g c told =
    let d = g.D.Disk in
    let m = g.met.D.Disk in
    let old = c.args.self.now in
    subst (λ (f : GatedFile). f.end ≤ length (bytes_of f (d.reading old.disk))) (sym c.last_file-last.ensures)
    (last_within d m.now_counts m.now_only old old.disk (c.requires.in_step told) c.requires.volume c.requires.clean.further)

pub returns-in_err-append-clause-change : goal.returns-in_err-append-clause-change
returns-in_err-append-clause-change g c told =
    let d = g.D.Disk in
    let m = g.met.D.Disk in
    let old = c.args.self.now in
    let new = c.append.new.disk in
    let more = c.args.text.now in
    let known = add_known d m.now_counts m.now_only old new (c.requires.in_step told) c.requires.volume c.requires.clean.further c.requires.clean.last more in
    let own_known = subst (λ (f : GatedFile). IsKnown f (d.reading old.disk) (d.images old.disk)) (sym c.last_file-last.ensures) known in
    add_refused d m.now_counts m.now_only old new (c.requires.in_step told) c.requires.volume c.requires.clean.further c.requires.clean.last more
    c.from_residual.result c.from_residual.ensures.0
    (subst (λ (f : GatedFile). AddsOnly d.moment d.images_since old.disk new (IsEither f (d.reading old.disk) (d.images old.disk) more)) c.last_file-last.ensures (c.append.ensures.leaves told own_known))
    (subst (λ (f : GatedFile). KeepsText f (d.reading old.disk) (d.reading new)) c.last_file-last.ensures (c.append.ensures.stays told))
    (subst (λ (f : GatedFile).
    Leaves (d.images new) (λ (image : Image). d.images old.disk image ⊎ IsFinished f (d.reading old.disk) (d.images old.disk) image)
    ⊎ Leaves (d.images new) (IsEither f (d.reading old.disk) (d.images old.disk) more)) c.last_file-last.ensures (c.in_err-append.ensures.refused told own_known))

pub returns-in_err-append-clause-in_step : goal.returns-in_err-append-clause-in_step
returns-in_err-append-clause-in_step g c told =
    let d = g.D.Disk in
    let m = g.met.D.Disk in
    let old = c.args.self.now in
    let new = c.append.new.disk in
    let more = c.args.text.now in
    let known = add_known d m.now_counts m.now_only old new (c.requires.in_step told) c.requires.volume c.requires.clean.further c.requires.clean.last more in
    let own_known = subst (λ (f : GatedFile). IsKnown f (d.reading old.disk) (d.images old.disk)) (sym c.last_file-last.ensures) known in
    last_failed d m.now_counts m.now_only old new (c.requires.in_step told) c.requires.volume c.requires.clean.further
    (subst (λ (f : GatedFile). KeepsText f (d.reading old.disk) (d.reading new)) c.last_file-last.ensures (c.append.ensures.stays told))
    (HoldsEither (last_of old.extent) (d.reading old.disk) more)
    (subst (λ (f : GatedFile). AddsOnly d.moment d.images_since old.disk new (IsEither f (d.reading old.disk) (d.images old.disk) more)) c.last_file-last.ensures (c.append.ensures.leaves told own_known))

pub returns-clause-in_step : goal.returns-clause-in_step
returns-clause-in_step g c told =
    let d = g.D.Disk in
    let m = g.met.D.Disk in
    let old = c.args.self.now in
    let new = c.append.new.disk in
    let more = c.args.text.now in
    let known = add_known d m.now_counts m.now_only old new (c.requires.in_step told) c.requires.volume c.requires.clean.further c.requires.clean.last more in
    let own_known = subst (λ (f : GatedFile). IsKnown f (d.reading old.disk) (d.images old.disk)) (sym c.last_file-last.ensures) known in
    add_in_step d m.now_counts m.now_only old new (c.requires.in_step told) c.requires.volume c.requires.clean.further c.requires.clean.last more
    (subst (λ (f : GatedFile). d.reading new ≡ with_file (d.reading old.disk) f.kind f.file (text_of f (d.reading old.disk) ++ more)) c.last_file-last.ensures (c.in_ok-append.ensures.added told own_known))
    (subst (λ (f : GatedFile). Leaves (d.images new) (IsAdded f (d.reading old.disk) (d.images old.disk) more)) c.last_file-last.ensures (c.in_ok-append.ensures.only told own_known))

pub returns-clause-change : goal.returns-clause-change
returns-clause-change g c told =
    let d = g.D.Disk in
    let m = g.met.D.Disk in
    let old = c.args.self.now in
    let new = c.append.new.disk in
    let more = c.args.text.now in
    let known = add_known d m.now_counts m.now_only old new (c.requires.in_step told) c.requires.volume c.requires.clean.further c.requires.clean.last more in
    let own_known = subst (λ (f : GatedFile). IsKnown f (d.reading old.disk) (d.images old.disk)) (sym c.last_file-last.ensures) known in
    add_done d m.now_counts m.now_only old new (c.requires.in_step told) c.requires.volume c.requires.clean.further c.requires.clean.last more
    (subst (λ (f : GatedFile). d.reading new ≡ with_file (d.reading old.disk) f.kind f.file (text_of f (d.reading old.disk) ++ more)) c.last_file-last.ensures (c.in_ok-append.ensures.added told own_known))
    (subst (λ (f : GatedFile). Leaves (d.images new) (IsAdded f (d.reading old.disk) (d.images old.disk) more)) c.last_file-last.ensures (c.in_ok-append.ensures.only told own_known))
    _
    (subst (λ (f : GatedFile). AddsOnly d.moment d.images_since old.disk new (IsEither f (d.reading old.disk) (d.images old.disk) more)) c.last_file-last.ensures (c.append.ensures.leaves told own_known))

pub returns-in_err-append-clause-no_file : goal.returns-in_err-append-clause-no_file
returns-in_err-append-clause-no_file g c told =
    let d = g.D.Disk in
    no_file _ _ _ (d.reading c.args.self.now.disk) (d.reading c.append.new.disk) (c.append.ensures.stays told)

pub returns-clause-no_file : goal.returns-clause-no_file
returns-clause-no_file g c told =
    let d = g.D.Disk in
    no_file _ _ _ (d.reading c.args.self.now.disk) (d.reading c.append.new.disk) (c.append.ensures.stays told)
