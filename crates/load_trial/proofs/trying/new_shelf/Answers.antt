-- A new archive has no volumes, and its disk no files.
use Rattle.std.proofs.Common.{◌≡◌, [], length, refl, sym, ap, ◌∙◌}
use Rattle.archive_shelf.specs.declared.counts.Counts.{Counts}
use Rattle.disk_model.specs.Device.{reading_of}
use Rattle.warc_journal.specs.Extents.{warc_files}
use Rattle.load_trial.proofs.TrialLaws.{new_has_just, no_warc_files}
use Rattle.load_trial.proofs.trying.new_shelf.Goals as goal

pub new-requires-then-counts-eq0-clause-told : goal.new-requires-then-counts-eq0-clause-told
new-requires-then-counts-eq0-clause-told c = c.in-Ok.ensures.reopened.told_is

pub new-requires-then-counts-eq0-clause-just : goal.new-requires-then-counts-eq0-clause-just
new-requires-then-counts-eq0-clause-just c =
    let none : length c.in-Ok.archive.book.volumes ≡ 0 = sym (ap (λ (counts : Counts). counts.volumes) c.counts.ensures) ∙ c.if-counts-eq0.true in
    let same = (c.in-Ok.ensures.reopened.rests refl).read in
    let files : warc_files (reading_of c.new-disk.result) ≡ [] = ap (λ disk. warc_files (reading_of disk)) c.new-disk.ensures ∙ no_warc_files in
    new_has_just _ c.in-Ok.archive.book none (ap (λ image. warc_files image) same ∙ files)
