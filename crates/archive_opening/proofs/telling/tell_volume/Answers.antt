use Rattle.std.proofs.Common.{◌+◌, ◌<◌, length, subst, arith, ℕ, sym}
use Rattle.volume_scan.specs.Scannings.{disk_of}
use Rattle.warc_journal.specs.Extents.{warc_files}
use Rattle.archive_opening.specs.Telling.{IsReadOf, OpensAt}
use Rattle.archive_opening.proofs.BesideLaws.{goes_beside, rests_lent, whole_beside, counts_beside, place_beside}
use Rattle.disk_model.specs.Image.{Image}
use Rattle.warc_journal.specs.Journals.{Rests}
use Rattle.archive_gathering.specs.Refusing.{CountsFault}
use Rattle.archive_opening.proofs.telling.tell_volume.Goals as goal

pub take_lines-requires-clause-goes : goal.take_lines-requires-clause-goes
take_lines-requires-clause-goes g c =
    let d = g.D.Disk in
    let old = c.args.scanning.now in
    goes_beside d old c.file_lines.new.disk (rests_lent d c.disk.result.now (disk_of old) c.file_lines.new.disk c.disk.ensures.value c.file_lines.ensures.rests)
    c.args.gathered.now c.args.known.now.value c.requires.goes

pub returns-in-Ok-None-clause-goes : goal.returns-in-Ok-None-clause-goes
returns-in-Ok-None-clause-goes g c =
    let d = g.D.Disk in
    let old = c.args.scanning.now in
    goes_beside d old c.file_lines.new.disk (rests_lent d c.disk.result.now (disk_of old) c.file_lines.new.disk c.disk.ensures.value c.file_lines.ensures.rests)
    c.args.gathered.now c.args.known.now.value c.requires.goes

pub returns-in-Ok-None-clause-whole : goal.returns-in-Ok-None-clause-whole
returns-in-Ok-None-clause-whole g c =
    let d = g.D.Disk in
    let old = c.args.scanning.now in
    whole_beside d old c.file_lines.new.disk (rests_lent d c.disk.result.now (disk_of old) c.file_lines.new.disk c.disk.ensures.value c.file_lines.ensures.rests)
    c.args.gathered.now

-- each volume is read whole, and so none of its checkpoints is finished
pub returns-in-Ok-Some-clause-whole : goal.returns-in-Ok-Some-clause-whole
returns-in-Ok-Some-clause-whole g c = λ reads.
    let d = g.D.Disk in
    let old = c.args.scanning.now in
    let told = c.in-Ok-Some.told in
    let read = rw c.in-Ok-Some.field-0-is at c.in-Ok-Some.ensures.read in
    let fit = rw c.in-Ok-Some.field-0-is at c.in-Ok-Some.ensures.fit in
    let of = subst (λ (x : _). IsReadOf (d.reading x) told) c.disk.ensures.value (read reads.tells) in
    let another : told.volume + 1 < length (warc_files (d.reading (disk_of old))) =
    omega (arith, fit.0, c.requires.opens.there, c.if-volume-last.false, c.files-last.ensures, (c.requires.in_place.stands reads.tells).count) in
    absurd (reads.whole told.volume told.lines.items another of.checkpoint)

pub take_lines-requires-clause-in_place : goal.take_lines-requires-clause-in_place
take_lines-requires-clause-in_place g c =
    let d = g.D.Disk in
    let old = c.args.scanning.now in
    place_beside d old c.file_lines.new.disk (rests_lent d c.disk.result.now (disk_of old) c.file_lines.new.disk c.disk.ensures.value c.file_lines.ensures.rests)
    c.args.gathered.now c.scans_stay_beside_other_work.ensures c.requires.in_place

pub take_lines-requires-clause-counts : goal.take_lines-requires-clause-counts
take_lines-requires-clause-counts g c =
    let d = g.D.Disk in
    let old = c.args.scanning.now in
    counts_beside d old c.file_lines.new.disk (rests_lent d c.disk.result.now (disk_of old) c.file_lines.new.disk c.disk.ensures.value c.file_lines.ensures.rests)
    c.args.gathered.now c.requires.counts

pub take_lines-requires-clause-opens : goal.take_lines-requires-clause-opens
take_lines-requires-clause-opens g c =
    let fit = rw c.in-Ok-Some.field-0-is at c.in-Ok-Some.ensures.fit in
    let at : OpensAt c.args.scanning.now c.in-Ok-Some.told.volume = subst (λ (n : ℕ). OpensAt c.args.scanning.now n) (sym fit.0) c.requires.opens in
    record { stage = at.stage; volume_is = at.volume_is; there = at.there }

pub take_lines-requires-clause-fit : goal.take_lines-requires-clause-fit
take_lines-requires-clause-fit g c =
    let fit = rw c.in-Ok-Some.field-0-is at c.in-Ok-Some.ensures.fit in
    fit.1

pub take_lines-requires-clause-read : goal.take_lines-requires-clause-read
take_lines-requires-clause-read g c = λ tells.
    let read = rw c.in-Ok-Some.field-0-is at c.in-Ok-Some.ensures.read in
    subst (λ (i : Image). IsReadOf i c.in-Ok-Some.told) (sym (c.file_lines.ensures.rests tells).read) (read tells)

pub returns-in-Ok-Some-clause-rests : goal.returns-in-Ok-Some-clause-rests
returns-in-Ok-Some-clause-rests g c = λ tells.
    let d = g.D.Disk in
    let old = c.args.scanning.now in
    subst (Rests d (disk_of old)) (sym c.take_lines.ensures.disk)
    (rests_lent d c.disk.result.now (disk_of old) c.file_lines.new.disk c.disk.ensures.value c.file_lines.ensures.rests tells)

pub returns-in-Ok-None-clause-in_place : goal.returns-in-Ok-None-clause-in_place
returns-in-Ok-None-clause-in_place g c =
    let d = g.D.Disk in
    let old = c.args.scanning.now in
    place_beside d old c.file_lines.new.disk (rests_lent d c.disk.result.now (disk_of old) c.file_lines.new.disk c.disk.ensures.value c.file_lines.ensures.rests)
    c.args.gathered.now c.scans_stay_beside_other_work.ensures c.requires.in_place

pub returns-in-Err-clause-in_place : goal.returns-in-Err-clause-in_place
returns-in-Err-clause-in_place g c =
    let d = g.D.Disk in
    let old = c.args.scanning.now in
    place_beside d old c.file_lines.new.disk (rests_lent d c.disk.result.now (disk_of old) c.file_lines.new.disk c.disk.ensures.value c.file_lines.ensures.rests)
    c.args.gathered.now c.scans_stay_beside_other_work.ensures c.requires.in_place

pub returns-in-Err-clause-rests : goal.returns-in-Err-clause-rests
returns-in-Err-clause-rests g c =
    let d = g.D.Disk in
    let old = c.args.scanning.now in
    rests_lent d c.disk.result.now (disk_of old) c.file_lines.new.disk c.disk.ensures.value c.file_lines.ensures.rests

pub returns-in-Err-clause-faults : goal.returns-in-Err-clause-faults
returns-in-Err-clause-faults g c =
    let d = g.D.Disk in
    subst (λ (x : _). CountsFault (d.faults x) (d.faults c.file_lines.new.disk) c.in-Err.fault) c.disk.ensures.value c.in-Err.ensures.faults
