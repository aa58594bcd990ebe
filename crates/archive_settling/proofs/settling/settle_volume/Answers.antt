use Rattle.std.proofs.Common.{sym, subst, refl}
use Rattle.checkpoint.specs.OfVolume.{AreLinesOf}
use Rattle.warc_journal.specs.Journals.{disk_of}
use Rattle.archive_volumes.proofs.ChangeLaws.{DiskLaws}
use Rattle.archive_volumes.specs.Held.{book_of}
use Rattle.volume_lines.specs.OfSpots.{AreLinesOfSpots}
use Rattle.archive_settling.proofs.KeepingLaws.{keeps_beside, keeps_reads, keeps_then, warc_supplied}
use Rattle.archive_settling.proofs.SupplyingLaws.{goes_refused, goes_supplied, went_past, went_still}
use Rattle.archive_settling.proofs.WalkingLaws.{lines_from}
use Rattle.archive_settling.proofs.settling.settle_volume.Given.{Over}
use Rattle.archive_settling.proofs.settling.settle_volume.Goals as goal
use Rattle.archive_settling.specs.Supplying.{shelved_as}

-- what is asked of the disk
disk_laws : (g : Over) → DiskLaws g.D.Disk
disk_laws g = record { earlier = g.met.D.Disk.earlier; now_counts = g.met.D.Disk.now_counts; now_only = g.met.D.Disk.now_only }

pub returns-in-Ok-Some-clause-keeps : goal.returns-in-Ok-Some-clause-keeps
returns-in-Ok-Some-clause-keeps g c =
    let reads = c.in-Ok-Some.ensures.reads in
    let mid = c.lines_of.new.volumes in
    let new = record mid { journal = c.supply.new.journal } in
    keeps_then g.D.Disk (disk_laws g) c.args.told.now.value c.args.volumes.now mid new
    (keeps_reads g.D.Disk (disk_laws g) c.args.told.now.value c.args.volumes.now mid reads c.requires.readable.holds)
    (keeps_beside g.D.Disk (disk_laws g) c.args.told.now.value mid new refl c.supply.ensures.extent
    (λ tells. warc_supplied g.D.Disk c.args.facts.volume c.as_slice.result.now (disk_of mid.journal) (disk_of new.journal) c.supply.result (c.supply.ensures.supplies tells))
    (reads.holds c.args.told.now.value c.requires.readable.holds))

pub returns-in-Ok-Some-clause-went : goal.returns-in-Ok-Some-clause-went
returns-in-Ok-Some-clause-went g c = λ tells from n went.
    let reads = c.in-Ok-Some.ensures.reads in
    let mid = c.lines_of.new.volumes in
    let book = book_of c.args.volumes.now.held in
    goes_supplied g.D.Disk (disk_laws g) tells (shelved_as c.args.told.now.value book c.args.spots.now) from c.args.facts.volume n c.as_slice.result.now
    (disk_of mid.journal) (disk_of c.supply.new.journal) c.supply.result c.volumes_have_one_list_of_lines.ensures.one c.requires.sealed
    (lines_from c.args.told.now.value book c.args.spots.now c.args.facts c.requires.there c.as_slice.result.now
    (subst (AreLinesOfSpots c.args.spots.now c.args.facts.first c.args.facts.count) (sym c.as_slice.ensures.value)
    (rw c.in-Ok-Some.field-0-is at c.in-Ok-Some.ensures.of_spots))
    (λ so. subst (AreLinesOf book c.args.facts.volume) (sym c.as_slice.ensures.value)
    (rw c.in-Ok-Some.field-0-is at (c.in-Ok-Some.ensures.exact so))))
    (g.met.D.Disk.reading_is_image (disk_of c.supply.new.journal) tells)
    (went_still g.D.Disk (disk_laws g) tells (shelved_as c.args.told.now.value book c.args.spots.now) from c.args.facts.volume n (disk_of c.args.volumes.now.journal) (disk_of mid.journal)
    (reads.rests tells) went)
    (c.supply.ensures.supplies tells)

pub returns-in-Ok-None-clause-went : goal.returns-in-Ok-None-clause-went
returns-in-Ok-None-clause-went g c = λ tells from n went.
    let mid = c.lines_of.new.volumes in
    let book = book_of c.args.volumes.now.held in
    went_past g.D.Disk (disk_laws g) tells (shelved_as c.args.told.now.value book c.args.spots.now) from c.args.facts.volume n (disk_of mid.journal)
    (λ so. rw c.in-Ok-None.field-0-is at (c.in-Ok-None.ensures.exact so))
    (went_still g.D.Disk (disk_laws g) tells (shelved_as c.args.told.now.value book c.args.spots.now) from c.args.facts.volume n (disk_of c.args.volumes.now.journal) (disk_of mid.journal)
    (c.in-Ok-None.ensures.reads.rests tells) went)

pub returns-in-Err-clause-went : goal.returns-in-Err-clause-went
returns-in-Err-clause-went g c = λ tells from n went.
    let mid = c.lines_of.new.volumes in
    let book = book_of c.args.volumes.now.held in
    goes_refused g.D.Disk (disk_laws g) tells (shelved_as c.args.told.now.value book c.args.spots.now) from c.args.facts.volume n (disk_of c.args.volumes.now.journal) (disk_of mid.journal)
    c.fault_of.result (c.in-Err.ensures.reads.rests tells) went

pub returns-in-Ok-None-clause-keeps : goal.returns-in-Ok-None-clause-keeps
returns-in-Ok-None-clause-keeps g c =
    keeps_reads g.D.Disk (disk_laws g) c.args.told.now.value c.args.volumes.now c.lines_of.new.volumes c.in-Ok-None.ensures.reads c.requires.readable.holds

pub returns-in-Err-clause-keeps : goal.returns-in-Err-clause-keeps
returns-in-Err-clause-keeps g c =
    keeps_reads g.D.Disk (disk_laws g) c.args.told.now.value c.args.volumes.now c.lines_of.new.volumes c.in-Err.ensures.reads c.requires.readable.holds
