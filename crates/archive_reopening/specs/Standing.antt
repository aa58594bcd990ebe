-- What stood finished in an archive's volumes when it was opened, and that it keeps that, with all that was stored since.
use Rattle.std.specs.Prelude.{◌≡◌, ◌-◌, [], length, slice_index_or}
use Rattle.capture.specs.declared.book.Book.{Book}
use Rattle.disk_model.specs.declared.disk.Disk.{Ghosts}
use Rattle.warc_journal.specs.Extents.{warc_files}
use Rattle.warc_journal.specs.Journals.{Rests}
use Rattle.warc_journal.specs.Texts.{Hold}
use Rattle.archive_opening.specs.Counting.{HasCountsOf, LastEndsAt}
use Rattle.archive_core.specs.Holdings.{Holdings}
use Rattle.archive_core.specs.Lasting.{KeepsStored, StandsSince}
use Rattle.archive_core.specs.Stood.{Lasts, Stood}

-- What stood finished when an archive was opened on a disk, over which nothing was written till then: of the book that was opened, the texts of just those
-- volumes whose warcinfo is finished. Each file but the last is one; that of the last volume ends where its groups do, and behind it there is no more than an unfinished tail.
pub record StoodOn {D : Type 0} (d : Ghosts D) (was : D) (stood : Stood) : Type 0 where
  pub begun : D
  pub rests : Rests d was begun
  pub moment_is : stood.moment ≡ d.moment begun
  pub faults_are : stood.faults ≡ d.faults was
  pub counts : HasCountsOf (d.reading was) stood.book
  pub count : length stood.finished ≡ length stood.book.volumes
  pub held : Hold stood.finished (warc_files (d.reading was))
  pub ends : LastEndsAt (d.reading was) stood.book (length (slice_index_or stood.finished (length stood.finished - 1) []))

-- an archive that was opened on the disk, in which nothing was stored since, keeps it
pub record KeepsOn {D : Type 0} (d : Ghosts D) (was : D) (held : Holdings D) : Type 0 where
  pub stood : Stood
  pub on : StoodOn d was stood
  pub book_is : stood.book ≡ held.book
  pub keeps : KeepsStored d stood held

-- From one state of a disk to a later one, in which an archive was opened, worked with and closed, no finished text of its volumes lost a byte, at
-- whatever moment a crash stopped that.
pub record KeepsFinished {D : Type 0} (d : Ghosts D) (was is : D) : Type 0 where
  pub stood : Stood
  pub on : StoodOn d was stood
  pub lasts : Lasts d stood is

-- From one state of a disk to a later one, in which an archive with the one book was opened, worked with and closed, with the other one by then: each capture that it
-- gained stands where it was stored, with just its records, from its store on, behind all that stood finished when it was opened.
pub record LeavesStored {D : Type 0} (d : Ghosts D) (was : D) (before : Book) (is : D) (after : Book) : Type 0 where
  pub stood : Stood
  pub on : StoodOn d was stood
  pub began : stood.book ≡ before
  pub stands : StandsSince d stood after is
