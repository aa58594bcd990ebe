-- What opening an archive gives, and what it leaves on the disk.
use Rattle.std.specs.Prelude.{◌≡◌, IsTrue, List, ℕ, [], Option, None}
use Rattle.capture.specs.declared.book.Book.{Book}
use Rattle.capture.specs.declared.limits.Limits.{Limits}
use Rattle.index_entry.specs.OfBook.{AreEntries}
use Rattle.disk_model.specs.Crash.{Leaves}
use Rattle.disk_model.specs.declared.disk.Disk.{Ghosts}
use Rattle.warc_journal.specs.Extents.{warc_files}
use Rattle.warc_journal.specs.Journals.{Rests, disk_of}
use Rattle.warc_text.specs.Sound.{IsSound}
use Rattle.warc_text.specs.StandsFor.{IdsDifferIn, StandsFor}
use Rattle.archive_shelf.specs.Openings.{ImageStandsFor, IsState, SameBook}
use Rattle.archive_shelf.specs.declared.fault.ReopenFault.{ReopenFault}
use Rattle.archive_core.specs.Holdings.{Holdings, contents_of}
use Rattle.archive_opening.specs.Opening.{IsDamageIn, IsOtherIn, IsOutside}
use Rattle.archive_gathering.specs.Refusing.{CountsFault, IsCause}
use Rattle.archive_gathering.specs.Gathering.{IsIn}
use Rattle.archive_opening.specs.Telling.{IsAskedFor}
use Rattle.archive_core.specs.Told.{told_of}
use Rattle.archive_volumes.specs.Volumes.{IsQuiet}

-- An archive as it is opened on a disk.
pub record IsReopened {D : Type 0} (d : Ghosts D) (disk : D) (asked : Option (List ℕ)) (limits : Limits) (held : Holdings D) : Type 0 where
  -- its book is sound, and where the disk tells, the files that a read gives stand for it, and for no other one whose ids differ
  pub sound : IsSound held.book
  pub stands : IsTrue d.tells → StandsFor (warc_files (d.reading disk)) held.book
  pub one : IsTrue d.tells → (book : Book) → IsSound book → IdsDifferIn book → StandsFor (warc_files (d.reading disk)) book
      → SameBook held.book book
  -- it has the namespace that is asked for; where none is, one without volumes has the UUID of zeros
  pub in_namespace : IsIn asked held.book
  -- exactly the book's entries are shown; no capture is its own yet; it has the limits that are given
  pub shown : AreEntries held.book (contents_of held).shown
  pub mine : (contents_of held).mine ≡ []
  pub limits_are : held.limits ≡ limits
  -- what the book has is told where the disk tells
  pub told_is : held.told ≡ d.tells
  -- nothing was written: a read gives what it gave, and nothing more may be opened
  pub rests : IsTrue d.tells → Rests d disk (disk_of held.journal)
  pub quiet : IsQuiet d disk (disk_of held.journal)
  pub faults : d.faults (disk_of held.journal) ≡ d.faults disk
  -- each image that a crash leaves from now on stands for the book, and where its ids differ, for no other one
  pub only : IsTrue d.tells → Leaves (d.images (disk_of held.journal)) (λ image. ImageStandsFor image held.book)
  pub covered : (told_of d held).crash.covered (told_of d held).crash.moment
  pub state : IdsDifferIn held.book → IsState (told_of d held).crash held.book None

-- Why an archive isn't opened, and the disk as it is given back: nothing was written. What stands for a sound book whose namespace is asked for,
-- or none, isn't refused for what it holds.
pub record IsNotOpened {D : Type 0} (d : Ghosts D) (disk : D) (asked : Option (List ℕ)) (refused : ReopenFault × D) : Type 0 where
  pub cause : IsCause asked refused.0
  pub damage : IsTrue d.tells → IsDamageIn (warc_files (d.reading disk)) refused.0
  pub other : IsTrue d.tells → IsOtherIn (warc_files (d.reading disk)) asked refused.0
  pub complete : IsTrue d.tells → (book : Book) → IsSound book → StandsFor (warc_files (d.reading disk)) book → IsAskedFor asked book
      → IsOutside refused.0
  pub rests : IsTrue d.tells → Rests d disk refused.1
  pub quiet : IsQuiet d disk refused.1
  pub faults : CountsFault (d.faults disk) (d.faults refused.1) refused.0
