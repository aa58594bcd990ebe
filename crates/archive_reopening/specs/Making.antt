-- An archive as it is made of what was opened.
use Rattle.std.specs.Prelude.{◌≡◌, Bool, true, length, slice_get, Contains, Some}
use Rattle.capture.specs.Captures.{captures}
use Rattle.capture.specs.declared.book.Book.{Book}
use Rattle.capture.specs.declared.captured.Stored.{Stored}
use Rattle.capture.specs.declared.limits.Limits.{Limits}
use Rattle.index_entry.specs.Facts.{Facts}
use Rattle.index_entry.specs.OfBook.{AreEntries}
use Rattle.disk_model.specs.Crash.{Leaves}
use Rattle.disk_model.specs.declared.disk.Disk.{Ghosts}
use Rattle.warc_journal.specs.Journals.{disk_of}
use Rattle.archive_volumes.specs.Held.{book_of}
use Rattle.archive_settling.specs.Finished.{AreLinedTo, HasCheckpoint}
use Rattle.archive_core.specs.Holdings.{Holdings}
use Rattle.archive_index.specs.Shown.{numbered}
use Rattle.archive_opening.specs.declared.opening.Opened.{Opened}
use Rattle.archive_volumes.specs.Spots.{is_told_form}
use Rattle.archive_volumes.specs.declared.spot.Spot.{Spot}

-- an entry tells the target and the date of the book's capture with its number
abbrev pub NamesCapture : Book → Facts → Type 0
NamesCapture book entry =
    (stored : Stored) × (slice_get (captures book) entry.number ≡ Some stored) × (entry.uri ≡ stored.uri) × (entry.date ≡ stored.date)

-- where a line alone told of a capture, the checkpoint of its volume is finished in each image
abbrev pub AreFinishedAsTold : {D : Type 0} → Ghosts D → Opened D → Type 0
AreFinishedAsTold d opened = (spot : Spot) → Contains opened.gathered.spots.items spot → is_told_form spot.form ≡ true
    → Leaves (d.images (disk_of opened.journal)) (HasCheckpoint (book_of opened.gathered.held) spot.volume)

-- An archive as it is made of what was opened, whatever the disk tells: where the entries that were gathered are its book's, they are what is shown.
pub record IsMadeOf {D : Type 0} (opened : Opened D) (limits : Limits) (told : Bool) (held : Holdings D) : Type 0 where
  pub journal_is : held.journal ≡ opened.journal
  pub book_is : held.book ≡ book_of opened.gathered.held
  pub spots_are : held.spots ≡ opened.gathered.spots.items
  pub shown : AreEntries (book_of opened.gathered.held) opened.gathered.entries.items → AreEntries held.book (numbered held.index)
  pub named : (entry : Facts) → Contains (numbered held.index) entry → NamesCapture held.book entry
  pub found : held.found ≡ length (captures held.book)
  pub limits_are : held.limits ≡ limits
  pub told_is : held.told ≡ told
  pub lined : AreLinedTo held.spots held.settled
