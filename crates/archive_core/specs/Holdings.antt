-- What an archive over a disk holds, and what is told of it.
use Rattle.std.specs.Prelude.{◌≡◌, ℕ, ◌-◌, ◌^◌, ◌<◌, ◌≤◌, Bool, IsFalse, IsTrue, List, length, count_by, Contains}
use Rattle.std.specs.List.{range_with_len}
use Rattle.capture.specs.Captures.{captures}
use Rattle.capture.specs.declared.book.Book.{Book}
use Rattle.capture.specs.declared.captured.Stored.{Stored}
use Rattle.capture.specs.declared.limits.Limits.{Limits}
use Rattle.index_entry.specs.Facts.{Facts}
use Rattle.index_entry.specs.OfBook.{AreOf}
use Rattle.index_entry.specs.Queries.{IsIndex}
use Rattle.disk_model.specs.Crash.{Leaves}
use Rattle.disk_model.specs.declared.disk.Disk.{Ghosts}
use Rattle.revisit_table.specs.Table.{Table}
use Rattle.warc_journal.specs.Journals.{disk_of, texts}
use Rattle.warc_journal.specs.declared.journal.Journal.{Journal}
use Rattle.archive_shelf.specs.Contents.{Contents}
use Rattle.archive_shelf.specs.Storing.{is_revisit}
use Rattle.archive_settling.specs.Finished.{FirstAreFinished}
use Rattle.archive_index.specs.Shown.{numbered}
use Rattle.archive_volumes.specs.Spots.{AreHeldWhole, ArePlaced, AreSpotsOf, AreWithin, whole_from}
use Rattle.archive_volumes.specs.Volumes.{HoldsBook, IsMeasured}
use Rattle.archive_volumes.specs.declared.spot.Spot.{Spot}
use Rattle.archive_volumes.specs.Entries.{AreNamed}

-- What an archive holds: the journal of its volumes and their book, the index, the table of digests, what is kept of each
-- capture, its limits, how many captures it found when it was opened, how many refer to another one, how many of the first volumes are
-- known to have a finished checkpoint, and whether it is told what
-- the book has.
pub record Holdings (D : Type 0) : Type 0 where
  pub journal : Journal D
  pub book : Book
  pub index : List Facts
  pub table : Table
  pub spots : List Spot
  pub limits : Limits
  pub found : ℕ
  pub revisits : ℕ
  pub settled : ℕ
  pub told : Bool

-- limits under which all numbers and lengths of an archive can be written down
pub record AreLimits (limits : Limits) : Type 0 where
  pub captures : limits.captures < 2 ^ 32 - 1
  pub volume_bytes : limits.volume_bytes < 2 ^ 62

-- whatever the disk tells: its numbers are those of the book's captures
pub record IsCounted {D : Type 0} (held : Holdings D) : Type 0 where
  pub few : length (captures held.book) < 2 ^ 32 - 1
  pub revisits : held.revisits ≡ count_by (λ (stored : Stored). is_revisit stored.kept) (captures held.book)
  pub found : held.found ≤ length (captures held.book)
  pub below : (entry : Facts) → Contains held.index entry → entry.number < length (captures held.book)
  pub limits : AreLimits held.limits
  pub sealed : held.settled ≤ length held.book.volumes - 1

-- What holds of an archive at each call: of every disk what doesn't speak of bytes; where the disk tells what it holds, that what is
-- read of the captures is within the volumes; and where the book is told, which is only of a disk that tells, that they stand there
-- where it says, and that the index is that of the book. Where it isn't, each capture that a line alone told of and that is no revisit counts
-- as one that keeps its whole wire.
pub record IsArchive {D : Type 0} (d : Ghosts D) (held : Holdings D) : Type 0 where
  pub holds : HoldsBook d held.told held.journal held.book
  pub measured : IsMeasured held.journal held.book
  pub counted : IsCounted held
  pub spots : AreSpotsOf held.book held.spots
  pub table : held.table.kept ≡ whole_from 0 held.spots
  pub indexed : IsIndex held.index
  pub named : AreNamed held.spots held.index
  pub within : IsTrue d.tells → AreWithin (texts d held.journal) held.spots
  pub placed : IsTrue held.told → ArePlaced (texts d held.journal) held.book held.spots
  pub made : IsFalse held.told → AreHeldWhole held.book held.spots
  pub known : IsTrue held.told → AreOf held.book held.index
  pub settled : IsTrue held.told → Leaves (d.images (disk_of held.journal)) (FirstAreFinished held.book held.settled)

-- what is told of an archive
abbrev pub contents_of : {D : Type 0} → Holdings D → Contents
contents_of held = record {
  tells = held.told;
  seen = held.book;
  shown = numbered held.index;
  mine = range_with_len held.found (length (captures held.book) - held.found);
  limits = held.limits;
}
