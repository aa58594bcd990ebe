-- What storing a capture leaves of an archive in which nobody else stores.
use Rattle.std.specs.Prelude.{◌≤◌, ◌<◌, ◌≡◌, ◌⊎◌, ℕ, ◌+◌, Bool, true, if◌then◌else◌, IsTrue, List, length, OnErr, OnOk, Option, Result, Ok, Err}
use Rattle.capture.specs.Captures.{captures, HasPayload}
use Rattle.capture.specs.declared.captured.Taken.{Taken}
use Rattle.disk_model.specs.Crash.{Leaves}
use Rattle.disk_model.specs.declared.disk.Disk.{Ghosts}
use Rattle.warc_journal.specs.Extents.{warc_files}
use Rattle.warc_journal.specs.Journals.{disk_of, extent_of, last_len, texts, Rests}
use Rattle.warc_journal.specs.Texts.{HoldEither, with_more}
use Rattle.warc_text.specs.Records.{info_text}
use Rattle.archive_shelf.specs.Answers.{LeavesReading}
use Rattle.archive_shelf.specs.Contents.{Contents}
use Rattle.archive_shelf.specs.Storing.{as_stored, with_capture, with_volume}
use Rattle.archive_shelf.specs.Told.{StoresOn}
use Rattle.archive_shelf.specs.declared.fault.StoreFault.{StoreFault}
use Rattle.archive_shelf.specs.declared.fault.StoreFault.TheVariants as stores
use Rattle.archive_shelf.specs.declared.receipt.Receipt.{Receipt}
use Rattle.archive_core.specs.Holdings.{Holdings}
use Rattle.archive_core.specs.Texts.{texts_begun}
use Rattle.archive_core.specs.Told.{told_of}
use Rattle.archive_volumes.specs.Grouping.{IsGroupFor}
use Rattle.archive_volumes.specs.Volumes.{LeavesJust, muted}
use Rattle.archive_volumes.specs.Writing.{IsNeeded}
use Rattle.archive_volumes.specs.Written.{WritesTexts, texts_as}

-- Whether a capture more may be stored: it is full exactly where there are as many as there may be.
abbrev pub Admits : {T : Type 0} → Contents → Result T StoreFault → Type 0
Admits now (Ok done) = length (captures now.seen) < now.limits.captures
Admits now (Err (stores.Full count limit)) =
    (now.limits.captures ≤ length (captures now.seen)) × (count ≡ length (captures now.seen)) × (limit ≡ now.limits.captures)
Admits now (Err stores.DiskFault) = ⊥
Admits now (Err (stores.Damaged at kept found)) = ⊥
Admits now (Err stores.Memory) = ⊥

-- the texts of the volumes that a read gives, or those with one that is begun
abbrev pub texts_where : {D : Type 0} → Ghosts D → Holdings D → Bool → ℕ → List (List ℕ)
texts_where d held begun born = if begun then texts_begun d held born else texts d held.journal

-- A volume was begun for a capture that was refused: the book has it, its warcinfo stands behind the texts, and a crash leaves that with the capture's
-- group or without.
pub record BeginsAlone {D : Type 0} (d : Ghosts D) (was is : Holdings D) (born : ℕ) (group : List ℕ) : Type 0 where
  pub book : is.book ≡ with_volume was.book born
  pub texts_are : texts d is.journal ≡ texts_begun d was born
  pub images : Leaves (d.images (disk_of is.journal))
      (λ image. HoldEither (texts_begun d was born) (with_more (texts_begun d was born) group) (warc_files image))

-- neither the book nor the texts have changed
abbrev pub StaysFilled : {D : Type 0} → Ghosts D → Holdings D → Holdings D → Type 0
StaysFilled d was is = (is.book ≡ was.book) × (texts d is.journal ≡ texts d was.journal)

-- The capture's group was put behind the volumes' texts, or the disk refused it. Whatever the disk tells: a volume was to be begun exactly where
-- the capture needs one, by where the last volume's text ended and by how long the group is; once it is stored, the group stands behind that text,
-- or behind the new volume's warcinfo. Where the disk tells, whatever is told of the book: no text loses a byte, at whatever moment a crash stops it; and
-- where it was refused, book and texts stay, or both have the volume that was begun.
pub record FillsVolumes {D : Type 0} (d : Ghosts D) (was is : Holdings D) (taken : Taken) (same : Option ℕ) (result : Result Receipt StoreFault) : Type 0 where
  pub payload : List ℕ
  pub has : HasPayload taken.cut taken.method taken.head taken.wire payload
  pub group : List ℕ
  pub of : IsGroupFor was.book taken payload same group
  pub begun : Bool
  pub needed : IsNeeded was.limits.volume_bytes was.book (last_len was.journal) (length group) begun
  pub book : OnOk result (is.book ≡ with_capture (if begun then with_volume was.book taken.date else was.book) (as_stored taken same))
  pub ends : OnOk result (last_len is.journal
      ≡ (if begun then length (info_text was.book.namespace (length was.book.volumes) taken.date) else last_len was.journal) + length group)
  pub bytes : IsTrue d.tells
      → WritesTexts d was.journal is.journal (texts_as (texts_where d was begun taken.date) (with_more (texts_where d was begun taken.date) group)) result
  pub left : IsTrue d.tells → OnErr result (StaysFilled d was is ⊎ ((begun ≡ true) × BeginsAlone d was is taken.date group))

-- Nothing was written: the volumes reach as far, and the book stays. Where the disk tells, whatever is told of the book, a read gives what it gave, and at
-- each moment a crash leaves what it might have left before.
abbrev pub LeavesVolumes : {D : Type 0} → Ghosts D → Holdings D → Holdings D → Type 0
LeavesVolumes d was is =
    (IsTrue d.tells → Rests d (disk_of was.journal) (disk_of is.journal)) × (extent_of is.journal ≡ extent_of was.journal) × (is.book ≡ was.book)

-- what a store leaves of the volumes, by what it answers
abbrev pub Fills : {D : Type 0} → Ghosts D → Holdings D → Holdings D → Taken → Result Receipt StoreFault → Type 0
Fills d was is taken (Ok receipt) = FillsVolumes d was is taken receipt.same_as (Ok receipt)
Fills d was is taken (Err (stores.Full count limit)) = LeavesVolumes d was is
Fills d was is taken (Err stores.DiskFault) = LeavesVolumes d was is ⊎ ((same : Option ℕ) × FillsVolumes d was is taken same (Err stores.DiskFault))
Fills d was is taken (Err (stores.Damaged number kept found)) = LeavesVolumes d was is
Fills d was is taken (Err stores.Memory) = LeavesVolumes d was is

-- a capture was stored, or refused
pub record Stores {D : Type 0} (d : Ghosts D) (was is : Holdings D) (taken : Taken) (result : Result Receipt StoreFault) : Type 0 where
  pub told : StoresOn true taken (told_of d was) (told_of d is) result
  -- once it is stored, the files of the volumes are just the texts of the book, in each image, where that is told
  pub just : OnOk result (LeavesJust (muted is.told d) (disk_of is.journal) is.book)
  pub fills : Fills d was is taken result
  -- where the disk tells, whatever is told of the book: nothing written, a read gives what it gave, and it gives the same checkpoints in any case
  pub bytes : IsTrue d.tells → LeavesReading (d.reading (disk_of was.journal)) (d.reading (disk_of is.journal)) result
