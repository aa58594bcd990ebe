-- What it leaves to begin a volume.
use Rattle.std.specs.Prelude.{◌≡◌, ℕ, Bool, true, false, IsTrue, if◌then◌else◌, is_ok, IsOk, length, Result, Ok, Err, ⊤}
use Rattle.capture.specs.declared.book.Book.{Book}
use Rattle.disk_model.specs.declared.disk.Disk.{Ghosts}
use Rattle.warc_journal.specs.Extents.{cdxj_files}
use Rattle.warc_journal.specs.Journals.{Changes, disk_of, last_len}
use Rattle.warc_text.specs.Records.{info_text}
use Rattle.archive_shelf.specs.Answers.{CountsIf}
use Rattle.archive_shelf.specs.Storing.{rolled, with_volume}
use Rattle.archive_shelf.specs.declared.fault.RollFault.{RollFault}
use Rattle.archive_shelf.specs.declared.fault.RollFault.TheVariants as rolls
use Rattle.archive_volumes.specs.Held.{is_filled}
use Rattle.archive_core.specs.Holdings.{Holdings}
use Rattle.archive_core.specs.Texts.{texts_begun}
use Rattle.archive_volumes.specs.Volumes.{Makes, muted}

abbrev pub is_roll_fault : {T : Type 0} → Result T RollFault → Bool
is_roll_fault (Ok done) = false
is_roll_fault (Err rolls.DiskFault) = true
is_roll_fault (Err rolls.Memory) = false

-- nothing was written: there was nothing to be begun, or no memory
abbrev pub WritesNoVolume : {T : Type 0} → Bool → Result T RollFault → Type 0
WritesNoVolume false result = ⊤
WritesNoVolume true (Ok done) = ⊥
WritesNoVolume true (Err rolls.DiskFault) = ⊥
WritesNoVolume true (Err rolls.Memory) = ⊤

-- it isn't refused but where there is something to be begun
abbrev pub MayBeRefused : {T : Type 0} → Bool → Result T RollFault → Type 0
MayBeRefused true result = ⊤
MayBeRefused false result = IsOk result

-- where the last volume's text ends once a volume was asked for
abbrev pub rolled_end : Book → ℕ → ℕ → ℕ
rolled_end book now end = if is_filled book.volumes then length (info_text book.namespace (length book.volumes) now) else end

-- A volume was begun where the last one holds a capture, or it was refused and the book stayed. All else stays. Where the disk tells, whatever is
-- told of the book: its warcinfo stands behind the volumes' texts, none of which loses a byte, at whatever moment a crash stops it.
pub record Rolls {D T : Type 0} (d : Ghosts D) (was is : Holdings D) (now : ℕ) (result : Result T RollFault) : Type 0 where
  pub book : is.book ≡ (if is_ok result then rolled was.book now else was.book)
  pub others : is ≡ record was { journal = is.journal; book = is.book }
  pub ends : last_len is.journal ≡ (if is_ok result then rolled_end was.book now (last_len was.journal) else last_len was.journal)
  pub faults : CountsIf (is_roll_fault result) (d.faults (disk_of was.journal)) (d.faults (disk_of is.journal))
  pub makes : IsTrue (is_filled was.book.volumes)
      → Makes (muted was.told d) (disk_of was.journal) (disk_of is.journal) was.book (with_volume was.book now) result
  pub bytes : IsTrue d.tells → IsTrue (is_filled was.book.volumes) → Changes d was.journal is.journal (texts_begun d was now) result
  pub checkpoints : IsTrue d.tells → cdxj_files (d.reading (disk_of is.journal)) ≡ cdxj_files (d.reading (disk_of was.journal))
  pub unwritten : WritesNoVolume (is_filled was.book.volumes) result → is ≡ was
  pub refused : MayBeRefused (is_filled was.book.volumes) result
