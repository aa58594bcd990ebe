-- What it leaves to write the checkpoints of sealed volumes: of each volume but the last.
use Rattle.std.specs.Prelude.{ℕ, ◌≡◌, ◌⊎◌, zero, suc, ◌+◌, ◌<◌, ◌≤◌, Bool, true, false, IsTrue, List, length, slice_get, Some, Result, Ok, Err}
use Rattle.capture.specs.Tails.{IsRest}
use Rattle.capture.specs.Captures.{first_number}
use Rattle.capture.specs.declared.book.Book.{Book}
use Rattle.capture.specs.declared.book.Volume.{Volume}
use Rattle.disk_model.specs.Crash.{Leaves}
use Rattle.disk_model.specs.Image.{Image, file_count}
use Rattle.disk_model.specs.Moments.{AddsOnly}
use Rattle.disk_model.specs.declared.disk.Disk.{Ghosts}
use Rattle.disk_model.specs.declared.kind.Kind.TheVariants.{Cdxj}
use Rattle.warc_journal.specs.Extents.{warc_files}
use Rattle.warc_journal.specs.Journals.{Rests}
use Rattle.cdxj_line.specs.declared.line.Line.{Line}
use Rattle.checkpoint.specs.Checkpoints.{IsCheckpoint, checkpoint_of}
use Rattle.checkpoint.specs.OfVolume.{AreLinesOf, HasCheckpointsOf}
use Rattle.checkpoint.specs.Putting.{HoldsCheckpoint, Puts, commit_byte}
use Rattle.checkpoint.specs.declared.fault.CheckpointFault.{CheckpointFault}
use Rattle.checkpoint.specs.declared.fault.CheckpointFault.TheVariants as checkpoints
use Rattle.archive_volumes.specs.declared.spot.Spot.{Spot}
use Rattle.volume_lines.specs.OfSpots.{AreLinesOfSpots}

-- ---- one checkpoint

-- a checkpoint with these lines is finished, in what a read gave and in each image
pub record StaysFinished {D : Type 0} (d : Ghosts D) (volume : ℕ) (lines : List Line) (old new : D) : Type 0 where
  pub was : HoldsCheckpoint volume lines (d.reading old)
  pub is : Leaves (d.images new) (HoldsCheckpoint volume lines)

-- Whether the checkpoint has to be written: it isn't finished with these lines, and the files before it are there. It hasn't where it is.
abbrev pub IsDue : {D : Type 0} → Ghosts D → ℕ → List Line → D → D → Bool → Type 0
IsDue d volume lines old new true =
    (volume ≤ file_count (d.reading old) Cdxj) × (IsCheckpoint volume lines (checkpoint_of (d.reading old) volume) → ⊥)
IsDue d volume lines old new false = volume ≤ file_count (d.reading old) Cdxj → StaysFinished d volume lines old new

-- the checkpoint was written, done or refused, and it wasn't finished with these lines before
pub record WritesMissing {D : Type 0} (d : Ghosts D) (volume : ℕ) (lines : List Line) (old new : D) : Type 0 where
  pub missing : IsCheckpoint volume lines (checkpoint_of (d.reading old) volume) → ⊥
  pub puts : Puts d volume lines old new

-- whether it was written: where it wasn't, nothing was, and for want of memory nothing is
abbrev pub Supplies : {D : Type 0} → Ghosts D → ℕ → List Line → D → D → Result Bool CheckpointFault → Type 0
Supplies d volume lines old new (Ok true) = WritesMissing d volume lines old new × Leaves (d.images new) (HoldsCheckpoint volume lines)
Supplies d volume lines old new (Ok false) =
    Rests d old new × (volume ≤ file_count (d.reading old) Cdxj → StaysFinished d volume lines old new)
Supplies d volume lines old new (Err checkpoints.DiskFault) = Rests d old new ⊎ WritesMissing d volume lines old new
Supplies d volume lines old new (Err checkpoints.Memory) = Rests d old new

-- ---- the checkpoints of a book

-- a book as an archive has it: whether it is told, and what is kept of each of its captures
pub record Shelved : Type 0 where
  pub told : Bool
  pub book : Book
  pub spots : List Spot

-- A sealed volume with these lines, whose checkpoint wasn't finished with them at first. They tell what is kept of its captures, one for each; where
-- the book is told, they are those of the book's volume.
pub record IsMissing (shelved : Shelved) (first : Image) (k : ℕ) (lines : List Line) : Type 0 where
  pub sealed : k + 1 < length shelved.book.volumes
  pub of : Volume
  pub placed : slice_get shelved.book.volumes k ≡ Some of
  pub kept : AreLinesOfSpots shelved.spots (first_number shelved.book k) (length of.captures) lines
  pub are : IsTrue shelved.told → AreLinesOf shelved.book k lines
  pub missing : IsCheckpoint k lines (checkpoint_of first k) → ⊥

-- An image's checkpoints beside those of an image from before, with the same Warc files: each is as it was, or is of one of so many first
-- volumes, was missing at first, and is unfinished or finished with its lines. No file is there but for volumes of the book, and none is gone.
pub record GoesWith (shelved : Shelved) (upto : ℕ) (first before image : Image) : Type 0 where
  pub warc : warc_files image ≡ warc_files before
  pub each : (k : ℕ) → (checkpoint_of image k ≡ checkpoint_of before k)
      ⊎ ((k < upto) × (lines : List Line) × IsMissing shelved first k lines
      × (IsRest commit_byte (checkpoint_of image k) ⊎ IsCheckpoint k lines (checkpoint_of image k)))
  pub no_fewer : file_count before Cdxj ≤ file_count image Cdxj
  pub no_more : (file_count image Cdxj ≡ file_count before Cdxj) ⊎ (file_count image Cdxj < length shelved.book.volumes)

-- the checkpoints of a book that is told stay right: where those of an image were, those of one that goes with it are
abbrev pub KeepsSettled : Type 0
KeepsSettled =
    (shelved : Shelved) (upto : ℕ) (first before image : Image) → IsTrue shelved.told → GoesWith shelved upto first before image
    → HasCheckpointsOf before shelved.book → HasCheckpointsOf image shelved.book

-- so many of the first ones haven't P
abbrev pub HasWithout : (ℕ → Type 0) → ℕ → ℕ → Type 0
HasWithout P zero n = n ≡ 0
HasWithout P (suc k) zero = P k × HasWithout P k zero
HasWithout P (suc k) (suc n) = (P k × HasWithout P k (suc n)) ⊎ ((P k → ⊥) × HasWithout P k n)

-- The checkpoints of so many of the first volumes were written where they were missing. Of each disk that tells, whatever is told of the book:
-- the volumes' files are as they were, and so are the checkpoints that weren't missing and those of the other volumes. At each moment, and once
-- it is done, a crash leaves what it might have left before, or an image that goes with such a one.
pub record LeavesCheckpoints {D : Type 0} (d : Ghosts D) (shelved : Shelved) (upto : ℕ) (old new : D) : Type 0 where
  pub warc : warc_files (d.reading new) ≡ warc_files (d.reading old)
  pub reading : (k : ℕ) → (checkpoint_of (d.reading new) k ≡ checkpoint_of (d.reading old) k)
      ⊎ ((k < upto) × (lines : List Line) × IsMissing shelved (d.reading old) k lines)
  pub leaves : AddsOnly d.moment d.images_since old new
      (λ image. (before : Image) × d.images old before × GoesWith shelved upto (d.reading old) before image)
  pub images : Leaves (d.images new) (λ image. (before : Image) × d.images old before × GoesWith shelved upto (d.reading old) before image)

-- how many of the first volumes may have been written, where so many were gone through: one more where the disk failed
abbrev pub reach : ℕ → Result ℕ CheckpointFault → ℕ
reach settled (Ok n) = settled
reach settled (Err checkpoints.DiskFault) = settled + 1
reach settled (Err checkpoints.Memory) = settled
