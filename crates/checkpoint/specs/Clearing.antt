-- What is left on a disk when the checkpoints of volumes that aren't sealed are taken away.
use Rattle.std.specs.Prelude.{◌≡◌, ◌⊎◌, ◌-◌, ◌<◌, ◌≤◌, ℕ, List, [], length}
use Rattle.capture.specs.Tails.{IsRest}
use Rattle.disk_model.specs.Crash.{Leaves}
use Rattle.disk_model.specs.Image.{Image, file_count}
use Rattle.disk_model.specs.Moments.{AddsOnly}
use Rattle.disk_model.specs.declared.disk.Disk.{Ghosts}
use Rattle.disk_model.specs.declared.kind.Kind.TheVariants.{Cdxj}
use Rattle.warc_journal.specs.Extents.{warc_files}
use Rattle.checkpoint.specs.Checkpoints.{checkpoint_of}
use Rattle.checkpoint.specs.Putting.{commit_byte}

-- An image beside one from before: the Warc files are the same, and so are the checkpoints of the volumes before this one. No file is gone.
pub record IsBesideFrom (first : ℕ) (before image : Image) : Type 0 where
  pub warc : warc_files image ≡ warc_files before
  pub others : (volume : ℕ) → volume < first → checkpoint_of image volume ≡ checkpoint_of before volume
  pub no_fewer : file_count before Cdxj ≤ file_count image Cdxj

-- an image beside one of those from before, in which each checkpoint is as it was, or unfinished
pub record HasCleared (first : ℕ) (images : Image → Type 0) (image : Image) : Type 0 where
  pub before : Image
  pub was : images before
  pub beside : IsBesideFrom first before image
  pub each : (volume : ℕ) → (checkpoint_of image volume ≡ checkpoint_of before volume) ⊎ IsRest commit_byte (checkpoint_of image volume)

-- At each moment a crash leaves what it might have left before, or such an image. What a read gives lies beside what it gave, and no file was made.
pub record Clears {D : Type 0} (d : Ghosts D) (first : ℕ) (old new : D) : Type 0 where
  pub leaves : AddsOnly d.moment d.images_since old new (HasCleared first (d.images old))
  pub reading : IsBesideFrom first (d.reading old) (d.reading new)
  pub made_none : file_count (d.reading new) Cdxj ≡ file_count (d.reading old) Cdxj

-- nothing stands in the files of the checkpoints from this volume's on
abbrev pub AreCleared : ℕ → Image → Type 0
AreCleared first image = (volume : ℕ) → first ≤ volume → checkpoint_of image volume ≡ []

-- How many volumes are sealed, by their files alone: each that has another file behind it. What stands in that one doesn't matter.
abbrev pub sealed_count : List (List ℕ) → ℕ
sealed_count files = length files - 1

-- the checkpoints of volumes that aren't sealed were taken away, and a crash leaves none of them
pub record IsCleared {D : Type 0} (d : Ghosts D) (old new : D) : Type 0 where
  pub clears : Clears d (sealed_count (warc_files (d.reading old))) old new
  pub none : Leaves (d.images new) (AreCleared (sealed_count (warc_files (d.reading old))))

-- some of them may have been taken away
abbrev pub ClearsUnsealed : {D : Type 0} → Ghosts D → D → D → Type 0
ClearsUnsealed d old new = Clears d (sealed_count (warc_files (d.reading old))) old new
