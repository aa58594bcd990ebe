-- What is left on a disk when a checkpoint is written.
use Rattle.std.specs.Prelude.{◌≡◌, ◌≢◌, ◌⊎◌, ◌+◌, ◌<◌, ℕ, List}
use Rattle.capture.specs.Tails.{IsRest}
use Rattle.disk_model.specs.Crash.{Leaves}
use Rattle.disk_model.specs.Image.{Image, file_count, file_of}
use Rattle.disk_model.specs.Moments.{AddsOnly}
use Rattle.disk_model.specs.declared.disk.Disk.{Ghosts}
use Rattle.disk_model.specs.declared.kind.Kind.TheVariants.{Cdxj}
use Rattle.warc_journal.specs.Extents.{warc_files}
use Rattle.warc_journal.specs.Laws.{HasWarcOf}
use Rattle.cdxj_line.specs.declared.line.Line.{Line}
use Rattle.checkpoint.specs.Checkpoints.{IsCheckpoint, checkpoint_of}

-- the first byte of a finished checkpoint: `!`
abbrev pub commit_byte : ℕ
commit_byte = 33

-- An image beside one from before: the Warc files are the same, and so are the other checkpoints. There is one file more, the
-- volume's, or none.
pub record IsBeside (volume : ℕ) (before image : Image) : Type 0 where
  pub warc : warc_files image ≡ warc_files before
  pub others : (file : ℕ) → file ≢ volume → file_of image Cdxj file ≡ file_of before Cdxj file
  pub count : (file_count image Cdxj ≡ file_count before Cdxj) ⊎ ((file_count before Cdxj ≡ volume) × (file_count image Cdxj ≡ volume + 1))

-- The volume's checkpoint is as it was, or unfinished, or the finished one with just these lines.
abbrev pub IsWrittenFrom : ℕ → List Line → Image → Image → Type 0
IsWrittenFrom volume lines before image =
    (checkpoint_of image volume ≡ checkpoint_of before volume)
    ⊎ (IsRest commit_byte (checkpoint_of image volume) ⊎ IsCheckpoint volume lines (checkpoint_of image volume))

-- an image beside one of those from before, in which the volume's checkpoint is as it was, unfinished, or has these lines
pub record HasPut (volume : ℕ) (lines : List Line) (images : Image → Type 0) (image : Image) : Type 0 where
  pub before : Image
  pub was : images before
  pub beside : IsBeside volume before image
  pub own : IsWrittenFrom volume lines before image

-- At each moment a crash leaves what it might have left before, or such an image. What a read gives lies beside what it gave.
pub record Puts {D : Type 0} (d : Ghosts D) (volume : ℕ) (lines : List Line) (old new : D) : Type 0 where
  pub leaves : AddsOnly d.moment d.images_since old new (HasPut volume lines (d.images old))
  pub reading : IsBeside volume (d.reading old) (d.reading new)

-- the image has the volume's file, and that is the finished checkpoint with these lines
pub record HoldsCheckpoint (volume : ℕ) (lines : List Line) (image : Image) : Type 0 where
  pub there : volume < file_count image Cdxj
  pub finished : IsCheckpoint volume lines (checkpoint_of image volume)

-- the checkpoint is of that volume, and has those lines
pub record IsLeftFinished (volume other : ℕ) (lines others : List Line) : Type 0 where
  pub volume_is : other ≡ volume
  pub lines_are : others ≡ lines

-- where the lines of a volume are written, its file is a finished checkpoint with other lines only where it was so before
abbrev pub FinishedIsGiven : Type 0
FinishedIsGiven =
    (volume : ℕ) (lines : List Line) (other : ℕ) (others : List Line) (before image : Image)
    → IsWrittenFrom volume lines before image → IsCheckpoint other others (checkpoint_of image volume)
    → IsCheckpoint other others (checkpoint_of before volume) ⊎ IsLeftFinished volume other lines others

-- writing keeps the Warc files of an image from before, in each image, so that a journal stays in step
abbrev pub VolumesStay : {D : Type 0} → Ghosts D → Type 0
VolumesStay {D} d =
    (volume : ℕ) (lines : List Line) (old new : D) → Puts d volume lines old new → Leaves (d.images new) (HasWarcOf (d.images old))
