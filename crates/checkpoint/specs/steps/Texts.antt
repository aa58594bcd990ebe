-- What is left on a disk when the file of a checkpoint is made, and when a text is put there.
use Rattle.std.specs.Prelude.{◌≡◌, ◌⊎◌, ℕ, List}
use Rattle.capture.specs.Tails.{IsRest}
use Rattle.disk_model.specs.Image.{Image}
use Rattle.disk_model.specs.Moments.{AddsOnly}
use Rattle.disk_model.specs.declared.disk.Disk.{Ghosts}
use Rattle.checkpoint.specs.Checkpoints.{checkpoint_of}
use Rattle.checkpoint.specs.Putting.{IsBeside, commit_byte}

-- an image beside one from before, with the same bytes in the volume's file
pub record HasBytesOf (volume : ℕ) (images : Image → Type 0) (image : Image) : Type 0 where
  pub before : Image
  pub was : images before
  pub beside : IsBeside volume before image
  pub same : checkpoint_of image volume ≡ checkpoint_of before volume

-- the file was made, or not
pub record Makes {D : Type 0} (d : Ghosts D) (volume : ℕ) (old new : D) : Type 0 where
  pub leaves : AddsOnly d.moment d.images_since old new (HasBytesOf volume (d.images old))
  pub reading : IsBeside volume (d.reading old) (d.reading new)

-- an image beside one from before, in which the volume's file is as it was, or unfinished, or just this text
pub record HasText (volume : ℕ) (text : List ℕ) (images : Image → Type 0) (image : Image) : Type 0 where
  pub before : Image
  pub was : images before
  pub beside : IsBeside volume before image
  pub own : (checkpoint_of image volume ≡ checkpoint_of before volume)
      ⊎ (IsRest commit_byte (checkpoint_of image volume) ⊎ (checkpoint_of image volume ≡ text))

-- the text was put there, or not
pub record PutsText {D : Type 0} (d : Ghosts D) (volume : ℕ) (text : List ℕ) (old new : D) : Type 0 where
  pub leaves : AddsOnly d.moment d.images_since old new (HasText volume text (d.images old))
  pub reading : IsBeside volume (d.reading old) (d.reading new)
