-- Which checkpoints of a book's volumes are finished.
use Rattle.std.specs.Prelude.{◌≡◌, ℕ, ◌<◌, true, List, Contains}
use Rattle.capture.specs.declared.book.Book.{Book}
use Rattle.disk_model.specs.Image.{Image}
use Rattle.cdxj_line.specs.declared.line.Line.{Line}
use Rattle.checkpoint.specs.OfVolume.{AreLinesOf}
use Rattle.checkpoint.specs.Putting.{HoldsCheckpoint}
use Rattle.archive_volumes.specs.Spots.{is_told_form}
use Rattle.archive_volumes.specs.declared.spot.Spot.{Spot}

-- the checkpoint of the book's volume is finished in the image: it has the lines of just that volume's captures
pub record HasCheckpoint (book : Book) (k : ℕ) (image : Image) : Type 0 where
  pub lines : List Line
  pub holds : HoldsCheckpoint k lines image
  pub are : AreLinesOf book k lines

-- those of so many of the first volumes are
abbrev pub FirstAreFinished : Book → ℕ → Image → Type 0
FirstAreFinished book n image = (k : ℕ) → k < n → HasCheckpoint book k image

-- ---- those that an opening read

-- a line told of a capture of this volume
pub record HasLined (spots : List Spot) (k : ℕ) : Type 0 where
  pub spot : Spot
  pub one : Contains spots spot
  pub told : is_told_form spot.form ≡ true
  pub volume_is : spot.volume ≡ k

-- and so of each of so many of the first volumes
abbrev pub AreLinedTo : List Spot → ℕ → Type 0
AreLinedTo spots n = (k : ℕ) → k < n → HasLined spots k
