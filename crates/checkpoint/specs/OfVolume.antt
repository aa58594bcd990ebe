-- The lines of a book's volume, and the checkpoints of a book.
use Rattle.std.specs.Prelude.{◌≡◌, ℕ, ◌+◌, ◌<◌, List, length, slice_get, Some, Contains}
use Rattle.std.specs.List.Sorted.{IsStrictlySortedBy}
use Rattle.capture.specs.Captures.{captures, first_number}
use Rattle.capture.specs.Growth.{Grows}
use Rattle.capture.specs.declared.book.Book.{Book}
use Rattle.capture.specs.declared.book.Volume.{Volume}
use Rattle.capture.specs.declared.captured.Stored.{Stored}
use Rattle.disk_model.specs.Image.{Image}
use Rattle.cdxj_line.specs.declared.line.Line.{Line}
use Rattle.index_entry.specs.OfBook.{IsEntryOf}
use Rattle.index_entry.specs.OfLine.{facts_of}
use Rattle.checkpoint.specs.Checkpoints.{IsCheckpoint, checkpoint_of, line_order}

-- the line is that of the capture with this number, whatever its method and status: it tells its entry, and its method
pub record IsLineOf (book : Book) (number : ℕ) (line : Line) : Type 0 where
  pub stored : Stored
  pub placed : slice_get (captures book) number ≡ Some stored
  pub entry : IsEntryOf book number (facts_of line)
  pub method_is : line.method ≡ stored.method

-- the lines of a volume: one for each of its captures, in their order
pub record AreLinesOf (book : Book) (k : ℕ) (lines : List Line) : Type 0 where
  pub in_order : IsStrictlySortedBy line_order lines
  pub of_volume : (line : Line) → Contains lines line → line.volume ≡ k
  pub each : (line : Line) → Contains lines line → IsLineOf book line.number line
  pub all : (volume : Volume) (place : ℕ) → slice_get book.volumes k ≡ Some volume → place < length volume.captures
      → (line : Line) × Contains lines line × (line.number ≡ first_number book k + place)

-- Each finished checkpoint is that of a volume behind which another one stands, and has the lines of just this volume.
pub record HasCheckpointsOf (image : Image) (book : Book) : Type 0 where
  pub each : (k : ℕ) (lines : List Line) → IsCheckpoint k lines (checkpoint_of image k) → (k + 1 < length book.volumes) × AreLinesOf book k lines

-- a volume has one list of lines
abbrev pub VolumesHaveOneListOfLines : Type 0
VolumesHaveOneListOfLines =
    (book : Book) (k : ℕ) (lines other : List Line) → AreLinesOf book k lines → AreLinesOf book k other → lines ≡ other

-- the lines of a volume that isn't the last stay when the book grows
abbrev pub SealedLinesStay : Type 0
SealedLinesStay =
    (old new : Book) (k : ℕ) (lines : List Line) → Grows old new → k + 1 < length old.volumes
    → AreLinesOf old k lines → AreLinesOf new k lines
