-- Checkpoints: the lines of a volume's captures, in one file beside it.
use Rattle.std.specs.Prelude.{◌≡◌, ◌<◌, ℕ, List, ◌++◌, length, codes, All}
use Rattle.std.specs.declared.cmp.Ordering.{Ordering}
use Rattle.std.specs.List.{flat_map}
use Rattle.std.specs.List.Sorted.{IsStrictlySortedBy}
use Rattle.disk_model.specs.Image.{Image, file_of}
use Rattle.disk_model.specs.declared.kind.Kind.TheVariants.{Cdxj}
use Rattle.cdxj_line.specs.Lines.{HasTypes, IsWritable, line_text}
use Rattle.cdxj_line.specs.declared.line.Line.{Line}
use Rattle.index_entry.specs.OfLine.{facts_of}
use Rattle.index_entry.specs.Order.{order}

-- lines by the bytes of their keys, then by date, then by number
abbrev pub line_order : Line → Line → Ordering
line_order a b = order (facts_of a) (facts_of b)

-- The lines can make a checkpoint of this volume: there is one or more, each can be written and is of that volume, and they
-- rise in their order, so that none stands twice.
pub record AreLinesFor (volume : ℕ) (lines : List Line) : Type 0 where
  pub some : 0 < length lines
  pub writable : All IsWritable lines
  pub of_volume : All (λ (line : Line). line.volume ≡ volume) lines
  pub in_order : IsStrictlySortedBy line_order lines

-- the first line
abbrev pub first_line : List ℕ
first_line = codes "!memproxy-cdxj 1\n"

-- the lines' texts, one behind the other
abbrev pub lines_text : List Line → List ℕ
lines_text lines = flat_map line_text lines

-- the text of a checkpoint: the first line and the lines' texts
unfoldable pub checkpoint_text : List Line → List ℕ
checkpoint_text lines = first_line ++ lines_text lines

-- the bytes are a finished checkpoint of this volume, with these lines
pub record IsCheckpoint (volume : ℕ) (lines : List Line) (bytes : List ℕ) : Type 0 where
  pub typed : All HasTypes lines
  pub fit : AreLinesFor volume lines
  pub text : bytes ≡ checkpoint_text lines

-- the bytes of the file for a volume's checkpoint; none where it isn't there
abbrev pub checkpoint_of : Image → ℕ → List ℕ
checkpoint_of image volume = file_of image Cdxj volume

-- a finished checkpoint is of one volume, and has one list of lines
abbrev pub CheckpointsHaveOneListOfLines : Type 0
CheckpointsHaveOneListOfLines =
    (volume other : ℕ) (lines others : List Line) (bytes : List ℕ) → IsCheckpoint volume lines bytes → IsCheckpoint other others bytes
    → (volume ≡ other) × (lines ≡ others)
