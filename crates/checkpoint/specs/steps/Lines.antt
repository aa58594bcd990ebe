-- How the lines of a checkpoint are read one after the other.
use Rattle.std.specs.Prelude.{◌≡◌, ℕ, Bool, true, List, [], ◌∷◌, ◌++◌, Option, Some, None}
use Rattle.std.specs.Borrow.{Bor}
use Rattle.std.specs.Ordering.{is_lt}
use Rattle.cdxj_line.specs.Lines.{IsLine, line_text}
use Rattle.cdxj_line.specs.declared.line.Line.{Line}
use Rattle.checkpoint.specs.Checkpoints.{line_order}

-- the line stands behind the last of those before
abbrev pub is_behind : List Line → Line → Bool
is_behind [] line = true
is_behind (last ∷ []) line = is_lt (line_order last line)
is_behind (first ∷ second ∷ rest) line = is_behind (second ∷ rest) line

-- the line can follow on those before: it is of the volume, and stands behind them
pub record CanFollow (volume : ℕ) (before : List Line) (line : Line) : Type 0 where
  pub of_volume : line.volume ≡ volume
  pub behind : is_behind before line ≡ true

-- a line stands at the front of the text, and these bytes behind it
pub record IsAtFront (line : Line) (behind text : List ℕ) : Type 0 where
  pub is : IsLine line
  pub text_is : text ≡ line_text line ++ behind

-- the answer for a text: the line at its front that can follow on those before, and what stands behind it; else none
abbrev pub IsNextLine : ℕ → List Line → List ℕ → Option (Line × Bor (List ℕ)) → Type 0
IsNextLine volume before text (Some read) = IsAtFront read.0 read.1.now text × CanFollow volume before read.0
IsNextLine volume before text None = (line : Line) (behind : List ℕ) → IsAtFront line behind text → CanFollow volume before line → ⊥
