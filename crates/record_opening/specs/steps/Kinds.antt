-- Which record the bytes of a group begin with, by the third letter of its type.
use Rattle.std.specs.Prelude.{◌≡◌, ◌<◌, ℕ, List, length, slice_index}
use Rattle.record_opening.specs.declared.opening.AnswerKind.{AnswerKind}
use Rattle.record_opening.specs.declared.opening.AnswerKind.TheVariants.{Response, Revisit}

-- the letter
abbrev pub letter : AnswerKind → ℕ
letter Response = 115
letter Revisit = 118

-- it is there
pub record IsKind (bytes : List ℕ) (kind : AnswerKind) : Type 0 where
  pub there : 23 < length bytes
  pub letter_is : slice_index bytes 23 ≡ letter kind
