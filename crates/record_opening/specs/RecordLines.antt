-- The lines of a record up to its block's length, as one who looks for the length alone passes them.
use Rattle.std.specs.Prelude.{◌≡◌, ◌≢◌, ℕ, ◌^◌, ◌<◌, List, [], ◌∷◌, ◌++◌, length, take, ⊤}
use Rattle.httparse.specs.Ascii.{crlf_bytes}
use Rattle.warc_text.specs.Groups.{IsOneLine}
use Rattle.warc_text.specs.Lines.{ended}
use Rattle.record_opening.specs.OpenValues.{length_mark}

-- the bytes begin with a line, and go on with the rest
pub record BeginsWithLine (bytes rest : List ℕ) : Type 0 where
  pub line : List ℕ
  pub one : IsOneLine line
  pub composed : bytes ≡ (line ++ crlf_bytes) ++ rest

-- a line that doesn't tell a length
pub record IsOtherLine (line : List ℕ) : Type 0 where
  pub one : IsOneLine line
  pub other : (behind : List ℕ) → take 16 ((line ++ crlf_bytes) ++ behind) ≢ length_mark

abbrev pub AreOtherLines : List (List ℕ) → Type 0
AreOtherLines [] = ⊤
AreOtherLines (line ∷ lines) = IsOtherLine line × AreOtherLines lines

-- the text of lines
abbrev pub lines_text : List (List ℕ) → List ℕ
lines_text [] = []
lines_text (line ∷ lines) = (line ++ crlf_bytes) ++ lines_text lines

-- the text is such lines
pub record IsOtherText (text : List ℕ) : Type 0 where
  pub lines : List (List ℕ)
  pub other : AreOtherLines lines
  pub composed : text ≡ lines_text lines

-- behind such lines the bytes go on with a length, and the rest stands behind its name
pub record TellsLength (bytes rest : List ℕ) : Type 0 where
  pub lines : List (List ℕ)
  pub other : AreOtherLines lines
  pub composed : bytes ≡ lines_text lines ++ (length_mark ++ rest)

-- the bytes begin with a record, its opening, its length and its block, and go on with the rest
pub record BeginsWithRecord (bytes rest : List ℕ) : Type 0 where
  pub opening : List ℕ
  pub block : List ℕ
  pub other : IsOtherText opening
  pub small : length block < 2 ^ 64
  pub composed : bytes ≡ (opening ++ ended block) ++ rest
