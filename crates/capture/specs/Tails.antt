-- Texts that are written behind a commit byte. The first byte of such a text is its commit byte, and it is written
-- last: until it stands there, what stands behind the finished texts is an unfinished tail.
use Rattle.std.specs.Prelude.{◌≡◌, ◌≢◌, ◌⊎◌, ℕ, ◌+◌, ◌<◌, ◌≤◌, List, [], ◌++◌, length, slice_index, slice_index_or}

-- a committed text: it begins with its commit byte, and more stands behind that
pub record IsCommitted (commit : ℕ) (text : List ℕ) : Type 0 where
  pub begins : slice_index text 0 ≡ commit
  pub more : 1 < length text

-- an unfinished tail: it doesn't begin with the commit byte, or nothing stands behind that byte
pub record IsTail (commit : ℕ) (text : List ℕ) : Type 0 where
  pub some : 0 < length text
  pub unfinished : (slice_index text 0 ≢ commit) ⊎ (length text ≡ 1)

-- nothing, or an unfinished tail
abbrev pub IsRest : ℕ → List ℕ → Type 0
IsRest commit rest = (rest ≡ []) ⊎ IsTail commit rest

-- a file holds the text: it is the text, followed by nothing or by an unfinished tail
pub record HoldsText (commit : ℕ) (text file : List ℕ) : Type 0 where
  pub rest : List ℕ
  pub unfinished : IsRest commit rest
  pub composed : file ≡ text ++ rest

-- the files hold the texts: each but the last has just its text, the last may go on with an unfinished tail, and at most
-- one file stands behind it, with no more than that
pub record HoldsTexts (commit : ℕ) (texts files : List (List ℕ)) : Type 0 where
  pub enough : length texts ≤ length files
  pub one_more : length files ≤ length texts + 1
  pub sealed : (k : ℕ) → k + 1 < length texts → slice_index_or files k [] ≡ slice_index_or texts k []
  pub last : (k : ℕ) → k + 1 ≡ length texts → HoldsText commit (slice_index_or texts k []) (slice_index_or files k [])
  pub further : (k : ℕ) → k < length files → length texts ≤ k → IsRest commit (slice_index_or files k [])
