-- The texts of volumes, and the files that hold them.
use Rattle.std.specs.Prelude.{◌≡◌, ◌⊎◌, ◌<◌, ◌≤◌, ℕ, ◌+◌, ◌-◌, List, [], ◌∷◌, ◌++◌, length, set, slice_index_or}
use Rattle.capture.specs.Tails.{HoldsTexts}
use Rattle.warc_text.specs.StandsFor.{commit_byte}

-- the texts, the last one with more behind it
abbrev pub with_more : List (List ℕ) → List ℕ → List (List ℕ)
with_more texts more = set texts (length texts - 1) (slice_index_or texts (length texts - 1) [] ++ more)

-- the files hold the texts: a crash may have left an unfinished tail behind the last one, and one further file that holds
-- no more than such a tail
abbrev pub Hold : List (List ℕ) → List (List ℕ) → Type 0
Hold texts files = HoldsTexts commit_byte texts files

-- the files hold the texts before or the texts after
abbrev pub HoldEither : List (List ℕ) → List (List ℕ) → List (List ℕ) → Type 0
HoldEither before after files = Hold before files ⊎ Hold after files

-- the files are the texts, or the texts and one empty file
abbrev pub AreJust : List (List ℕ) → List (List ℕ) → Type 0
AreJust texts files = (files ≡ texts) ⊎ (files ≡ texts ++ [] ∷ [])

-- the volumes but the last have just their texts, and there is one file more at most
pub record AreSealed (texts files : List (List ℕ)) : Type 0 where
  pub enough : length texts ≤ length files
  pub one_more : length files ≤ length texts + 1
  pub sealed : (k : ℕ) → k + 1 < length texts → slice_index_or files k [] ≡ slice_index_or texts k []

-- the last volume's file has just its text
abbrev pub IsLastJust : List (List ℕ) → List (List ℕ) → Type 0
IsLastJust texts files = (k : ℕ) → k + 1 ≡ length texts → slice_index_or files k [] ≡ slice_index_or texts k []

-- a further file is empty
abbrev pub IsFurtherEmpty : List (List ℕ) → List (List ℕ) → Type 0
IsFurtherEmpty texts files = (k : ℕ) → k < length files → length texts ≤ k → slice_index_or files k [] ≡ []
