-- What a folder's calls leave of its past.
use Rattle.std.specs.Prelude.{◌≡◌, ◌≢◌, ◌⊎◌, ℕ, ◌+◌, None, List, ◌++◌, length}
use Rattle.std.specs.List.{Contains, IsDistinct}
use Rattle.std.specs.Str.{IsUtf8, bytes_eq}
use Rattle.folder_model.specs.File.{Made, Wrote, Shortened}
use Rattle.folder_model.specs.Folder.{Contents, FolderPast, did_to, contents_of}

-- A list was read to its end: further names are given, each name of text that is there once, and no other.
pub record Lists (contents : Contents) (old new : List (List ℕ)) : Type 0 where
  pub names : List (List ℕ)
  pub further : new ≡ old ++ names
  pub there : (name : List ℕ) → Contains names name → contents name ≢ None
  pub each : (name : List ℕ) → IsUtf8 name → contents name ≢ None → Contains names name
  pub once : IsDistinct bytes_eq names

-- A file was made, or nothing was done.
abbrev pub MayMake : List ℕ → FolderPast → FolderPast → Type 0
MayMake name old new = (new ≡ old) ⊎ ((contents_of old name ≡ None) × (new ≡ did_to old name Made))

-- Of the bytes that were to be written the first ones were, and a crash may leave the others torn too.
pub record WritesInPart (name : List ℕ) (at : ℕ) (piece : List ℕ) (old new : FolderPast) : Type 0 where
  pub bytes : List ℕ
  pub rest : List ℕ
  pub all : bytes ++ rest ≡ piece
  pub whole : new ≡ did_to old name (Wrote at bytes (length rest))

-- Of a cut to a length some was done.
pub record CutsInPart (name : List ℕ) (len : ℕ) (old new : FolderPast) : Type 0 where
  pub rest : ℕ
  pub whole : new ≡ did_to old name (Shortened (len + rest) rest)
