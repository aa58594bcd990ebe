-- What a disk holds: files of two kinds, each kind numbered from 0, each file a list of bytes.
use Rattle.std.specs.Prelude.{◌≢◌, ◌⊎◌, ℕ, ◌+◌, List, [], ◌∷◌, ◌++◌, length, take, drop, get_or, set}
use Rattle.disk_model.specs.declared.kind.Kind.{Kind}
use Rattle.disk_model.specs.declared.kind.Kind.TheVariants.{Warc, Cdxj}

-- the files of each kind, in order of their numbers
pub record Image : Type 0 where
  pub warc : List (List ℕ)
  pub cdxj : List (List ℕ)

-- no files at all
abbrev pub no_files : Image
no_files = record { warc = []; cdxj = [] }

-- the files of a kind
unfoldable pub files_of : Image → Kind → List (List ℕ)
files_of image Warc = image.warc
files_of image Cdxj = image.cdxj

-- the image with other files of a kind
unfoldable pub with_files : Image → Kind → List (List ℕ) → Image
with_files image Warc files = record { warc = files; cdxj = image.cdxj }
with_files image Cdxj files = record { warc = image.warc; cdxj = files }

-- how many files of a kind there are
abbrev pub file_count : Image → Kind → ℕ
file_count image kind = length (files_of image kind)

-- the bytes of a file; none where it isn't there
unfoldable pub file_of : Image → Kind → ℕ → List ℕ
file_of image kind file = get_or (files_of image kind) file []

-- a file is another: of another kind, or of another number
abbrev pub IsApart : Kind → ℕ → Kind → ℕ → Type 0
IsApart kind file other number = (other ≢ kind) ⊎ (number ≢ file)

-- the image with these bytes in a file; the same image where the file isn't there
unfoldable pub with_file : Image → Kind → ℕ → List ℕ → Image
with_file image kind file bytes = with_files image kind (set (files_of image kind) file bytes)

-- the image with one file more of a kind, an empty one
unfoldable pub with_new : Image → Kind → Image
with_new image kind = with_files image kind (files_of image kind ++ [] ∷ [])

-- the file with these bytes written at an offset, over what is there and past the end
abbrev pub written : List ℕ → ℕ → List ℕ → List ℕ
written old at bytes = take at old ++ bytes ++ drop (at + length bytes) old
