-- What a disk over a folder knows of it.
use Rattle.std.specs.Prelude.{◌^◌, ◌≡◌, ◌⊎◌, ◌<◌, ◌≤◌, ℕ, zero, suc, ◌+◌, Bool, false, if◌then◌else◌, Option, Some, None, is_some, List, [], ◌∷◌, ◌++◌}
use Rattle.disk_model.specs.Image.{Image, file_count}
use Rattle.disk_model.specs.declared.kind.Kind.{Kind}
use Rattle.disk_model.specs.declared.kind.Kind.TheVariants.{Warc, Cdxj}
use Rattle.folder_model.specs.File.{AreBytesSure}
use Rattle.folder_model.specs.Folder.{FolderPast, contents_of, deeds_of}
use Rattle.folder_model.specs.Seen.{FolderIs, IsNamed}
use Rattle.folder_model.specs.Times.{Times, IsTimed}

-- the files of a kind up to a number
abbrev pub files_up_to : (ℕ → List ℕ) → ℕ → List (List ℕ)
files_up_to bytes zero = []
files_up_to bytes (suc n) = files_up_to bytes n ++ bytes n ∷ []

-- the bytes of what is there
abbrev pub bytes_or_none : Option (List ℕ) → List ℕ
bytes_or_none None = []
bytes_or_none (Some bytes) = bytes

-- the image of so many files of each kind
unfoldable pub image_of : (Kind → ℕ → Option (List ℕ)) → (Kind → ℕ) → Image
image_of entry count = record {
  warc = files_up_to (λ file. bytes_or_none (entry Warc file)) (count Warc);
  cdxj = files_up_to (λ file. bytes_or_none (entry Cdxj file)) (count Cdxj);
}

-- The image that reads find, of a disk that knows of so many files of each kind and may have made one more.
abbrev pub reading_of : (Kind → ℕ → List ℕ) → FolderPast → (Kind → ℕ) → Image
reading_of name past known =
    image_of (λ kind file. contents_of past (name kind file))
    (λ kind. if is_some (contents_of past (name kind (known kind))) then known kind + 1 else known kind)

-- a file in doubt, where there is one at most of each kind
abbrev pub IsInDoubt : (Kind → ℕ → List ℕ) → (Kind → Option ℕ) → List ℕ → Type 0
IsInDoubt name doubts n = (kind : Kind) × (file : ℕ) × (doubts kind ≡ Some file) × (n ≡ name kind file)

-- A disk that knows of so many files of each kind, fewer than 2 ^ 32, and what it reads, which may have one file more of a kind: one that it was to make. The
-- names of those that it knows of are on the disk. It has given up where a sync failed and can't be mended: from then on it makes and syncs nothing. Before that
-- syncs answer for all bytes but for those of files in doubt, of which a sync failed.
pub record Knows (name : Kind → ℕ → List ℕ) (past : FolderPast) (known : Kind → ℕ) (gave_up : Bool) (doubts : Kind → Option ℕ) (times : Times) (reading : Image) : Type 0 where
  pub is : FolderIs name past reading
  pub timed : IsTimed times past
  pub numbers : (kind : Kind) → known kind < 2 ^ 32
  pub no_fewer : (kind : Kind) → known kind ≤ file_count reading kind
  pub one_more : (kind : Kind) → file_count reading kind ≤ known kind + 1
  pub named : (kind : Kind) (file : ℕ) → file < known kind → IsNamed past (name kind file)
  pub sure : gave_up ≡ false → (n : List ℕ) → IsInDoubt name doubts n ⊎ AreBytesSure (past.first n) (deeds_of n past.deeds)
