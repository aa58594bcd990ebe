-- What is counted of a folder's files.
use Rattle.std.specs.Prelude.{◌≡◌, ◌≢◌, ◌<◌, ◌≤◌, ◌^◌, ℕ, None, List}
use Rattle.std.specs.List.{Contains}
use Rattle.disk_model.specs.Image.{Image, file_count}
use Rattle.disk_model.specs.declared.kind.Kind.{Kind}
use Rattle.disk_model.specs.declared.kind.Kind.TheVariants.{Warc, Cdxj}
use Rattle.folder_model.specs.Folder.{FolderPast, contents_of, IsUnfailed}
use Rattle.folder_model.specs.Seen.{IsSeen}

-- how many files of a kind there are
abbrev pub known_of : ℕ → ℕ → Kind → ℕ
known_of warc cdxj Warc = warc
known_of warc cdxj Cdxj = cdxj

-- Of the names that came, of each kind a number above all of them.
pub record Tallied : Type 0 where
  pub warc : ℕ
  pub cdxj : ℕ
  pub given : List (List ℕ)

-- the numbers of the files among these names are below these
abbrev pub AreBelow : (Kind → ℕ → List ℕ) → ℕ → ℕ → List (List ℕ) → Type 0
AreBelow name warc cdxj given = (kind : Kind) (file : ℕ) → file < 2 ^ 32 → Contains given (name kind file) → file < known_of warc cdxj kind

-- the folder has each file of a kind whose number is below this
abbrev pub HasBelow : (Kind → ℕ → List ℕ) → FolderPast → Kind → ℕ → Type 0
HasBelow name past kind count = (file : ℕ) → file < count → contents_of past (name kind file) ≢ None

-- and none whose number isn't
abbrev pub HasNoMoreOf : (Kind → ℕ → List ℕ) → FolderPast → Kind → ℕ → Type 0
HasNoMoreOf name past kind count = (file : ℕ) → count ≤ file → file < 2 ^ 32 → contents_of past (name kind file) ≡ None

-- the folder has no file whose number isn't below these
abbrev pub HasNoMore : (Kind → ℕ → List ℕ) → FolderPast → ℕ → ℕ → Type 0
HasNoMore name past warc cdxj = (kind : Kind) → HasNoMoreOf name past kind (known_of warc cdxj kind)

-- The folder has so many files of each kind, fewer than 2 ^ 32 and without a gap, and no sync in it has failed since the machine was started.
pub record IsCounted (name : Kind → ℕ → List ℕ) (past : FolderPast) (warc cdxj : ℕ) : Type 0 where
  pub unfailed : IsUnfailed past
  pub image : Image
  pub seen : IsSeen name (contents_of past) image
  pub counts : (kind : Kind) → file_count image kind ≡ known_of warc cdxj kind
  pub numbers : (kind : Kind) → known_of warc cdxj kind < 2 ^ 32
