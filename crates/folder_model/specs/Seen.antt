-- A folder seen as a disk of numbered files.
use Rattle.std.specs.Prelude.{◌≡◌, ◌≢◌, ◌<◌, ◌≤◌, ◌+◌, ◌^◌, ℕ, false, Some, None, List}
use Rattle.disk_model.specs.Image.{Image, IsApart, file_count, file_of}
use Rattle.disk_model.specs.declared.kind.Kind.{Kind}
use Rattle.folder_model.specs.File.{Crash, may_lack}
use Rattle.folder_model.specs.Folder.{Contents, FolderPast, contents_of, deeds_of, may_miss, MayLeave}

-- each file has a name of its own, of those whose numbers are below 2 ^ 32
abbrev pub NamesApart : (Kind → ℕ → List ℕ) → Type 0
NamesApart name = (kind : Kind) (file : ℕ) (k : Kind) (f : ℕ) → file < 2 ^ 32 → f < 2 ^ 32 → IsApart kind file k f → name k f ≢ name kind file

-- The folder has the image's files under their names, and no file of a further number. Numbers are below 2 ^ 32.
pub record IsSeen (name : Kind → ℕ → List ℕ) (contents : Contents) (image : Image) : Type 0 where
  pub few : (kind : Kind) → file_count image kind ≤ 2 ^ 32
  pub there : (kind : Kind) (file : ℕ) → file < file_count image kind → contents (name kind file) ≡ Some (file_of image kind file)
  pub no_more : (kind : Kind) (file : ℕ) → file_count image kind ≤ file → file < 2 ^ 32 → contents (name kind file) ≡ None

-- the images that a crash now may leave
abbrev pub images_of : (Kind → ℕ → List ℕ) → FolderPast → Image → Type 0
images_of name past image = (contents : Contents) × MayLeave past contents × IsSeen name contents image

-- a file's name is on the disk
abbrev pub IsNamed : FolderPast → List ℕ → Type 0
IsNamed past name = may_lack (past.first name) (deeds_of name past.deeds) Crash ≡ false

-- the folder is on the disk
abbrev pub IsPlaced : FolderPast → Type 0
IsPlaced past = may_miss past.there past.deeds Crash ≡ false

-- The folder is the disk of this reading, and so is each that a crash leaves: the folder is on the disk, and of each kind all
-- names but the last.
pub record FolderIs (name : Kind → ℕ → List ℕ) (past : FolderPast) (reading : Image) : Type 0 where
  pub seen : IsSeen name (contents_of past) reading
  pub placed : IsPlaced past
  pub named : (kind : Kind) (file : ℕ) → file + 1 < file_count reading kind → IsNamed past (name kind file)
