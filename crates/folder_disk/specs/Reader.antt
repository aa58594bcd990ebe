-- A disk that only reads.
use Rattle.std.specs.Prelude.{◌≡◌, ◌<◌, ◌≤◌, ◌^◌, ℕ, Bool, IsTrue, Option, Some, None, List}
use Rattle.disk_model.specs.Crash.{Within, Elapses}
use Rattle.disk_model.specs.Image.{Image, no_files, file_count, file_of}
use Rattle.disk_model.specs.declared.kind.Kind.{Kind}
use Rattle.disk_model.specs.declared.kind.Kind.TheVariants.{Warc}
use Rattle.folder_model.specs.Folder.{Contents, FolderPast, contents_of}
use Rattle.folder_model.specs.Known.{image_of}
use Rattle.folder_files.specs.Counting.{known_of}
use Rattle.folder_files.specs.OpenFiles.{AreOpen}
use Rattle.folder_disk.specs.declared.reading.Reading.{Reading}

-- the folder that is read, and how many files of each kind were counted in it
pub record ReadFolder (F : Type 0) : Type 0 where
  pub folder : F
  pub warc : ℕ
  pub cdxj : ℕ

-- a disk that only reads with its count of faults, as contracts see it
pub record KeptToRead (F : Type 0) : Type 0 where
  pub place : Option (ReadFolder F)
  -- how often a call has failed
  pub faults : ℕ

-- what is shown of a folder that is read
abbrev pub read_folder : {F N T P : Type 0} → Reading F N T P → ReadFolder F
read_folder reading = record { folder = reading.folder; warc = reading.counts.warc; cdxj = reading.counts.cdxj }

-- the same where there is one
abbrev pub place_of : {F N T P : Type 0} → Option (Reading F N T P) → Option (ReadFolder F)
place_of None = None
place_of (Some reading) = Some (read_folder reading)

-- the files that it keeps open are what it takes them for
abbrev pub AreOpenToRead : {F N T P : Type 0} → (Kind → ℕ → List ℕ) → (T → List ℕ) → (F → FolderPast) → Reading F N T P → Type 0
AreOpenToRead name name_of past reading = AreOpen name name_of (past reading.folder) reading.files

-- the past of its folder, where it has one
abbrev pub past_read : {F : Type 0} → (F → FolderPast) → Option (ReadFolder F) → Option FolderPast
past_read past None = None
past_read past (Some it) = Some (past it.folder)

-- the files that were counted, with the bytes that reads find
abbrev pub read_image : {F : Type 0} → (Kind → ℕ → List ℕ) → (F → FolderPast) → ReadFolder F → Image
read_image name past it = image_of (λ kind file. contents_of (past it.folder) (name kind file)) (known_of it.warc it.cdxj)

-- what a read gives: no files where there is no folder
abbrev pub reading_in : {F : Type 0} → (Kind → ℕ → List ℕ) → (F → FolderPast) → Option (ReadFolder F) → Image
reading_in name past None = no_files
reading_in name past (Some it) = read_image name past it

-- the images of the disk, where the folder tells: what a read gives, since nobody writes
abbrev pub images_in : {F : Type 0} → Bool → (Kind → ℕ → List ℕ) → (F → FolderPast) → Option (ReadFolder F) → Image → Type 0
images_in tells name past place image = IsTrue tells × (image ≡ reading_in name past place)

-- An image has all volumes of these contents, and of the checkpoints those of the first numbers.
pub record IsReadIn (name : Kind → ℕ → List ℕ) (contents : Contents) (image : Image) : Type 0 where
  pub few : file_count image Warc ≤ 2 ^ 32
  pub there : (kind : Kind) (file : ℕ) → file < file_count image kind → contents (name kind file) ≡ Some (file_of image kind file)
  pub no_more : (file : ℕ) → file_count image Warc ≤ file → file < 2 ^ 32 → contents (name Warc file) ≡ None

-- an image is such a front of a folder, and has no files where there is none
abbrev pub IsReadFrom : (Kind → ℕ → List ℕ) → Option FolderPast → Image → Type 0
IsReadFrom name None image = image ≡ no_files
IsReadFrom name (Some past) image = IsReadIn name (contents_of past) image

-- A call does nothing in the folder, and leaves all that is read.
pub record StaysRead {F : Type 0} (tells : Bool) (name : Kind → ℕ → List ℕ) (past : F → FolderPast) (old new : Option (ReadFolder F)) : Type 0 where
  pub nothing : IsTrue tells → past_read past new ≡ past_read past old
  pub same : IsTrue tells → reading_in name past new ≡ reading_in name past old
  pub crash : Within (images_in tells name past old) (images_in tells name past new)
  pub time : Elapses 0 0 (λ t. images_in tells name past old) (λ t. images_in tells name past new) (images_in tells name past new)
