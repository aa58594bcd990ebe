-- What the calls of a disk over a folder leave, in the words of `Disk`. Each is about the folder's past before and after, and what the disk
-- knew and read of it before.
use Rattle.std.specs.Prelude.{ℕ, ◌+◌, Bool, false, Option, List, [], take}
use Rattle.disk_model.specs.Image.{Image, file_count, file_of, with_file, with_new}
use Rattle.disk_model.specs.Crash.{Torn, Cut, OnFile, MayCreate, HasFile, Within, Follows, Stepped, Leaves, Elapses}
use Rattle.disk_model.specs.declared.kind.Kind.{Kind}
use Rattle.folder_model.specs.Folder.{FolderPast}
use Rattle.folder_model.specs.Seen.{images_of}
use Rattle.folder_model.specs.Times.{Times, moment_of, goes_on, images_since_of}
use Rattle.folder_model.specs.Known.{Knows}

-- What a write to a file of the disk leaves, however it ended.
pub record WriteLeaves (name : Kind → ℕ → List ℕ) (kind : Kind) (file at many : ℕ) (old new : FolderPast) (known : Kind → ℕ) (gave_up : Bool) (doubts : Kind → Option ℕ) (times : Times) (reading : Image) : Type 0 where
  pub bytes : List ℕ
  pub torn : Torn at many (file_of reading kind file) bytes
  pub knows : Knows name new known gave_up doubts (goes_on times new) (with_file reading kind file bytes)
  pub follows : Follows (OnFile kind file (Torn at many)) (images_of name old) (images_of name new)
  pub time : Elapses (moment_of times) (moment_of (goes_on times new)) (images_since_of name old times) (images_since_of name new (goes_on times new)) (images_of name new)

-- What a cut of a disk's file leaves that took all but `rest` bytes of what it was to take.
pub record CutLeaves (name : Kind → ℕ → List ℕ) (kind : Kind) (file len rest : ℕ) (old new : FolderPast) (known : Kind → ℕ) (gave_up : Bool) (doubts : Kind → Option ℕ) (times : Times) (reading : Image) : Type 0 where
  pub cut : Cut len (file_of reading kind file) (take (len + rest) (file_of reading kind file))
  pub knows : Knows name new known gave_up doubts (goes_on times new) (with_file reading kind file (take (len + rest) (file_of reading kind file)))
  pub follows : Follows (OnFile kind file (Cut len)) (images_of name old) (images_of name new)
  pub time : Elapses (moment_of times) (moment_of (goes_on times new)) (images_since_of name old times) (images_since_of name new (goes_on times new)) (images_of name new)

-- What a sync of a file that was done leaves.
pub record SyncDone (name : Kind → ℕ → List ℕ) (kind : Kind) (file : ℕ) (old new : FolderPast) (known : Kind → ℕ) (doubts : Kind → Option ℕ) (times : Times) (reading : Image) : Type 0 where
  pub knows : Knows name new known false doubts (goes_on times new) reading
  pub durable : Leaves (images_of name new) (HasFile kind file (file_of reading kind file))
  pub within : Within (images_of name old) (images_of name new)
  pub time : Elapses (moment_of times) (moment_of (goes_on times new)) (images_since_of name old times) (images_since_of name new (goes_on times new)) (images_of name new)

-- What syncs leave that aren't told as one of the disk's that was done: what is read stays.
pub record SyncsLeave (name : Kind → ℕ → List ℕ) (old new : FolderPast) (known : Kind → ℕ) (gave_up : Bool) (doubts : Kind → Option ℕ) (times : Times) (reading : Image) : Type 0 where
  pub knows : Knows name new known gave_up doubts (goes_on times new) reading
  pub within : Within (images_of name old) (images_of name new)
  pub time : Elapses (moment_of times) (moment_of (goes_on times new)) (images_since_of name old times) (images_since_of name new (goes_on times new)) (images_of name new)

-- What a `create` that was done leaves.
pub record CreateDone (name : Kind → ℕ → List ℕ) (kind : Kind) (old new : FolderPast) (more : Kind → ℕ) (doubts : Kind → Option ℕ) (times : Times) (reading : Image) : Type 0 where
  pub knows : Knows name new more false doubts (goes_on times new) (with_new reading kind)
  pub durable : Leaves (images_of name new) (HasFile kind (file_count reading kind) [])
  pub follows : Follows (MayCreate kind (file_count reading kind)) (images_of name old) (images_of name new)
  pub time : Elapses (moment_of times) (moment_of (goes_on times new)) (images_since_of name old times) (images_since_of name new (goes_on times new))
      (Stepped (MayCreate kind (file_count reading kind)) (images_of name old))

-- What a `create` that failed leaves: there may be a file that the disk doesn't know of.
pub record CreateFailed (name : Kind → ℕ → List ℕ) (kind : Kind) (old new : FolderPast) (known : Kind → ℕ) (doubts : Kind → Option ℕ) (times : Times) (reading : Image) : Type 0 where
  pub image : Image
  pub knows : Knows name new known false doubts (goes_on times new) image
  pub partial : MayCreate kind (file_count reading kind) reading image
  pub follows : Follows (MayCreate kind (file_count reading kind)) (images_of name old) (images_of name new)
  pub time : Elapses (moment_of times) (moment_of (goes_on times new)) (images_since_of name old times) (images_since_of name new (goes_on times new))
      (Stepped (MayCreate kind (file_count reading kind)) (images_of name old))
