-- What a disk over a folder promises from one run to the next.
use Rattle.std.specs.Prelude.{◌≡◌, ℕ, true, Option, Some, List}
use Rattle.disk_model.specs.Image.{Image, files_of}
use Rattle.disk_model.specs.declared.kind.Kind.{Kind}
use Rattle.disk_model.specs.declared.kind.Kind.TheVariants.{Warc}
use Rattle.folder_model.specs.Folder.{FolderPast}
use Rattle.folder_model.specs.Found.{IsFoundAfterCrash}
use Rattle.folder_disk.specs.Found.{IsAsFound}
use Rattle.folder_disk.specs.Reader.{IsReadFrom}
use Rattle.held_folder.specs.State.{State, IsKnown, images, reading}

-- Behind a crash the next disk reads an image that the crash might leave of the one before.
abbrev pub CrashedIsImage : Type 0
CrashedIsImage = (name : Kind → ℕ → List ℕ) (s : State) (found : Option FolderPast) (image : Image) → IsKnown name s
    → IsFoundAfterCrash (Some s.past) found → IsAsFound name found image → images true name s image

-- Of a folder that was let go the next disk reads what the one before read.
abbrev pub LetGoIsRead : Type 0
LetGoIsRead = (name : Kind → ℕ → List ℕ) (s : State) (image : Image) → IsKnown name s → IsAsFound name (Some s.past) image → image ≡ reading name s

-- Who only reads has behind a crash the volumes of such an image.
abbrev pub CrashedVolumesAreRead : Type 0
CrashedVolumesAreRead = (name : Kind → ℕ → List ℕ) (s : State) (found : Option FolderPast) (image : Image) → IsKnown name s
    → IsFoundAfterCrash (Some s.past) found → IsReadFrom name found image
    → (was : Image) × images true name s was × (files_of image Warc ≡ files_of was Warc)

-- Of a folder that was let go who only reads has the volumes that the disk before read.
abbrev pub LetGoVolumesAreRead : Type 0
LetGoVolumesAreRead = (name : Kind → ℕ → List ℕ) (s : State) (image : Image) → IsKnown name s → IsReadFrom name (Some s.past) image
    → files_of image Warc ≡ files_of (reading name s) Warc
