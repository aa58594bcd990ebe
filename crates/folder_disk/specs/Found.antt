-- What a disk has of the folder that was found.
use Rattle.std.specs.Prelude.{◌≡◌, ℕ, Option, Some, None, List}
use Rattle.disk_model.specs.Image.{Image, no_files}
use Rattle.disk_model.specs.declared.kind.Kind.{Kind}
use Rattle.folder_model.specs.Folder.{FolderPast, contents_of}
use Rattle.folder_disk.specs.Gaps.{IsSeenFilled}

-- A disk reads what is seen of the folder that was found: its files under their names, and missing checkpoints as empty ones; no files where there was no
-- folder.
abbrev pub IsAsFound : (Kind → ℕ → List ℕ) → Option FolderPast → Image → Type 0
IsAsFound name None image = image ≡ no_files
IsAsFound name (Some past) image = IsSeenFilled name (contents_of past) image
