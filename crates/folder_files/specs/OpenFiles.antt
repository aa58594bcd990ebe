-- The files that a disk keeps open.
use Rattle.std.specs.Prelude.{◌≡◌, ◌⊎◌, ◌<◌, ◌^◌, ℕ, if◌then◌else◌, Option, Some, None, List, length, IfSome}
use Rattle.disk_model.specs.Image.{IsApart}
use Rattle.disk_model.specs.declared.kind.Kind.{Kind}
use Rattle.folder_model.specs.Folder.{FolderPast, bytes_of}
use Rattle.folder_files.specs.declared.open_files.OpenOne.{OpenOne}
use Rattle.folder_files.specs.declared.open_files.OpenFiles.{OpenFiles}

-- An open file is what it says it is, and its length is the file's.
pub record IsOpen {T : Type 0} (name : Kind → ℕ → List ℕ) (name_of : T → List ℕ) (past : FolderPast) (one : OpenOne T) : Type 0 where
  pub fits : one.number < 2 ^ 32
  pub named : name_of one.file ≡ name one.kind one.number
  pub len : one.len ≡ length (bytes_of past (name one.kind one.number))

-- each file that is open is so
abbrev pub AreOpen : {T : Type 0} → (Kind → ℕ → List ℕ) → (T → List ℕ) → FolderPast → OpenFiles T → Type 0
AreOpen name name_of past files = IfSome files.written (IsOpen name name_of past) × IfSome files.read (IsOpen name name_of past)

-- what is open in a place is another file
abbrev pub IsOther : {T : Type 0} → Kind → ℕ → Option (OpenOne T) → Type 0
IsOther kind file place = IfSome place (λ one. IsApart kind file one.kind one.number)

-- no file that is open is this one
abbrev pub AreOthers : {T : Type 0} → Kind → ℕ → OpenFiles T → Type 0
AreOthers kind file files = IsOther kind file files.written × IsOther kind file files.read

-- the place is empty, or it has what it had, which is another file
abbrev pub IsLeftIn : {T : Type 0} → Kind → ℕ → Option (OpenOne T) → Option (OpenOne T) → Type 0
IsLeftIn kind file old new = (new ≡ None) ⊎ ((new ≡ old) × IsOther kind file old)

-- with a file kept open, in place of the one that was used so last
abbrev pub kept : {T : Type 0} → OpenOne T → OpenFiles T → OpenFiles T
kept one files = if one.for_writing then record files { written = Some one } else record files { read = Some one }
