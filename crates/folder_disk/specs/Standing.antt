-- A disk's folder, or what stands for it where there is none.
use Rattle.std.specs.Prelude.{ℕ, Option, Some, None, List, ⊤}
use Rattle.disk_model.specs.declared.kind.Kind.{Kind}
use Rattle.folder_model.specs.Folder.{FolderPast}
use Rattle.held_folder.specs.Held.{InFolder, in_folder, AreHeld}
use Rattle.folder_disk.specs.Kept.{state_in}
use Rattle.held_folder.specs.State.{State}
use Rattle.folder_disk.specs.declared.standing.Standing.{Standing}
use Rattle.folder_disk.specs.declared.standing.Standing.TheVariants.{Held, Absent, Refused}

-- the folder, where there is one
abbrev pub held_at : {S N F T P : Type 0} → Standing S N F T P → Option (InFolder F)
held_at (Held held) = Some (in_folder held)
held_at Absent = None
held_at Refused = None

-- the state, by what its folder tells
abbrev pub state_at : {S N F T P : Type 0} → (F → FolderPast) → Standing S N F T P → State
state_at past standing = state_in past (held_at standing)

-- the files that it keeps open are what it takes them for
abbrev pub AreOpenAt : {S N F T P : Type 0} → (Kind → ℕ → List ℕ) → (T → List ℕ) → (F → FolderPast) → Standing S N F T P → Type 0
AreOpenAt name name_of past (Held held) = AreHeld name name_of past held
AreOpenAt name name_of past Absent = ⊤
AreOpenAt name name_of past Refused = ⊤
