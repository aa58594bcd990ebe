-- A disk whose folder was just taken.
use Rattle.std.specs.Prelude.{ℕ, Bool, IsTrue, List, ⊤}
use Rattle.disk_model.specs.declared.kind.Kind.{Kind}
use Rattle.folder_model.specs.Folder.{FolderPast}
use Rattle.held_folder.specs.Held.{state_of, AreHeld}
use Rattle.held_folder.specs.State.{IsKnown, IsNew}
use Rattle.held_folder.specs.declared.held.Held.{Held}
use Rattle.folder_disk.specs.declared.beginning.Begun.{Begun}
use Rattle.folder_disk.specs.declared.beginning.Begun.TheVariants as begun

-- what it knows of the folder is so
pub record IsHeldSince {F N T P : Type 0} (name : Kind → ℕ → List ℕ) (name_of : T → List ℕ) (past : F → FolderPast) (held : Held F N T P) : Type 0 where
  pub known : IsKnown name (state_of past held)
  pub open_files : AreHeld name name_of past held

-- a folder that is held and has no files
abbrev pub IsBegunHeld : {F N T P : Type 0} → Bool → (Kind → ℕ → List ℕ) → (T → List ℕ) → (F → FolderPast) → Held F N T P → Type 0
IsBegunHeld tells name name_of past held = (IsTrue tells → IsHeldSince name name_of past held) × IsNew 0 0 (state_of past held)

-- where a folder was begun, it has no files
abbrev pub IsBegunIn : {F N T P : Type 0} → Bool → (Kind → ℕ → List ℕ) → (T → List ℕ) → (F → FolderPast) → Begun F N T P → Type 0
IsBegunIn tells name name_of past (begun.Held held) = IsBegunHeld tells name name_of past held
IsBegunIn tells name name_of past (begun.Later error) = ⊤
IsBegunIn tells name name_of past (begun.Never error) = ⊤
