-- A folder that is held as a value.
use Rattle.std.specs.Prelude.{ℕ, List}
use Rattle.disk_model.specs.declared.kind.Kind.{Kind}
use Rattle.folder_model.specs.Folder.{FolderPast}
use Rattle.folder_model.specs.Timed.{times_of}
use Rattle.folder_model.specs.Times.{Times}
use Rattle.folder_files.specs.OpenFiles.{AreOpen}
use Rattle.held_folder.specs.State.{State}
use Rattle.held_folder.specs.declared.held.Held.{Held}
use Rattle.held_folder.specs.declared.trust.Trust.{Trust}

-- the folder that is held, and what is known of it
pub record InFolder (F : Type 0) : Type 0 where
  pub folder : F
  pub warc : ℕ
  pub cdxj : ℕ
  pub trust : Trust
  pub times : Times

-- what is shown of a folder that is held
abbrev pub in_folder : {F N T P : Type 0} → Held F N T P → InFolder F
in_folder held = record { folder = held.timed.folder; warc = held.warc; cdxj = held.cdxj; trust = held.trust; times = times_of held.timed }

-- the files that it keeps open are what it takes them for
abbrev pub AreHeld : {F N T P : Type 0} → (Kind → ℕ → List ℕ) → (T → List ℕ) → (F → FolderPast) → Held F N T P → Type 0
AreHeld name name_of past held = AreOpen name name_of (past held.timed.folder) held.files

-- the state, by what its folder tells
abbrev pub state_of : {F N T P : Type 0} → (F → FolderPast) → Held F N T P → State
state_of past held = record {
  past = past held.timed.folder;
  warc = held.warc;
  cdxj = held.cdxj;
  trust = held.trust;
  times = times_of held.timed;
}
