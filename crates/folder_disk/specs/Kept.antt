-- A disk over a folder with its count of faults, as contracts see it.
use Rattle.std.specs.Prelude.{ℕ, Option, Some, None}
use Rattle.folder_model.specs.Folder.{FolderPast}
use Rattle.held_folder.specs.Held.{InFolder}
use Rattle.held_folder.specs.State.{State, no_folder}

pub record Kept (F : Type 0) : Type 0 where
  pub held : Option (InFolder F)
  -- how often a call has failed
  pub faults : ℕ

-- the state, by what the folder tells
abbrev pub state_in : {F : Type 0} → (F → FolderPast) → Option (InFolder F) → State
state_in past None = no_folder
state_in past (Some held) = record { past = past held.folder; warc = held.warc; cdxj = held.cdxj; trust = held.trust; times = held.times }

-- the folder, where there is one
abbrev pub folder_in : {F : Type 0} → Option (InFolder F) → Option F
folder_in None = None
folder_in (Some held) = Some held.folder
