-- How the files of a folder in memory keep what was done in it.
use Rattle.std.specs.Prelude.{◌≡◌, ℕ, ◌+◌, Bool, true, false, IsTrue, Option, Some, None, List, [], ◌∷◌, length}
use Rattle.std.specs.Option.{option_map}
use Rattle.folder_model.specs.File.{FileDeed, Sync, Crash, read_of, MayHold, may_lack}
use Rattle.folder_model.specs.Folder.{FolderPast, Deed, Did, deeds_of, contents_of, may_miss, IsUnfailed}
use Rattle.memory_folder.specs.Standing.{is_sure, after_sync}
use Rattle.memory_folder.specs.Entry.{Entry, left, steps_synced, found, AreApart}
use Rattle.memory_folder.specs.declared.budget.Budget.{Budget}
use Rattle.memory_folder.specs.declared.budget.Budget.TheVariants.{All}
use Rattle.memory_folder.specs.declared.standing.Standing.{Standing}
use Rattle.memory_folder.specs.declared.step.Step.{Step}
use Rattle.memory_folder.specs.declared.step.Step.TheVariants.{Write, Truncate}

-- What was done in a folder in memory: what it had when the machine was started, whether it was on the disk then, and each deed since, the newest
-- first. A model's value has to be a list where `FolderPast` has a function.
pub record Recorded : Type 0 where
  pub first : List Entry
  pub there : Bool
  pub deeds : List Deed

abbrev pub past_of : Recorded → FolderPast
past_of recorded = record {
  first = λ name. option_map (λ (entry : Entry). entry.base) (found recorded.first name);
  there = recorded.there;
  deeds = recorded.deeds;
}

-- a deed more
abbrev pub noted : Recorded → Deed → Recorded
noted recorded deed = record recorded { deeds = deed ∷ recorded.deeds }

abbrev pub noted_of : Recorded → List ℕ → FileDeed → Recorded
noted_of recorded name deed = noted recorded (Did name deed)

-- An entry keeps what was done to the file: it has what reads find, and whatever a stop leaves of it a crash may leave, now and once a sync is done.
pub record Keeps (entry : Entry) (first : Option (List ℕ)) (deeds : List FileDeed) : Type 0 where
  pub read : read_of first deeds ≡ Some (left All entry.steps entry.base)
  pub crash : (budget : Budget) → MayHold first deeds Crash (left budget entry.steps entry.base)
  pub sync : (budget : Budget) → MayHold first deeds Sync (left budget (steps_synced true entry.steps) entry.base)
  pub lacking : is_sure entry.named ≡ false → IsTrue (may_lack first deeds Crash)
  pub doubted : is_sure (after_sync true entry.named) ≡ false → IsTrue (may_lack first deeds Sync)

-- so does no entry, of a file that isn't there
abbrev pub Matches : Option Entry → Option (List ℕ) → List FileDeed → Type 0
Matches None first deeds = read_of first deeds ≡ None
Matches (Some entry) first deeds = Keeps entry first deeds

-- The entries keep a folder's past, and so does how sure the folder is on the disk, and whether a sync failed.
pub record IsOf (entries : List Entry) (placed : Standing) (failed : Bool) (past : FolderPast) : Type 0 where
  pub files : (name : List ℕ) → Matches (found entries name) (past.first name) (deeds_of name past.deeds)
  pub apart : AreApart entries
  pub missing : is_sure placed ≡ false → IsTrue (may_miss past.there past.deeds Crash)
  pub unplaced : is_sure (after_sync true placed) ≡ false → IsTrue (may_miss past.there past.deeds Sync)
  pub unfailed : failed ≡ false → IsUnfailed past

-- a folder without files that is just made, or is on the disk
abbrev pub nothing_done : Bool → Recorded
nothing_done there = record { first = []; there = there; deeds = [] }

-- a folder that has these entries on the disk
abbrev pub all_settled : List Entry → Recorded
all_settled entries = record { first = entries; there = true; deeds = [] }

-- more bytes than a file can have behind these steps
abbrev pub bound : List Step → ℕ → ℕ
bound [] n = n
bound (Write at bytes standing ∷ later) n = bound later (n + length bytes)
bound (Truncate len standing ∷ later) n = bound later n

abbrev pub entry_bound : Option Entry → ℕ
entry_bound None = 0
entry_bound (Some entry) = bound entry.steps (length entry.base)

-- what is left of a folder, where anything is
abbrev pub left_past : Option Recorded → List ℕ → Option (List ℕ)
left_past None name = None
left_past (Some recorded) name = contents_of (past_of recorded) name

-- all that there is is on the disk
pub record IsSettled (recorded : Recorded) : Type 0 where
  pub there : IsTrue recorded.there
  pub nothing : recorded.deeds ≡ []
