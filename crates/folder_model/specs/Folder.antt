-- A folder of files: what was done in it, and what reads and a crash then find there.
use Rattle.std.specs.Prelude.{◌≡◌, ◌⊎◌, ℕ, Bool, true, false, not, IsTrue, if◌then◌else◌, Option, None, List, [], ◌∷◌}
use Rattle.std.specs.List.{list_all}
use Rattle.std.specs.Option.{unwrap_or}
use Rattle.std.specs.Str.{bytes_eq}
use Rattle.folder_model.specs.File.{FileDeed, Synced, Listed, After, Sync, Crash, read_of, IsLeft, AreBytesLeft, IsNameSure}

-- what a folder has under each name: nothing, or a file's bytes
abbrev pub Contents : Type 0
Contents = List ℕ → Option (List ℕ)

pub data Deed : Type 0 where
  -- to the file of a name
  Did : (name : List ℕ) (deed : FileDeed) → Deed
  -- a sync of the folder's names was done, or failed
  SyncedFolder : (done : Bool) → Deed
  -- a sync of the names in the folder around it was done, or failed
  SyncedAround : (done : Bool) → Deed

-- A folder's past.
pub record FolderPast : Type 0 where
  -- what the disk had in it when the machine was started
  pub first : Contents
  -- whether the folder around it had it then
  pub there : Bool
  -- what was done since, by whatever process, the newest first
  pub deeds : List Deed

-- the past with a deed more
abbrev pub did : FolderPast → Deed → FolderPast
did past deed = record past { deeds = deed ∷ past.deeds }

-- with one more on a file
abbrev pub did_to : FolderPast → List ℕ → FileDeed → FolderPast
did_to past name deed = did past (Did name deed)

-- the deeds that concern the file of a name
abbrev pub deeds_of : List ℕ → List Deed → List FileDeed
deeds_of name [] = []
deeds_of name (Did other deed ∷ earlier) = if bytes_eq name other then deed ∷ deeds_of name earlier else deeds_of name earlier
deeds_of name (SyncedFolder done ∷ earlier) = Listed done ∷ deeds_of name earlier
deeds_of name (SyncedAround done ∷ earlier) = deeds_of name earlier

-- what reads find
abbrev pub contents_of : FolderPast → Contents
contents_of past name = read_of (past.first name) (deeds_of name past.deeds)

-- the bytes that reads find of a file; none where it isn't there
abbrev pub bytes_of : FolderPast → List ℕ → List ℕ
bytes_of past name = unwrap_or (contents_of past name) []

-- whether the folder itself may be missing on the disk, after a sync now of the folder around it, or after a crash now
abbrev pub may_miss : Bool → List Deed → After → Bool
may_miss there [] Sync = false
may_miss there [] Crash = not there
may_miss there (Did name deed ∷ earlier) after = may_miss there earlier after
may_miss there (SyncedFolder done ∷ earlier) after = may_miss there earlier after
may_miss there (SyncedAround true ∷ earlier) after = may_miss there earlier Sync
may_miss there (SyncedAround false ∷ earlier) after = may_miss there earlier Crash

-- What a crash now may leave: no folder, or of each file, for itself, what it may leave of it.
abbrev pub MayLeave : FolderPast → Contents → Type 0
MayLeave past contents =
    (IsTrue (may_miss past.there past.deeds Crash) × ((name : List ℕ) → contents name ≡ None))
    ⊎ ((name : List ℕ) → IsLeft (past.first name) (deeds_of name past.deeds) (contents name))

-- a sync of the folder now, if it answers `Ok`, answers for the name
abbrev pub IsNameSureAt : FolderPast → List ℕ → Type 0
IsNameSureAt past name = IsNameSure (past.first name) (deeds_of name past.deeds)

-- a crash leaves of the file's bytes what reads find
abbrev pub AreBytesLeftAt : FolderPast → List ℕ → Type 0
AreBytesLeftAt past name = AreBytesLeft (past.first name) (deeds_of name past.deeds)

-- whether a deed is no sync that failed
abbrev pub is_no_failed_sync : Deed → Bool
is_no_failed_sync (Did name (Synced done)) = done
is_no_failed_sync (Did name (Listed done)) = done
is_no_failed_sync (Did name deed) = true
is_no_failed_sync (SyncedFolder done) = done
is_no_failed_sync (SyncedAround done) = done

-- no sync has failed
abbrev pub IsUnfailed : FolderPast → Type 0
IsUnfailed past = IsTrue (list_all is_no_failed_sync past.deeds)

-- the contents with another entry under a name
abbrev pub put_at : List ℕ → Option (List ℕ) → Contents → Contents
put_at name entry contents other = if bytes_eq other name then entry else contents other
