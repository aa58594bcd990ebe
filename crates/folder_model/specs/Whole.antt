-- What is done to a file by several calls.
use Rattle.std.specs.Prelude.{◌≡◌, ◌≤◌, ◌⊎◌, ℕ, ◌+◌, true, Some, None, Result, Ok, Err, List, [], ◌∷◌, ◌++◌, length, take, ⊤}
use Rattle.disk_model.specs.Crash.{Torn}
use Rattle.folder_model.specs.File.{FileDeed, Made, Wrote, Shortened, Synced, Listed, Crash, MayHold}
use Rattle.folder_model.specs.Folder.{Deed, Did, SyncedFolder, SyncedAround, FolderPast, did, did_to, deeds_of, contents_of}
use Rattle.folder_model.specs.declared.durable.MakeFault.{MakeFault}
use Rattle.folder_model.specs.declared.durable.MakeFault.TheVariants.{Unlisted, Unsettled}
use Rattle.folder_model.specs.declared.whole.WriteFault.{WriteFault}
use Rattle.folder_model.specs.declared.whole.WriteFault.TheVariants.{Torn as TornFault, Stuck}

-- the past with these deeds more on a file, the newest first
abbrev pub done_to : FolderPast → List ℕ → List FileDeed → FolderPast
done_to past name [] = past
done_to past name (deed ∷ earlier) = did_to (done_to past name earlier) name deed

-- each is a write, within so many bytes from a place on
abbrev pub AreWrites : ℕ → ℕ → List FileDeed → Type 0
AreWrites at many [] = ⊤
AreWrites at many (Made ∷ earlier) = ⊥
AreWrites at many (Wrote place bytes rest ∷ earlier) = (at ≤ place) × (place + (length bytes + rest) ≤ at + many) × AreWrites at many earlier
AreWrites at many (Shortened len rest ∷ earlier) = ⊥
AreWrites at many (Synced done ∷ earlier) = ⊥
AreWrites at many (Listed done ∷ earlier) = ⊥

-- A file was written to, within so many bytes from a place on, and nothing else was done.
pub record WritesWithin (name : List ℕ) (at many : ℕ) (old new : FolderPast) : Type 0 where
  pub deeds : List FileDeed
  pub writes : AreWrites at many deeds
  pub whole : new ≡ done_to old name deeds

-- The file is there, and a place isn't past its end.
pub record IsInFile (past : FolderPast) (name : List ℕ) (at : ℕ) : Type 0 where
  pub bytes : List ℕ
  pub there : contents_of past name ≡ Some bytes
  pub inside : at ≤ length bytes

-- Of what a crash might have left of the file before it may leave now each that a write of so many bytes at a place might tear so.
abbrev pub Covers : List ℕ → ℕ → ℕ → FolderPast → FolderPast → Type 0
Covers name at many old new =
    (was bytes : List ℕ) → at ≤ length was → MayHold (old.first name) (deeds_of name old.deeds) Crash was → Torn at many was bytes
    → MayHold (new.first name) (deeds_of name new.deeds) Crash bytes

-- where a write failed in a way that leaves all of its bytes torn
abbrev pub OnTorn : {T : Type 0} → Result T WriteFault → Type 0 → Type 0
OnTorn (Ok done) P = ⊤
OnTorn (Err (TornFault error)) P = P
OnTorn (Err (Stuck error)) P = ⊤

-- Of a write of these bytes at a place the first `done` ones stand there.
pub record IsWriting (name : List ℕ) (at : ℕ) (bytes : List ℕ) (done : ℕ) (old new : FolderPast) : Type 0 where
  pub within : WritesWithin name at (length bytes) old new
  pub before : List ℕ
  pub was : contents_of old name ≡ Some before
  pub now : List ℕ
  pub is : contents_of new name ≡ Some now
  pub torn : Torn at (length bytes) before now
  pub front : take (at + done) now ≡ take at before ++ take done bytes
  pub reach : at + done ≤ length now
  pub covers : Covers name at done old new

-- each is a sync of one file, of the folder or of the one around it, done or failed
abbrev pub AreSyncs : List ℕ → List Deed → Type 0
AreSyncs name [] = ⊤
AreSyncs name (Did other (Synced done) ∷ earlier) = (other ≡ name) × AreSyncs name earlier
AreSyncs name (Did other deed ∷ earlier) = ⊥
AreSyncs name (SyncedFolder done ∷ earlier) = AreSyncs name earlier
AreSyncs name (SyncedAround done ∷ earlier) = AreSyncs name earlier

-- Nothing was done but such syncs.
pub record OnlySyncs (name : List ℕ) (old new : FolderPast) : Type 0 where
  pub deeds : List Deed
  pub syncs : AreSyncs name deeds
  pub whole : new ≡ record old { deeds = deeds ++ old.deeds }

-- A file, the folder and the folder around were synced.
abbrev pub settled_durably : List ℕ → FolderPast → FolderPast
settled_durably name past = did (did (did_to past name (Synced true)) (SyncedFolder true)) (SyncedAround true)

-- A file was made, and it, the folder and the folder around were synced.
abbrev pub made_durably : List ℕ → FolderPast → FolderPast
made_durably name past = settled_durably name (did_to past name Made)

-- but where the folder's sync failed
abbrev pub OnListed : {T : Type 0} → Result T MakeFault → Type 0 → Type 0
OnListed (Ok done) P = P
OnListed (Err (Unlisted error)) P = ⊤
OnListed (Err (Unsettled error)) P = P

-- A file was made that wasn't there, and then nothing was done but syncs of it, of the folder and of the one around.
pub record IsMadeSince (name : List ℕ) (old new : FolderPast) : Type 0 where
  pub none : contents_of old name ≡ None
  pub synced : OnlySyncs name (did_to old name Made) new

-- A file was made, with nothing but syncs behind it, or nothing was done.
abbrev pub MakesInPart : List ℕ → FolderPast → FolderPast → Type 0
MakesInPart name old new = (new ≡ old) ⊎ IsMadeSince name old new
