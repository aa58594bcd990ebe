-- Laws of syncs, done or failed.
use Rattle.std.proofs.Common.{◌≡◌, ◌≢◌, ℕ, true, zero, suc, Bool, List, [], ◌∷◌, ◌++◌, drop, refl, sym, ap, ◌∙◌, subst, inl, inr}
use Rattle.std.specs.Prelude.{None}
use Rattle.folder_model.specs.Calls.{MayMake}
use Rattle.folder_model.specs.File.{Made, Wrote, Shortened, Synced, Listed, AreBytesSure, AreBytesLeft, IsNameSure}
use Rattle.folder_model.specs.Folder.{Contents, Deed, Did, SyncedFolder, SyncedAround, FolderPast, did, did_to, deeds_of, contents_of, MayLeave, IsNameSureAt, AreBytesLeftAt}
use Rattle.folder_model.specs.Seen.{IsNamed}
use Rattle.folder_model.specs.Whole.{AreSyncs, OnlySyncs, IsMadeSince, MakesInPart}
use Rattle.folder_model.specs.steps.FileLaws.{bytes_sure-listed, bytes_left-synced, bytes_left-listed, name_sure-made, name_sure-synced, name_sure-listed}
use Rattle.folder_model.specs.steps.FolderLaws.{deeds_of-other, synced_file, synced_folder, synced_around}
use Rattle.folder_model.specs.steps.ReadingLaws.{is_named-did, is_named-listed}
use Rattle.folder_model.specs.steps.SureLaws.{on_deed}

-- syncs add nothing to what a crash may leave
pub syncs_within : (n : List ℕ) (past : FolderPast) (deeds : List Deed) (contents : Contents) → AreSyncs n deeds → MayLeave (record past { deeds = deeds ++ past.deeds }) contents → MayLeave past contents
syncs_within n past [] contents syncs left = left
syncs_within n past (Did name Made ∷ earlier) contents syncs left = absurd syncs
syncs_within n past (Did name (Wrote at bytes rest) ∷ earlier) contents syncs left = absurd syncs
syncs_within n past (Did name (Shortened len rest) ∷ earlier) contents syncs left = absurd syncs
syncs_within n past (Did name (Synced done) ∷ earlier) contents syncs left =
    syncs_within n past earlier contents syncs.1 (synced_file (record past { deeds = earlier ++ past.deeds }) name done contents left)
syncs_within n past (Did name (Listed done) ∷ earlier) contents syncs left = absurd syncs
syncs_within n past (SyncedFolder done ∷ earlier) contents syncs left =
    syncs_within n past earlier contents syncs (synced_folder (record past { deeds = earlier ++ past.deeds }) done contents left)
syncs_within n past (SyncedAround done ∷ earlier) contents syncs left =
    syncs_within n past earlier contents syncs (synced_around (record past { deeds = earlier ++ past.deeds }) done contents left)

-- the first of them are syncs
pub fewer_syncs : (n : List ℕ) (deeds : List Deed) (k : ℕ) → AreSyncs n deeds → AreSyncs n (drop k deeds)
fewer_syncs n deeds zero syncs = syncs
fewer_syncs n [] (suc k) syncs = syncs
fewer_syncs n (Did name Made ∷ earlier) (suc k) syncs = absurd syncs
fewer_syncs n (Did name (Wrote at bytes rest) ∷ earlier) (suc k) syncs = absurd syncs
fewer_syncs n (Did name (Shortened len rest) ∷ earlier) (suc k) syncs = absurd syncs
fewer_syncs n (Did name (Synced done) ∷ earlier) (suc k) syncs = fewer_syncs n earlier k syncs.1
fewer_syncs n (Did name (Listed done) ∷ earlier) (suc k) syncs = absurd syncs
fewer_syncs n (SyncedFolder done ∷ earlier) (suc k) syncs = fewer_syncs n earlier k syncs
fewer_syncs n (SyncedAround done ∷ earlier) (suc k) syncs = fewer_syncs n earlier k syncs

-- ---- what syncs of one file and of folders leave

-- each name that is on the disk
pub syncs_named : (n : List ℕ) (past : FolderPast) (deeds : List Deed) (m : List ℕ) → AreSyncs n deeds → IsNamed past m → IsNamed (record past { deeds = deeds ++ past.deeds }) m
syncs_named n past [] m syncs named = named
syncs_named n past (Did name Made ∷ earlier) m syncs named = absurd syncs
syncs_named n past (Did name (Wrote at bytes rest) ∷ earlier) m syncs named = absurd syncs
syncs_named n past (Did name (Shortened len rest) ∷ earlier) m syncs named = absurd syncs
syncs_named n past (Did name (Synced done) ∷ earlier) m syncs named =
    is_named-did (record past { deeds = earlier ++ past.deeds }) name m (Synced done) (λ e. cc) (syncs_named n past earlier m syncs.1 named)
syncs_named n past (Did name (Listed done) ∷ earlier) m syncs named = absurd syncs
syncs_named n past (SyncedFolder done ∷ earlier) m syncs named = is_named-listed (record past { deeds = earlier ++ past.deeds }) m done (syncs_named n past earlier m syncs named)
syncs_named n past (SyncedAround done ∷ earlier) m syncs named = syncs_named n past earlier m syncs named

-- what a crash leaves of the bytes of a file, this one or another
pub syncs_left : (n : List ℕ) (past : FolderPast) (deeds : List Deed) (m : List ℕ) → AreSyncs n deeds → AreBytesLeftAt past m → AreBytesLeftAt (record past { deeds = deeds ++ past.deeds }) m
syncs_left n past [] m syncs left = left
syncs_left n past (Did name Made ∷ earlier) m syncs left = absurd syncs
syncs_left n past (Did name (Wrote at bytes rest) ∷ earlier) m syncs left = absurd syncs
syncs_left n past (Did name (Shortened len rest) ∷ earlier) m syncs left = absurd syncs
syncs_left n past (Did name (Synced done) ∷ earlier) m syncs left =
    let before = syncs_left n past earlier m syncs.1 left in
    on_deed (AreBytesLeft (past.first m)) m name (Synced done) (earlier ++ past.deeds) (bytes_left-synced (past.first m) (deeds_of m (earlier ++ past.deeds)) done before) before
syncs_left n past (Did name (Listed done) ∷ earlier) m syncs left = absurd syncs
syncs_left n past (SyncedFolder done ∷ earlier) m syncs left =
    bytes_left-listed (past.first m) (deeds_of m (earlier ++ past.deeds)) done (syncs_left n past earlier m syncs left)
syncs_left n past (SyncedAround done ∷ earlier) m syncs left = syncs_left n past earlier m syncs left

-- what syncs answer for of other files
pub syncs_sure : (n : List ℕ) (past : FolderPast) (deeds : List Deed) (m : List ℕ) → AreSyncs n deeds → m ≢ n → AreBytesSure (past.first m) (deeds_of m past.deeds)
    → AreBytesSure (past.first m) (deeds_of m (deeds ++ past.deeds))
syncs_sure n past [] m syncs apart sure = sure
syncs_sure n past (Did name Made ∷ earlier) m syncs apart sure = absurd syncs
syncs_sure n past (Did name (Wrote at bytes rest) ∷ earlier) m syncs apart sure = absurd syncs
syncs_sure n past (Did name (Shortened len rest) ∷ earlier) m syncs apart sure = absurd syncs
syncs_sure n past (Did name (Synced done) ∷ earlier) m syncs apart sure =
    subst (AreBytesSure (past.first m)) (sym (deeds_of-other m name (Synced done) (earlier ++ past.deeds) (λ same. apart (same ∙ syncs.0))))
    (syncs_sure n past earlier m syncs.1 apart sure)
syncs_sure n past (Did name (Listed done) ∷ earlier) m syncs apart sure = absurd syncs
syncs_sure n past (SyncedFolder done ∷ earlier) m syncs apart sure =
    bytes_sure-listed (past.first m) (deeds_of m (earlier ++ past.deeds)) done (syncs_sure n past earlier m syncs apart sure)
syncs_sure n past (SyncedAround done ∷ earlier) m syncs apart sure = syncs_sure n past earlier m syncs apart sure

-- no sync so far
pub no_sync : (n : List ℕ) (past : FolderPast) → OnlySyncs n past past
no_sync n past = record { deeds = []; syncs = tt; whole = refl }

-- one sync more
pub sync_more : (n : List ℕ) (old mid new : FolderPast) (done : Bool) → OnlySyncs n old mid → new ≡ did_to mid n (Synced done) → OnlySyncs n old new
sync_more n old mid new done so_far whole = record {
  deeds = Did n (Synced done) ∷ so_far.deeds;
  syncs = (refl, so_far.syncs);
  whole = whole ∙ ap (λ (p : FolderPast). did_to p n (Synced done)) so_far.whole;
}

pub sync_folder_more : (n : List ℕ) (old mid new : FolderPast) (done : Bool) → OnlySyncs n old mid → new ≡ did mid (SyncedFolder done) → OnlySyncs n old new
sync_folder_more n old mid new done so_far whole = record {
  deeds = SyncedFolder done ∷ so_far.deeds;
  syncs = so_far.syncs;
  whole = whole ∙ ap (λ (p : FolderPast). did p (SyncedFolder done)) so_far.whole;
}

pub sync_around_more : (n : List ℕ) (old mid new : FolderPast) (done : Bool) → OnlySyncs n old mid → new ≡ did mid (SyncedAround done) → OnlySyncs n old new
sync_around_more n old mid new done so_far whole = record {
  deeds = SyncedAround done ∷ so_far.deeds;
  syncs = so_far.syncs;
  whole = whole ∙ ap (λ (p : FolderPast). did p (SyncedAround done)) so_far.whole;
}

-- ---- behind a file that was made

pub just_made : (name : List ℕ) (old new : FolderPast) → contents_of old name ≡ None → new ≡ did_to old name Made → IsMadeSince name old new
just_made name old new none whole = record {
  none = none;
  synced = subst (OnlySyncs name (did_to old name Made)) (sym whole) (no_sync name (did_to old name Made));
}

pub made_or_not : (name : List ℕ) (old new : FolderPast) → MayMake name old new → MakesInPart name old new
made_or_not name old new (inl same) = inl same
made_or_not name old new (inr is_made) = inr (just_made name old new is_made.0 is_made.1)

pub made_then_synced : (name : List ℕ) (old new : FolderPast) → contents_of old name ≡ None → OnlySyncs name (did_to old name Made) new → IsMadeSince name old new
made_then_synced name old new none synced = record { none = none; synced = synced }

-- ---- names that a sync of the folder answers for

pub names_made : (old new : FolderPast) (n m : List ℕ) → new ≡ did_to old n Made → IsNameSureAt old m → IsNameSureAt new m
names_made old new n m whole sure =
    subst (λ (p : FolderPast). IsNameSureAt p m) (sym whole)
    (on_deed (IsNameSure (old.first m)) m n Made old.deeds (name_sure-made (old.first m) (deeds_of m old.deeds)) sure)

pub names_may_made : (old new : FolderPast) (n m : List ℕ) → MayMake n old new → IsNameSureAt old m → IsNameSureAt new m
names_may_made old new n m (inl same) sure = subst (λ (p : FolderPast). IsNameSureAt p m) (sym same) sure
names_may_made old new n m (inr made) sure = names_made old new n m made.1 sure

pub names_synced : (old new : FolderPast) (n m : List ℕ) (done : Bool) → new ≡ did_to old n (Synced done) → IsNameSureAt old m → IsNameSureAt new m
names_synced old new n m done whole sure =
    subst (λ (p : FolderPast). IsNameSureAt p m) (sym whole)
    (on_deed (IsNameSure (old.first m)) m n (Synced done) old.deeds (name_sure-synced (old.first m) (deeds_of m old.deeds) done sure) sure)

pub names_listed : (old new : FolderPast) (m : List ℕ) → new ≡ did old (SyncedFolder true) → IsNameSureAt old m → IsNameSureAt new m
names_listed old new m whole sure =
    subst (λ (p : FolderPast). IsNameSureAt p m) (sym whole) (name_sure-listed (old.first m) (deeds_of m old.deeds) sure)

pub names_around : (old new : FolderPast) (m : List ℕ) (done : Bool) → new ≡ did old (SyncedAround done) → IsNameSureAt old m → IsNameSureAt new m
names_around old new m done whole sure = subst (λ (p : FolderPast). IsNameSureAt p m) (sym whole) sure
