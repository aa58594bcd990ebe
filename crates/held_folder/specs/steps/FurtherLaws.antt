-- Laws of a file that was to be made and may be there.
use Rattle.std.proofs.Common.{◌≡◌, ◌≢◌, ℕ, Bool, List, [], ◌∷◌, ◌++◌, refl, sym, ap, ◌∙◌, subst, inl, inr, ⊎_elim}
use Rattle.std.proofs.lemmas.Option.{none-some}
use Rattle.std.specs.Prelude.{Option, Some, None, IfSome}
use Rattle.disk_model.specs.declared.kind.Kind.{Kind}
use Rattle.disk_model.specs.declared.kind.Kind.TheVariants.{Warc, Cdxj}
use Rattle.folder_model.specs.File.{FileDeed, Made, Wrote, Shortened, Synced, Listed, Crash, AreBytesLeft, IsNameSure}
use Rattle.folder_model.specs.Folder.{Deed, Did, SyncedFolder, SyncedAround, FolderPast, did_to, deeds_of, contents_of, IsNameSureAt, AreBytesLeftAt}
use Rattle.folder_model.specs.Known.{IsInDoubt}
use Rattle.folder_model.specs.Ranges.{IsTornAt}
use Rattle.folder_model.specs.Whole.{done_to, AreSyncs, OnlySyncs, MakesInPart}
use Rattle.folder_model.specs.steps.FileLaws.{sync_then_crash, read_is_held, held_is_read, bytes_left-made}
use Rattle.folder_model.specs.steps.FolderLaws.{deeds_of-same, deeds_of-other, names_cases}
use Rattle.folder_model.specs.steps.MendLaws.{torn_left, torn_same, torn_listed, torn_other}
use Rattle.folder_model.specs.steps.ReadingLaws.{contents_of-other}
use Rattle.folder_model.specs.steps.SyncLaws.{syncs_left}
use Rattle.held_folder.specs.Doubts.{range_of, with_range, doubt_in, doubts_of, IsTornTo, AreTorn, further_of, with_further, unlisted, unlisted_all, IsFurther}
use Rattle.folder_files.specs.steps.OpenLaws.{sync_all_same}
use Rattle.held_folder.specs.declared.trust.Further.{Further}
use Rattle.held_folder.specs.declared.trust.Further.TheVariants.{Absent, Unsettled, Unlisted}
use Rattle.held_folder.specs.declared.trust.Trust.{Trust}
use Rattle.held_folder.specs.declared.trust.Written.{Written}

-- ---- parts of the trust

pub further_with : (kind : Kind) (further : Further) (trust : Trust) → further_of (with_further kind further trust) kind ≡ further
further_with Warc further trust = refl
further_with Cdxj further trust = refl

pub further_other : (kind : Kind) (further : Further) (trust : Trust) (k : Kind) → k ≢ kind → further_of (with_further kind further trust) k ≡ further_of trust k
further_other Warc further trust Warc differs = absurd (differs refl)
further_other Warc further trust Cdxj differs = refl
further_other Cdxj further trust Warc differs = refl
further_other Cdxj further trust Cdxj differs = absurd (differs refl)

pub further_keeps : (kind : Kind) (further : Further) (trust : Trust) → (with_further kind further trust).gave_up ≡ trust.gave_up
further_keeps Warc further trust = refl
further_keeps Cdxj further trust = refl

pub further_gave : (gave_up : Bool) (trust : Trust) (k : Kind) → further_of (record trust { gave_up = gave_up }) k ≡ further_of trust k
further_gave gave_up trust Warc = refl
further_gave gave_up trust Cdxj = refl

pub further_range : (kind : Kind) (range : Option Written) (trust : Trust) (k : Kind) → further_of (with_range kind range trust) k ≡ further_of trust k
further_range Warc range trust Warc = refl
further_range Warc range trust Cdxj = refl
further_range Cdxj range trust Warc = refl
further_range Cdxj range trust Cdxj = refl

pub further_unlisted : (trust : Trust) (k : Kind) → further_of (unlisted_all trust) k ≡ unlisted (further_of trust k)
further_unlisted trust Warc = refl
further_unlisted trust Cdxj = refl

pub range_further : (kind : Kind) (further : Further) (trust : Trust) (k : Kind) → range_of (with_further kind further trust) k ≡ range_of trust k
range_further Warc further trust Warc = refl
range_further Warc further trust Cdxj = refl
range_further Cdxj further trust Warc = refl
range_further Cdxj further trust Cdxj = refl

pub range_unlisted : (trust : Trust) (k : Kind) → range_of (unlisted_all trust) k ≡ range_of trust k
range_unlisted trust Warc = refl
range_unlisted trust Cdxj = refl

-- what is in doubt, and what is torn, where the ranges are the same
pub same_doubts : (name : Kind → ℕ → List ℕ) (old new : Trust) → ((k : Kind) → range_of new k ≡ range_of old k) → (m : List ℕ)
    → IsInDoubt name (doubts_of old) m → IsInDoubt name (doubts_of new) m
same_doubts name old new same m (k, f, is, named) = (k, f, ap doubt_in (same k) ∙ is, named)

pub same_torn : (name : Kind → ℕ → List ℕ) (past : FolderPast) (old new : Trust) → ((k : Kind) → range_of new k ≡ range_of old k)
    → AreTorn name past old → AreTorn name past new
same_torn name past old new same torn k = subst (λ (r : Option Written). IfSome r (IsTornTo name past k)) (sym (same k)) (torn k)

-- ---- what is done to other files

pub further_did : (further : Further) (past : FolderPast) (n m : List ℕ) (deed : FileDeed) → m ≢ n → IsFurther further past m → IsFurther further (did_to past n deed) m
further_did Absent past n m deed apart is = contents_of-other past n m deed apart ∙ is
further_did Unsettled past n m deed apart is = (
  subst (IsNameSure (past.first m)) (sym (deeds_of-other m n deed past.deeds apart)) is.0,
  subst (AreBytesLeft (past.first m)) (sym (deeds_of-other m n deed past.deeds apart)) is.1,
)
further_did Unlisted past n m deed apart is = tt

pub further_done : (further : Further) (past : FolderPast) (n m : List ℕ) (deeds : List FileDeed) → m ≢ n → IsFurther further past m → IsFurther further (done_to past n deeds) m
further_done further past n m [] apart is = is
further_done further past n m (deed ∷ earlier) apart is = further_did further (done_to past n earlier) n m deed apart (further_done further past n m earlier apart is)

-- ---- syncs of a file and of the folders

syncs_same : (n : List ℕ) (past : FolderPast) (deeds : List Deed) → AreSyncs n deeds → (m : List ℕ) → contents_of (record past { deeds = deeds ++ past.deeds }) m ≡ contents_of past m
syncs_same n past [] syncs m = refl
syncs_same n past (Did name Made ∷ earlier) syncs m = absurd syncs
syncs_same n past (Did name (Wrote at bytes rest) ∷ earlier) syncs m = absurd syncs
syncs_same n past (Did name (Shortened len rest) ∷ earlier) syncs m = absurd syncs
syncs_same n past (Did name (Synced done) ∷ earlier) syncs m =
    sync_all_same name done (record past { deeds = earlier ++ past.deeds }) (record past { deeds = (Did name (Synced done) ∷ earlier) ++ past.deeds }) refl m
    ∙ syncs_same n past earlier syncs.1 m
syncs_same n past (Did name (Listed done) ∷ earlier) syncs m = absurd syncs
syncs_same n past (SyncedFolder done ∷ earlier) syncs m = syncs_same n past earlier syncs m
syncs_same n past (SyncedAround done ∷ earlier) syncs m = syncs_same n past earlier syncs m

-- they leave what is read of each file
pub only_syncs_same : (n : List ℕ) (old new : FolderPast) → OnlySyncs n old new → (m : List ℕ) → contents_of new m ≡ contents_of old m
only_syncs_same n old new only m = ap (λ (p : FolderPast). contents_of p m) only.whole ∙ syncs_same n old only.deeds only.syncs m

pub only_syncs_left : (n : List ℕ) (old new : FolderPast) → OnlySyncs n old new → (m : List ℕ) → AreBytesLeftAt old m → AreBytesLeftAt new m
only_syncs_left n old new only m left = subst (λ (p : FolderPast). AreBytesLeftAt p m) (sym only.whole) (syncs_left n old only.deeds m only.syncs left)

pub further_syncs : (further : Further) (n : List ℕ) (old new : FolderPast) (m : List ℕ) → OnlySyncs n old new → (further ≡ Unsettled → IsNameSureAt new m)
    → IsFurther further old m → IsFurther further new m
further_syncs Absent n old new m only names is = only_syncs_same n old new only m ∙ is
further_syncs Unsettled n old new m only names is = (names refl, only_syncs_left n old new only m is.1)
further_syncs Unlisted n old new m only names is = tt

-- whatever of them failed
pub unlisted_syncs : (further : Further) (n : List ℕ) (old new : FolderPast) (m : List ℕ) → OnlySyncs n old new → IsFurther further old m → IsFurther (unlisted further) new m
unlisted_syncs Absent n old new m only is = only_syncs_same n old new only m ∙ is
unlisted_syncs Unsettled n old new m only is = tt
unlisted_syncs Unlisted n old new m only is = tt

syncs_torn : (n : List ℕ) (past : FolderPast) (deeds : List Deed) (m : List ℕ) (at many : ℕ) → AreSyncs n deeds → m ≢ n → IsTornAt past m at many
    → IsTornAt (record past { deeds = deeds ++ past.deeds }) m at many
syncs_torn n past [] m at many syncs apart torn = torn
syncs_torn n past (Did name Made ∷ earlier) m at many syncs apart torn = absurd syncs
syncs_torn n past (Did name (Wrote a bytes rest) ∷ earlier) m at many syncs apart torn = absurd syncs
syncs_torn n past (Did name (Shortened len rest) ∷ earlier) m at many syncs apart torn = absurd syncs
syncs_torn n past (Did name (Synced done) ∷ earlier) m at many syncs apart torn =
    torn_other (record past { deeds = earlier ++ past.deeds }) name m (Synced done) at many (λ same. apart (same ∙ syncs.0)) (syncs_torn n past earlier m at many syncs.1 apart torn)
syncs_torn n past (Did name (Listed done) ∷ earlier) m at many syncs apart torn = absurd syncs
syncs_torn n past (SyncedFolder done ∷ earlier) m at many syncs apart torn =
    torn_listed (past.first m) (deeds_of m (earlier ++ past.deeds)) at many done (syncs_torn n past earlier m at many syncs apart torn)
syncs_torn n past (SyncedAround done ∷ earlier) m at many syncs apart torn = syncs_torn n past earlier m at many syncs apart torn

-- other files are torn as they were
pub only_syncs_torn : (n : List ℕ) (old new : FolderPast) → OnlySyncs n old new → (m : List ℕ) (at many : ℕ) → (m ≡ n → ⊥) → IsTornAt old m at many → IsTornAt new m at many
only_syncs_torn n old new only m at many apart torn =
    subst (λ (p : FolderPast). IsTornAt p m at many) (sym only.whole) (syncs_torn n old only.deeds m at many only.syncs apart torn)

-- and so is one of which a crash leaves what reads find
left_torn : (n : List ℕ) (old new : FolderPast) (at many : ℕ) → contents_of new n ≡ contents_of old n → AreBytesLeftAt old n → AreBytesLeftAt new n
    → IsTornAt old n at many → IsTornAt new n at many
left_torn n old new at many same was is torn =
    torn_same (old.first n) (deeds_of n old.deeds) (new.first n) (deeds_of n new.deeds) at many
    (λ bytes holds.
    sync_then_crash (old.first n) (deeds_of n old.deeds) bytes (read_is_held (old.first n) (deeds_of n old.deeds) bytes (sym same ∙ is bytes holds)))
    (λ bytes holds.
    sync_then_crash (new.first n) (deeds_of n new.deeds) bytes (read_is_held (new.first n) (deeds_of n new.deeds) bytes (same ∙ was bytes holds)))
    same torn

pub syncs_are_torn : (name : Kind → ℕ → List ℕ) (n : List ℕ) (old new : FolderPast) (trust : Trust) → OnlySyncs n old new → AreBytesLeftAt old n
    → AreTorn name old trust → AreTorn name new trust
syncs_are_torn name n old new trust only left torn k = each (range_of trust k) (torn k)
  where
    each : (range : Option Written) → IfSome range (IsTornTo name old k) → IfSome range (IsTornTo name new k)
    each None its = tt
    each (Some w) its = (
      its.0,
      ⊎_elim
          (λ same.
          subst (λ (m : List ℕ). IsTornAt new m w.at w.len) (sym same.0)
          (left_torn n old new w.at w.len (only_syncs_same n old new only n) left (only_syncs_left n old new only n left) (subst (λ (m : List ℕ). IsTornAt old m w.at w.len) same.0 its.1)))
          (λ other. only_syncs_torn n old new only (name k w.number) w.at w.len other.0 its.1)
          (names_cases (name k w.number) n),
    )

-- a file of which a crash leaves what reads find is as it was synced
pub left_clean : (n : List ℕ) (past : FolderPast) (bytes : List ℕ) → contents_of past n ≡ Some bytes → AreBytesLeftAt past n → IsTornAt past n 0 0
left_clean n past bytes is left = torn_left (past.first n) (deeds_of n past.deeds) bytes left is

-- ---- a file that wasn't there, and was to be made

made_left : (n : List ℕ) (past : FolderPast) → AreBytesLeftAt (did_to past n Made) n
made_left n past = subst (AreBytesLeft (past.first n)) (sym (deeds_of-same n Made past.deeds)) (bytes_left-made (past.first n) (deeds_of n past.deeds))

-- it may be there
pub missed_further : (n : List ℕ) (old new : FolderPast) → MakesInPart n old new → contents_of old n ≡ None → (IsNameSureAt old n → IsNameSureAt new n) → IsFurther Unsettled new n
missed_further n old new makes none names = (names (λ lacks. none), left makes)
  where
    left : MakesInPart n old new → AreBytesLeftAt new n
    left (inl same) =
        subst (λ (p : FolderPast). AreBytesLeftAt p n) (sym same)
        (λ bytes holds. absurd (held_is_read (old.first n) (deeds_of n old.deeds) Crash bytes holds none))
    left (inr is_made) = only_syncs_left n (did_to old n Made) new is_made.synced n (made_left n old)

-- others stay
pub missed_other : (further : Further) (n : List ℕ) (old new : FolderPast) (m : List ℕ) → MakesInPart n old new → m ≢ n → (IsNameSureAt old m → IsNameSureAt new m)
    → IsFurther further old m → IsFurther further new m
missed_other further n old new m (inl same) apart names is = subst (λ (p : FolderPast). IsFurther further p m) (sym same) is
missed_other further n old new m (inr is_made) apart names is =
    further_syncs further n (did_to old n Made) new m is_made.synced
    (λ unsettled. names (subst (λ (f : Further). IsFurther f old m) unsettled is).0)
    (further_did further old n m Made apart is)

pub missed_same : (n : List ℕ) (old new : FolderPast) (m : List ℕ) → MakesInPart n old new → m ≢ n → contents_of new m ≡ contents_of old m
missed_same n old new m (inl same) apart = ap (λ (p : FolderPast). contents_of p m) same
missed_same n old new m (inr is_made) apart = only_syncs_same n (did_to old n Made) new is_made.synced m ∙ contents_of-other old n m Made apart

pub missed_unlisted : (further : Further) (n : List ℕ) (old new : FolderPast) (m : List ℕ) → MakesInPart n old new → m ≢ n → IsFurther further old m → IsFurther (unlisted further) new m
missed_unlisted Absent n old new m makes apart is = missed_same n old new m makes apart ∙ is
missed_unlisted Unsettled n old new m makes apart is = tt
missed_unlisted Unlisted n old new m makes apart is = tt

pub missed_are_torn : (name : Kind → ℕ → List ℕ) (n : List ℕ) (old new : FolderPast) (trust : Trust) → MakesInPart n old new → contents_of old n ≡ None
    → AreTorn name old trust → AreTorn name new trust
missed_are_torn name n old new trust (inl same) none torn k = subst (λ (p : FolderPast). AreTorn name p trust) (sym same) torn k
missed_are_torn name n old new trust (inr is_made) none torn k = each (range_of trust k) (torn k)
  where
    each : (range : Option Written) → IfSome range (IsTornTo name old k) → IfSome range (IsTornTo name new k)
    each None its = tt
    each (Some w) its = (
      its.0,
      ⊎_elim
          (λ same. absurd (none-some its.1.reading (sym (ap (contents_of old) same.0 ∙ none) ∙ its.1.is)))
          (λ other.
          only_syncs_torn n (did_to old n Made) new is_made.synced (name k w.number) w.at w.len other.0
          (torn_other old n (name k w.number) Made w.at w.len other.0 its.1))
          (names_cases (name k w.number) n),
    )
