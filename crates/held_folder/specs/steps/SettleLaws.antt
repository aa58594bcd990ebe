-- Laws of a file that was to be made and is there: it, the folder and the folder around it are synced by a call that only looks.
use Rattle.std.proofs.Common.{◌^◌, ◌≡◌, ◌≢◌, ◌⊎◌, ◌<◌, ◌+◌, ℕ, Bool, true, false, IsTrue, List, [], ◌∷◌, refl, sym, ap, ◌∙◌, subst, inl, inr, ⊎_elim, arith}
use Rattle.std.proofs.lemmas.Bool.{cases_lt}
use Rattle.std.specs.Prelude.{None, Ok}
use Rattle.disk_model.specs.Crash.{Elapses}
use Rattle.disk_model.specs.Image.{Image, file_count, file_of}
use Rattle.disk_model.specs.declared.kind.Kind.{Kind}
use Rattle.disk_model.specs.declared.kind.Kind.TheVariants.{Warc, Cdxj}
use Rattle.disk_model.specs.steps.ImageLaws.{same_kind_or_other}
use Rattle.folder_model.specs.DiskCalls.{SyncsLeave}
use Rattle.folder_model.specs.File.{Synced}
use Rattle.folder_model.specs.Folder.{Did, FolderPast, SyncedFolder, SyncedAround, contents_of, IsNameSureAt, AreBytesLeftAt}
use Rattle.folder_model.specs.Known.{IsInDoubt, Knows}
use Rattle.folder_model.specs.Ranges.{IsTornAt}
use Rattle.folder_model.specs.Seen.{NamesApart, images_of}
use Rattle.folder_model.specs.Times.{Times, moment_of, goes_on, images_since_of}
use Rattle.folder_model.specs.Whole.{OnlySyncs, MakesInPart, made_durably, settled_durably}
use Rattle.folder_model.specs.steps.SettleLaws.{syncs_leave, settled_leaves}
use Rattle.held_folder.specs.Calls.{Creates, Looks}
use Rattle.held_folder.specs.Doubts.{range_of, doubts_of, AreTorn, SyncedTo, further_of, with_further, unlisted, unlisted_all, IsFurther}
use Rattle.folder_files.specs.Counting.{known_of}
use Rattle.held_folder.specs.State.{State, reading, IsKnown, images, next, grown, trusted}
use Rattle.held_folder.specs.steps.FurtherLaws.{further_keeps, further_gave, further_with, further_other, further_unlisted, further_syncs, unlisted_syncs, missed_further, missed_other, missed_unlisted, range_further, range_unlisted, same_doubts, same_torn, only_syncs_same, only_syncs_left, only_syncs_torn, syncs_are_torn, left_clean}
use Rattle.held_folder.specs.steps.StateLaws.{create_made, create_behind, absent_is_none, is_known, known_reading, as_within, as_elapses, looked_by, grown_kind, grown_other, grown_numbers, grown_times}
use Rattle.held_folder.specs.steps.SureLaws.{made_goes, synced_further, synced_gave}
use Rattle.held_folder.specs.steps.TrustLaws.{range_gave, torn_goes_on, after_sync, doubts_after_sync}
use Rattle.held_folder.specs.declared.trust.Further.{Further}
use Rattle.held_folder.specs.declared.trust.Further.TheVariants.{Absent, Unsettled}
use Rattle.held_folder.specs.declared.trust.Trust.{Trust}

-- what the disk knows, where what is known of each file stays
ranges_know : (name : Kind → ℕ → List ℕ) (past : FolderPast) (known : Kind → ℕ) (old new : Trust) (times : Times) (image : Image) → ((k : Kind) → range_of new k ≡ range_of old k)
    → new.gave_up ≡ old.gave_up → Knows name past known old.gave_up (doubts_of old) times image → Knows name past known new.gave_up (doubts_of new) times image
ranges_know name past known old new times image ranges gave knows = record {
  is = knows.is;
  timed = knows.timed;
  numbers = knows.numbers;
  no_fewer = knows.no_fewer;
  one_more = knows.one_more;
  named = knows.named;
  sure = λ goes n. ⊎_elim (λ doubt. inl (same_doubts name old new ranges n doubt)) (λ sure. inr sure) (knows.sure (sym gave ∙ goes) n);
}

-- where it isn't there that is known
pub none_further : (name : Kind → ℕ → List ℕ) (kind : Kind) (s : State) (past : FolderPast) (trust : Trust) → IsKnown name s → past ≡ s.past
    → contents_of past (name kind (known_of s.warc s.cdxj kind)) ≡ None → trust ≡ with_further kind Absent s.trust
    → IsKnown name (record s { past = past; trust = trust })
none_further name kind s past trust known same none is =
    let s_now : State = record s { past = past; trust = trust } in
    let ranges : (k : Kind) → range_of trust k ≡ range_of s.trust k = λ k. ap (λ (t : Trust). range_of t k) is ∙ range_further kind Absent s.trust k in
    let gave : trust.gave_up ≡ s.trust.gave_up = ap (λ (t : Trust). t.gave_up) is ∙ further_keeps kind Absent s.trust in
    let knows : Knows name past (known_of s.warc s.cdxj) s.trust.gave_up (doubts_of s.trust) s.times (reading name s) =
    subst (λ (p : FolderPast). Knows name p (known_of s.warc s.cdxj) s.trust.gave_up (doubts_of s.trust) s.times (reading name s)) (sym same) known.knows in
    is_known name s_now (reading name s) (ranges_know name past (known_of s.warc s.cdxj) s.trust trust s.times (reading name s) ranges gave knows)
    (λ goes. same_torn name past s.trust trust ranges (subst (λ (p : FolderPast). AreTorn name p s.trust) (sym same) (known.torn (sym gave ∙ goes))))
    (λ k.
    ⊎_elim
    (λ one.
    subst (λ (kk : Kind). IsFurther (further_of trust kk) past (name kk (known_of s.warc s.cdxj kk))) (sym one)
    (subst (λ (f : Further). IsFurther f past (name kind (known_of s.warc s.cdxj kind))) (sym (ap (λ (t : Trust). further_of t kind) is ∙ further_with kind Absent s.trust)) none))
    (λ differs.
    subst (λ (f : Further). IsFurther f past (name k (known_of s.warc s.cdxj k))) (sym (ap (λ (t : Trust). further_of t k) is ∙ further_other kind Absent s.trust k differs))
    (subst (λ (p : FolderPast). IsFurther (further_of s.trust k) p (name k (known_of s.warc s.cdxj k))) (sym same) (known.further k)))
    (same_kind_or_other k kind))

-- a look that found none
pub found_none : (tells : Bool) (name : Kind → ℕ → List ℕ) (kind : Kind) (s : State) (past : FolderPast) (trust : Trust) → (IsTrue tells → past ≡ s.past) → (IsTrue tells → IsKnown name s)
    → (IsTrue tells → contents_of past (name kind (known_of s.warc s.cdxj kind)) ≡ None) → trust ≡ with_further kind Absent s.trust
    → Looks tells name s (record s { past = past; trust = trust })
found_none tells name kind s past trust same known none is =
    let now : State = record s { past = past; trust = trust } in
    let known_now : IsTrue tells → IsKnown name now = λ told. none_further name kind s past trust (known told) (same told) (none told) is in
    record {
      known = known_now;
      same = λ told.
          known_reading name now (reading name s) s.trust.gave_up (doubts_of s.trust)
          (subst (λ (p : FolderPast). Knows name p (known_of s.warc s.cdxj) s.trust.gave_up (doubts_of s.trust) s.times (reading name s)) (sym (same told)) (known told).knows);
      crash = as_within tells name s now (λ told. (known told, known_now told, λ image left. subst (λ (p : FolderPast). images_of name p image) (same told) left));
      time = as_elapses tells name s now (images_of name past) (images tells name now) (omega arith) (omega arith)
          (λ image told left. (told, inr (known_now told, left)))
          (λ told. (
            known told,
            known_now told,
            record {
              later = omega arith;
              by_one = omega arith;
              nothing_else = λ t image le left. inl (subst (λ (p : FolderPast). images_since_of name p s.times t image) (same told) left);
              keeps = λ t image le left. subst (λ (p : FolderPast). images_since_of name p s.times t image) (sym (same told)) left;
            },
          ));
    }

-- ---- what is known of such files then

module _ (name : Kind → ℕ → List ℕ) (kind : Kind) (s : State) (past : FolderPast) (trust : Trust) (known : IsKnown name s) where
  -- of one that was to be made now
  pub missed_now : NamesApart name → (gave_up : Bool) → MakesInPart (name kind (known_of s.warc s.cdxj kind)) s.past past → further_of s.trust kind ≡ Absent
      → trust ≡ record (with_further kind Unsettled s.trust) { gave_up = gave_up } → ((m : List ℕ) → IsNameSureAt s.past m → IsNameSureAt past m)
      → (k : Kind) → IsFurther (further_of trust k) past (name k (known_of s.warc s.cdxj k))
  missed_now apart gave_up makes absent is names k =
      let n : List ℕ = name kind (known_of s.warc s.cdxj kind) in
      let none : contents_of s.past n ≡ None = subst (λ (f : Further). IsFurther f s.past n) absent (known.further kind) in
      ⊎_elim
      (λ same.
      subst (λ (kk : Kind). IsFurther (further_of trust kk) past (name kk (known_of s.warc s.cdxj kk))) (sym same)
      (subst (λ (f : Further). IsFurther f past n)
      (sym (ap (λ (t : Trust). further_of t kind) is ∙ further_gave gave_up (with_further kind Unsettled s.trust) kind ∙ further_with kind Unsettled s.trust))
      (missed_further n s.past past makes none (names n))))
      (λ differs.
      let m : List ℕ = name k (known_of s.warc s.cdxj k) in
      subst (λ (f : Further). IsFurther f past m)
      (sym (ap (λ (t : Trust). further_of t k) is ∙ further_gave gave_up (with_further kind Unsettled s.trust) k ∙ further_other kind Unsettled s.trust k differs))
      (missed_other (further_of s.trust k) n s.past past m makes
      (apart kind (known_of s.warc s.cdxj kind) k (known_of s.warc s.cdxj k) (known.knows.numbers kind) (known.knows.numbers k) (inl differs)) (names m) (known.further k)))
      (same_kind_or_other k kind)

  -- where the folder's sync failed
  pub missed_list_now : NamesApart name → MakesInPart (name kind (known_of s.warc s.cdxj kind)) s.past past → trust ≡ unlisted_all (with_further kind Unsettled s.trust)
      → (k : Kind) → IsFurther (further_of trust k) past (name k (known_of s.warc s.cdxj k))
  missed_list_now apart makes is k =
      let n : List ℕ = name kind (known_of s.warc s.cdxj kind) in
      let m : List ℕ = name k (known_of s.warc s.cdxj k) in
      let now : further_of trust k ≡ unlisted (further_of (with_further kind Unsettled s.trust) k) =
      ap (λ (t : Trust). further_of t k) is ∙ further_unlisted (with_further kind Unsettled s.trust) k in
      ⊎_elim
      (λ same.
      subst (λ (f : Further). IsFurther f past m)
      (sym (now ∙ ap (λ (kk : Kind). unlisted (further_of (with_further kind Unsettled s.trust) kk)) same ∙ ap unlisted (further_with kind Unsettled s.trust))) tt)
      (λ differs.
      subst (λ (f : Further). IsFurther f past m) (sym (now ∙ ap unlisted (further_other kind Unsettled s.trust k differs)))
      (missed_unlisted (further_of s.trust k) n s.past past m makes
      (apart kind (known_of s.warc s.cdxj kind) k (known_of s.warc s.cdxj k) (known.knows.numbers kind) (known.knows.numbers k) (inl differs)) (known.further k)))
      (same_kind_or_other k kind)

  -- of one that was synced
  pub tried_now : OnlySyncs (name kind (known_of s.warc s.cdxj kind)) s.past past → trust ≡ s.trust → ((m : List ℕ) → IsNameSureAt s.past m → IsNameSureAt past m)
      → (k : Kind) → IsFurther (further_of trust k) past (name k (known_of s.warc s.cdxj k))
  tried_now only is names k =
      let m : List ℕ = name k (known_of s.warc s.cdxj k) in
      subst (λ (t : Trust). IsFurther (further_of t k) past m) (sym is)
      (further_syncs (further_of s.trust k) (name kind (known_of s.warc s.cdxj kind)) s.past past m only
      (λ unsure. names m (subst (λ (f : Further). IsFurther f s.past m) unsure (known.further k)).0) (known.further k))

  pub tried_list_now : OnlySyncs (name kind (known_of s.warc s.cdxj kind)) s.past past → trust ≡ unlisted_all s.trust
      → (k : Kind) → IsFurther (further_of trust k) past (name k (known_of s.warc s.cdxj k))
  tried_list_now only is k =
      let m : List ℕ = name k (known_of s.warc s.cdxj k) in
      subst (λ (f : Further). IsFurther f past m) (sym (ap (λ (t : Trust). further_of t k) is ∙ further_unlisted s.trust k))
      (unlisted_syncs (further_of s.trust k) (name kind (known_of s.warc s.cdxj kind)) s.past past m only (known.further k))

-- ranges that stay
pub missed_ranges : (kind : Kind) (gave_up : Bool) (old new : Trust) → new ≡ record (with_further kind Unsettled old) { gave_up = gave_up } → (k : Kind) → range_of new k ≡ range_of old k
missed_ranges kind gave_up old new is k =
    ap (λ (t : Trust). range_of t k) is ∙ range_gave gave_up (with_further kind Unsettled old) k ∙ range_further kind Unsettled old k

pub missed_list_ranges : (kind : Kind) (old new : Trust) → new ≡ unlisted_all (with_further kind Unsettled old) → (k : Kind) → range_of new k ≡ range_of old k
missed_list_ranges kind old new is k =
    ap (λ (t : Trust). range_of t k) is ∙ range_unlisted (with_further kind Unsettled old) k ∙ range_further kind Unsettled old k

pub tried_list_ranges : (old new : Trust) → new ≡ unlisted_all old → (k : Kind) → range_of new k ≡ range_of old k
tried_list_ranges old new is k = ap (λ (t : Trust). range_of t k) is ∙ range_unlisted old k

-- syncs of it and of the folders
module _ (tells : Bool) (name : Kind → ℕ → List ℕ) (kind : Kind) (old : State) (past : FolderPast) (known : IsTrue tells → IsKnown name old)
    (unsettled : further_of old.trust kind ≡ Unsettled) where
  its : (told : IsTrue tells) → IsNameSureAt old.past (name kind (known_of old.warc old.cdxj kind)) × AreBytesLeftAt old.past (name kind (known_of old.warc old.cdxj kind))
  its told = subst (λ (f : Further). IsFurther f old.past (name kind (known_of old.warc old.cdxj kind))) unsettled ((known told).further kind)

  -- some failed
  module _ (trust : Trust) (ranges : (k : Kind) → range_of trust k ≡ range_of old.trust k) (gave : trust.gave_up ≡ old.trust.gave_up)
      (only : IsTrue tells → OnlySyncs (name kind (known_of old.warc old.cdxj kind)) old.past past)
      (further : IsTrue tells → (k : Kind) → IsFurther (further_of trust k) past (name k (known_of old.warc old.cdxj k))) where
    tried : (told : IsTrue tells) → SyncsLeave name old.past past (known_of old.warc old.cdxj) old.trust.gave_up (doubts_of old.trust) old.times (reading name old)
    tried told =
        syncs_leave name kind old.past (known_of old.warc old.cdxj) old.trust.gave_up (doubts_of old.trust) old.times (reading name old) (known told).knows (its told).1 past (only told)

    tried_known : (told : IsTrue tells) → IsKnown name (trusted trust (next old past))
    tried_known told =
        is_known name (trusted trust (next old past)) (reading name old)
        (ranges_know name past (known_of old.warc old.cdxj) old.trust trust (goes_on old.times past) (reading name old) ranges gave (tried told).knows)
        (λ goes.
        same_torn name past old.trust trust ranges
        (syncs_are_torn name (name kind (known_of old.warc old.cdxj kind)) old.past past old.trust (only told) (its told).1 ((known told).torn (sym gave ∙ goes))))
        (further told)

    pub settle_missed : Looks tells name old (trusted trust (next old past))
    settle_missed =
        looked_by tells name old (trusted trust (next old past)) (λ told. (known told, tried_known told))
        (λ told. known_reading name (trusted trust (next old past)) (reading name old) old.trust.gave_up (doubts_of old.trust) (tried told).knows)
        (λ told. (tried told).within) (omega arith) (λ told. (tried told).time)

  -- all were done
  module _ (apart : NamesApart name) (mid trust : Trust) (on : SyncedTo kind (known_of old.warc old.cdxj kind) old.trust mid) (is : trust ≡ with_further kind Absent mid)
      (goes : old.trust.gave_up ≡ false) (room : known_of old.warc old.cdxj kind + 1 < 2 ^ 32)
      (there : IsTrue tells → contents_of old.past (name kind (known_of old.warc old.cdxj kind)) ≢ None)
      (whole : IsTrue tells → past ≡ settled_durably (name kind (known_of old.warc old.cdxj kind)) old.past)
      (names : IsTrue tells → (m : List ℕ) → IsNameSureAt old.past m → IsNameSureAt past m) where
    only : (told : IsTrue tells) → OnlySyncs (name kind (known_of old.warc old.cdxj kind)) old.past past
    only told = record {
      deeds = SyncedAround true ∷ SyncedFolder true ∷ Did (name kind (known_of old.warc old.cdxj kind)) (Synced true) ∷ [];
      syncs = (refl, tt);
      whole = whole told;
    }

    counts : (told : IsTrue tells) → known_of old.warc old.cdxj kind < file_count (reading name old) kind
    counts told =
        ⊎_elim
        (λ more. more)
        (λ none. absurd (there told ((known told).knows.is.seen.no_more kind (known_of old.warc old.cdxj kind) none ((known told).knows.numbers kind))))
        (cases_lt (known_of old.warc old.cdxj kind) (file_count (reading name old) kind))

    ranges : (k : Kind) → range_of trust k ≡ range_of mid k
    ranges k = ap (λ (t : Trust). range_of t k) is ∙ range_further kind Absent mid k

    settles : (told : IsTrue tells) (m : List ℕ) → IsInDoubt name (doubts_of old.trust) m
        → (m ≡ name kind (known_of old.warc old.cdxj kind)) ⊎ IsInDoubt name (doubts_of trust) m
    settles told m doubt =
        ⊎_elim (λ this. inl this) (λ still. inr (same_doubts name mid trust ranges m still))
        (doubts_after_sync name kind old.trust mid (known_of old.warc old.cdxj kind) on m doubt)

    done : (told : IsTrue tells) → SyncsLeave name old.past past (known_of (grown kind old).warc (grown kind old).cdxj) old.trust.gave_up (doubts_of trust) old.times (reading name old)
    done told =
        settled_leaves name kind old.past (known_of old.warc old.cdxj) old.trust.gave_up (doubts_of old.trust) old.times (reading name old) (known told).knows (its told).1
        past (known_of (grown kind old).warc (grown kind old).cdxj) (doubts_of trust) (whole told) (counts told) (its told).0 (settles told)
        (grown_numbers kind old room (known told).knows.numbers) (grown_kind kind old) (grown_other kind old)

    elsewhere : (told : IsTrue tells) (n : List ℕ) (a many : ℕ) → (n ≡ name kind (known_of old.warc old.cdxj kind) → ⊥) → IsTornAt old.past n a many → IsTornAt past n a many
    elsewhere told n a many differs torn = only_syncs_torn (name kind (known_of old.warc old.cdxj kind)) old.past past (only told) n a many differs torn

    clean : (told : IsTrue tells) → IsTornAt past (name kind (known_of old.warc old.cdxj kind)) 0 0
    clean told =
        let n : List ℕ = name kind (known_of old.warc old.cdxj kind) in
        left_clean n past (file_of (reading name old) kind (known_of old.warc old.cdxj kind))
        (only_syncs_same n old.past past (only told) n ∙ (known told).knows.is.seen.there kind (known_of old.warc old.cdxj kind) (counts told))
        (only_syncs_left n old.past past (only told) n (its told).1)

    torn : (told : IsTrue tells) → AreTorn name past trust
    torn told =
        let small = (known told).knows.numbers kind in
        same_torn name past mid trust ranges
        (torn_goes_on name apart kind (known_of old.warc old.cdxj kind) small old.past past (elsewhere told) old.trust mid on.range old.trust.gave_up on.only
        (after_sync name apart kind (known_of old.warc old.cdxj kind) small old.past past (elsewhere told) (clean told) (range_of old.trust kind) on.range on.after)
        ((known told).torn goes))

    further : (told : IsTrue tells) (k : Kind) → IsFurther (further_of trust k) past (name k (known_of (grown kind old).warc (grown kind old).cdxj k))
    further told k =
        let n : List ℕ = name kind (known_of old.warc old.cdxj kind) in
        ⊎_elim
        (λ same.
        let one : known_of (grown kind old).warc (grown kind old).cdxj kind ≡ known_of old.warc old.cdxj kind + 1 = grown_kind kind old in
        let lacks : contents_of past (name kind (known_of old.warc old.cdxj kind + 1)) ≡ None =
        only_syncs_same n old.past past (only told) (name kind (known_of old.warc old.cdxj kind + 1))
        ∙ (known told).knows.is.seen.no_more kind (known_of old.warc old.cdxj kind + 1) ((known told).knows.one_more kind) room in
        subst (λ (kk : Kind). IsFurther (further_of trust kk) past (name kk (known_of (grown kind old).warc (grown kind old).cdxj kk))) (sym same)
        (subst (λ (f : Further). IsFurther f past (name kind (known_of (grown kind old).warc (grown kind old).cdxj kind)))
        (sym (ap (λ (t : Trust). further_of t kind) is ∙ further_with kind Absent mid))
        (subst (λ (number : ℕ). contents_of past (name kind number) ≡ None) (sym one) lacks)))
        (λ differs.
        subst (λ (f : Further). IsFurther f past (name k (known_of (grown kind old).warc (grown kind old).cdxj k)))
        (sym (ap (λ (t : Trust). further_of t k) is ∙ further_other kind Absent mid k differs ∙ synced_further kind (known_of old.warc old.cdxj kind) old.trust mid on k))
        (subst (λ (number : ℕ). IsFurther (further_of old.trust k) past (name k number)) (sym (grown_other kind old k differs))
        (further_syncs (further_of old.trust k) n old.past past (name k (known_of old.warc old.cdxj k)) (only told)
        (λ unsure. names told (name k (known_of old.warc old.cdxj k)) (subst (λ (f : Further). IsFurther f old.past (name k (known_of old.warc old.cdxj k))) unsure ((known told).further k)).0)
        ((known told).further k))))
        (same_kind_or_other k kind)

    gave_now : trust.gave_up ≡ old.trust.gave_up
    gave_now = ap (λ (t : Trust). t.gave_up) is ∙ further_keeps kind Absent mid ∙ synced_gave kind (known_of old.warc old.cdxj kind) old.trust mid on goes ∙ sym goes

    done_knows : (told : IsTrue tells) → Knows name past (known_of (grown kind old).warc (grown kind old).cdxj) trust.gave_up (doubts_of trust) (goes_on (grown kind old).times past) (reading name old)
    done_knows told =
        subst (λ (t : Times). Knows name past (known_of (grown kind old).warc (grown kind old).cdxj) trust.gave_up (doubts_of trust) (goes_on t past) (reading name old)) (sym (grown_times kind old))
        (subst (λ (b : Bool). Knows name past (known_of (grown kind old).warc (grown kind old).cdxj) b (doubts_of trust) (goes_on old.times past) (reading name old)) (sym gave_now) (done told).knows)

    done_time : (told : IsTrue tells) → Elapses (moment_of old.times) (moment_of (goes_on (grown kind old).times past)) (images_since_of name old.past old.times)
        (images_since_of name past (goes_on (grown kind old).times past)) (images_of name past)
    done_time told =
        subst (λ (t : Times). Elapses (moment_of old.times) (moment_of (goes_on t past)) (images_since_of name old.past old.times)
        (images_since_of name past (goes_on t past)) (images_of name past)) (sym (grown_times kind old)) (done told).time

    pub settle_done : Looks tells name old (trusted trust (next (grown kind old) past))
    settle_done =
        looked_by tells name old (trusted trust (next (grown kind old) past))
        (λ told. (known told, is_known name (trusted trust (next (grown kind old) past)) (reading name old) (done_knows told) (λ still. torn told) (further told)))
        (λ told. known_reading name (trusted trust (next (grown kind old) past)) (reading name old) trust.gave_up (doubts_of trust) (done_knows told))
        (λ told. (done told).within) (omega (arith, ap (λ (t : Times). moment_of t) (grown_times kind old))) (λ told. done_time told)

-- a file that was made
pub made_told : {E : Type 0} (tells : Bool) (name : Kind → ℕ → List ℕ) → NamesApart name → (kind : Kind) (old : State) (asked : ℕ) (called : List ℕ) (first past last : FolderPast) (trust : Trust)
    → (IsTrue tells → IsKnown name old) → old.trust.gave_up ≡ false → further_of old.trust kind ≡ Absent
    → asked ≡ known_of old.warc old.cdxj kind → asked + 1 < 2 ^ 32 → called ≡ name kind asked → SyncedTo kind asked old.trust trust
    → (IsTrue tells → first ≡ old.past) → (IsTrue tells → past ≡ made_durably called first) → (IsTrue tells → last ≡ past)
    → Creates {E = E} tells name kind old (record (trusted trust (next (grown kind old) past)) { past = last }) (Ok asked)
made_told {E} tells name apart kind old asked called first past last trust known goes absent number room named on checked made same =
    let n : ℕ = known_of old.warc old.cdxj kind in
    let is : called ≡ name kind n = named ∙ ap (name kind) number in
    let whole : IsTrue tells → past ≡ made_durably (name kind n) old.past = λ told. made told ∙ (λ i. made_durably (is i) (checked told i)) in
    let synced : SyncedTo kind n old.trust trust = subst (λ (k : ℕ). SyncedTo kind k old.trust trust) number on in
    let few : n + 1 < 2 ^ 32 = omega (arith, room, number) in
    subst (λ (k : ℕ). Creates {E = E} tells name kind old (record (trusted trust (next (grown kind old) past)) { past = last }) (Ok k)) (sym number)
    (create_behind {E = E} tells name kind old (trusted trust (next (grown kind old) past)) last (Ok n) same
    (create_made tells name apart kind old past trust (λ told. (known told, whole told)) goes absent few
    (λ told.
    made_goes name apart kind n ((known told).knows.numbers kind) old past trust (known told) goes (absent_is_none name old kind (known told) absent) (whole told) synced refl few absent)
    {E = E}))

-- a file more leaves the trust
pub grown_trust : (kind : Kind) (s : State) → (grown kind s).trust ≡ s.trust
grown_trust Warc s = refl
grown_trust Cdxj s = refl
