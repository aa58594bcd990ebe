-- Laws of a disk over a folder.
use Rattle.std.proofs.Common.{◌≡◌, ◌≢◌, ◌<◌, ◌≤◌, ◌^◌, ◌+◌, ℕ, Bool, true, false, IsTrue, List, [], length, take, refl, sym, ap, ◌∙◌, subst, inl, inr, ⊎_elim, true≢false, arith}
use Rattle.std.proofs.lemmas.Bool.{cases_lt}
use Rattle.std.proofs.lemmas.Option.{none-some}
use Rattle.std.specs.Prelude.{Result, Ok, Err, OnOk, OnErr, IsErr, ⊤}
use Rattle.disk_model.specs.Crash.{Torn, Cut, OnFile, MayCreate, HasFile, Within, Follows, Stepped, Leaves, Elapses}
use Rattle.disk_model.specs.Image.{Image, IsApart, file_count, file_of, with_file, with_new}
use Rattle.disk_model.specs.steps.CrashLaws.{torn_none, cut_none, on_file_none}
use Rattle.disk_model.specs.steps.ImageLaws.{same_kind_or_other}
use Rattle.disk_model.specs.declared.kind.Kind.{Kind}
use Rattle.disk_model.specs.declared.kind.Kind.TheVariants.{Warc, Cdxj}
use Rattle.std.proofs.Common.{◌∷◌}
use Rattle.std.specs.Prelude.{None, IfOk}
use Rattle.folder_model.specs.File.{FileDeed, Made, Shortened}
use Rattle.std.specs.Prelude.{Option}
use Rattle.std.specs.Option.{unwrap_or}
use Rattle.folder_model.specs.Folder.{FolderPast, SyncedFolder, SyncedAround, did, did_to, contents_of, bytes_of}
use Rattle.folder_model.specs.Seen.{NamesApart, IsSeen, images_of}
use Rattle.folder_model.specs.Times.{Times, moment_of, goes_on, images_since_of}
use Rattle.folder_model.specs.Known.{IsInDoubt, Knows}
use Rattle.folder_model.specs.Whole.{done_to, WritesWithin, IsWriting, MakesInPart, made_durably}
use Rattle.folder_model.specs.steps.ReadingLaws.{contents_of-same}
use Rattle.held_folder.specs.steps.FurtherLaws.{same_doubts, same_torn, further_done, missed_are_torn, only_syncs_same}
use Rattle.folder_model.specs.DiskCalls.{WriteLeaves, CutLeaves, SyncDone, SyncsLeave, CreateDone, CreateFailed}
use Rattle.folder_model.specs.steps.KnownLaws.{reading_is, write_leaves, cut_leaves, create_done, create_failed, written_is_read, opened_knows}
use Rattle.folder_model.specs.steps.SeenLaws.{reading_is_left, no_more_left}
use Rattle.folder_model.specs.steps.TimeLaws.{image_now, image_only_now, image_earlier}
use Rattle.folder_files.specs.Counting.{known_of, IsCounted}
use Rattle.held_folder.specs.State.{State, reading, IsKnown, images, images_since, next, grown, trusted}
use Rattle.held_folder.specs.Doubts.{doubts_of, range_of, AreTorn, further_of, IsFurther}
use Rattle.held_folder.specs.declared.trust.Further.{Further}
use Rattle.held_folder.specs.declared.trust.Further.TheVariants.{Absent}
use Rattle.held_folder.specs.declared.trust.Trust.{Trust}
use Rattle.held_folder.specs.Calls.{Creates, WritesAt, Cuts, Syncs, Looks}

-- ---- the laws of `Disk`

pub reading_counts : (tells : Bool) (name : Kind → ℕ → List ℕ) (s : State) → IsTrue tells → images tells name s (reading name s)
reading_counts tells name s told = (told, inl refl)

pub no_more : (tells : Bool) (name : Kind → ℕ → List ℕ) (s : State) (image : Image) (kind : Kind) → images tells name s image → file_count image kind ≤ file_count (reading name s) kind
no_more tells name s image kind (told, inl same) = omega (arith, ap (λ (i : Image). file_count i kind) same)
no_more tells name s image kind (told, inr left) = no_more_left name s.past (reading name s) image kind left.0.knows.is.seen left.1

pub now_counts : (tells : Bool) (name : Kind → ℕ → List ℕ) (s : State) (t : ℕ) (image : Image) → images tells name s image → images_since tells name s t image
now_counts tells name s t image (told, inl same) = (told, inl same)
now_counts tells name s t image (told, inr left) = (told, inr (left.0, image_now name s.past s.times t image left.0.knows.timed left.1))

pub now_only : (tells : Bool) (name : Kind → ℕ → List ℕ) (s : State) (image : Image) → images_since tells name s (moment_of s.times) image → images tells name s image
now_only tells name s image (told, inl same) = (told, inl same)
now_only tells name s image (told, inr left) = (told, inr (left.0, image_only_now name s.past s.times image left.0.knows.timed left.1))

pub earlier : (tells : Bool) (name : Kind → ℕ → List ℕ) (s : State) (t later : ℕ) (image : Image) → t ≤ later → images_since tells name s later image → images_since tells name s t image
earlier tells name s t later image le (told, inl same) = (told, inl same)
earlier tells name s t later image le (told, inr left) = (told, inr (left.0, image_earlier name s.past s.times t later image left.0.knows.timed le left.1))

-- ---- where what the disk knows is so, its images are the folder's

to_folder : (name : Kind → ℕ → List ℕ) (s : State) (tells : Bool) (image : Image) → IsKnown name s → images tells name s image → images_of name s.past image
to_folder name s tells image known (told, inl same) = subst (images_of name s.past) (sym same) (reading_is_left name s.past (reading name s) known.knows.is.seen)
to_folder name s tells image known (told, inr left) = left.1

to_folder_since : (name : Kind → ℕ → List ℕ) (s : State) (tells : Bool) (t : ℕ) (image : Image) → IsKnown name s → images_since tells name s t image → images_since_of name s.past s.times t image
to_folder_since name s tells t image known (told, inl same) =
    image_now name s.past s.times t image known.knows.timed (subst (images_of name s.past) (sym same) (reading_is_left name s.past (reading name s) known.knows.is.seen))
to_folder_since name s tells t image known (told, inr left) = left.1

-- steps and time, from the folder's images to the disk's
module _ (tells : Bool) (name : Kind → ℕ → List ℕ) (old new : State) where
  as_follows : (Step : Image → Image → Type 0)
      → (IsTrue tells → IsKnown name old × IsKnown name new × Follows Step (images_of name old.past) (images_of name new.past))
      → Follows Step (images tells name old) (images tells name new)
  as_follows Step law image left =
      let l = law left.0 in
      let was = l.2 image (to_folder name new tells image l.1 left) in
      (was.0, (left.0, inr (l.0, was.1)), was.2)

  pub as_within : (IsTrue tells → IsKnown name old × IsKnown name new × Within (images_of name old.past) (images_of name new.past))
      → Within (images tells name old) (images tells name new)
  as_within law image left =
      let l = law left.0 in
      (left.0, inr (l.0, l.2 image (to_folder name new tells image l.1 left)))

  as_leaves : (P : Image → Type 0) → (IsTrue tells → IsKnown name new × Leaves (images_of name new.past) P) → Leaves (images tells name new) P
  as_leaves P law image left = let l = law left.0 in l.1 image (to_folder name new tells image l.0 left)

  pub as_elapses : (target told_target : Image → Type 0) → moment_of old.times ≤ moment_of new.times → moment_of new.times ≤ moment_of old.times + 1
      → ((image : Image) → IsTrue tells → target image → told_target image)
      → (IsTrue tells → IsKnown name old × IsKnown name new
      × Elapses (moment_of old.times) (moment_of new.times) (images_since_of name old.past old.times) (images_since_of name new.past new.times) target)
      → Elapses (moment_of old.times) (moment_of new.times) (images_since tells name old) (images_since tells name new) told_target
  as_elapses target told_target later by_one gives law = record {
    later = later;
    by_one = by_one;
    nothing_else = λ t image le left.
        let l = law left.0 in
        ⊎_elim
        (λ was. inl (left.0, inr (l.0, was)))
        (λ is. inr (gives image left.0 is))
        (l.2.nothing_else t image le (to_folder_since name new tells t image l.1 left));
    keeps = λ t image le left.
        let l = law left.0 in
        (left.0, inr (l.1, l.2.keeps t image le (to_folder_since name old tells t image l.0 left)));
  }

-- the same disk as far as its folder tells
module _ (tells : Bool) (name : Kind → ℕ → List ℕ) (s now : State) (same : IsTrue tells → now ≡ s) (times : now.times ≡ s.times) where
  known_same : (IsTrue tells → IsKnown name s) → IsTrue tells → IsKnown name now
  known_same known told = subst (λ (n : State). IsKnown name n) (sym (same told)) (known told)

  reading_same : IsTrue tells → reading name now ≡ reading name s
  reading_same told = ap (λ (n : State). reading name n) (same told)

  images_same : (image : Image) → images tells name now image → images tells name s image
  images_same image left = subst (λ (n : State). images tells name n image) (same left.0) left

  same_elapses : (target : Image → Type 0)
      → Elapses (moment_of s.times) (moment_of now.times) (images_since tells name s) (images_since tells name now) target
  same_elapses target = record {
    later = omega (arith, ap moment_of times);
    by_one = omega (arith, ap moment_of times);
    nothing_else = λ t image le left. inl (subst (λ (n : State). images_since tells name n t image) (same left.0) left);
    keeps = λ t image le left. subst (λ (n : State). images_since tells name n t image) (sym (same left.0)) left;
  }

-- a folder that was only looked at
at_past : (tells : Bool) (s : State) (past : FolderPast) → (IsTrue tells → past ≡ s.past) → IsTrue tells → record s { past = past } ≡ s
at_past tells s past same told = λ i. record s { past = same told i }

-- ---- calls

-- what is known of an image is known of the reading
pub known_reading : (name : Kind → ℕ → List ℕ) (s : State) (image : Image) (gave_up : Bool) (doubts : Kind → Option ℕ)
    → Knows name s.past (known_of s.warc s.cdxj) gave_up doubts s.times image → reading name s ≡ image
unfolding reading
known_reading name s image gave_up doubts knows = reading_is name s.past (known_of s.warc s.cdxj) image knows.is.seen knows.numbers knows.no_fewer knows.one_more

pub is_known : (name : Kind → ℕ → List ℕ) (s : State) (image : Image) → Knows name s.past (known_of s.warc s.cdxj) s.trust.gave_up (doubts_of s.trust) s.times image
    → (s.trust.gave_up ≡ false → AreTorn name s.past s.trust)
    → ((kind : Kind) → IsFurther (further_of s.trust kind) s.past (name kind (known_of s.warc s.cdxj kind))) → IsKnown name s
is_known name s image knows torn further = record {
  knows = subst (λ (i : Image). Knows name s.past (known_of s.warc s.cdxj) s.trust.gave_up (doubts_of s.trust) s.times i)
      (sym (known_reading name s image s.trust.gave_up (doubts_of s.trust) knows)) knows;
  torn = torn;
  further = further;
}

-- where there is no file that was to be made, the folder has none of the next number, and all are known
pub absent_is_none : (name : Kind → ℕ → List ℕ) (s : State) (kind : Kind) → IsKnown name s → further_of s.trust kind ≡ Absent
    → contents_of s.past (name kind (known_of s.warc s.cdxj kind)) ≡ None
absent_is_none name s kind known absent = subst (λ (f : Further). IsFurther f s.past (name kind (known_of s.warc s.cdxj kind))) absent (known.further kind)

pub counted : (name : Kind → ℕ → List ℕ) (s : State) (kind : Kind) → IsKnown name s → further_of s.trust kind ≡ Absent
    → file_count (reading name s) kind ≡ known_of s.warc s.cdxj kind
counted name s kind known absent =
    let number : ℕ = known_of s.warc s.cdxj kind in
    let none : contents_of s.past (name kind number) ≡ None = absent_is_none name s kind known absent in
    ⊎_elim
    (λ more. absurd (none-some (file_of (reading name s) kind number) (sym none ∙ known.knows.is.seen.there kind number more)))
    (λ all. omega (arith, all, known.knows.no_fewer kind))
    (cases_lt number (file_count (reading name s) kind))

-- the trust that is left: nothing else is known of files that were to be made; it wasn't given up before, nothing that was in doubt was forgotten, and what is
-- known of files is so
pub record TrustStays (name : Kind → ℕ → List ℕ) (old : Trust) (past : FolderPast) (new : Trust) : Type 0 where
  pub same : (k : Kind) → further_of new k ≡ further_of old k
  pub going : new.gave_up ≡ false → (old.gave_up ≡ false) × ((m : List ℕ) → IsInDoubt name (doubts_of old) m → IsInDoubt name (doubts_of new) m) × AreTorn name past new

-- what is known of a file that was to be made, after deeds on one that the disk knows of
pub further_stays : (name : Kind → ℕ → List ℕ) → NamesApart name → (kind : Kind) (file : ℕ) (s : State) (trust : Trust) (deeds : List FileDeed) → IsKnown name s
    → file < known_of s.warc s.cdxj kind → ((k : Kind) → further_of trust k ≡ further_of s.trust k)
    → (k : Kind) → IsFurther (further_of trust k) (done_to s.past (name kind file) deeds) (name k (known_of s.warc s.cdxj k))
further_stays name apart kind file s trust deeds known ours same k =
    let number : ℕ = known_of s.warc s.cdxj k in
    subst (λ (f : Further). IsFurther f (done_to s.past (name kind file) deeds) (name k number)) (sym (same k))
    (further_done (further_of s.trust k) s.past (name kind file) (name k number) deeds
    (apart kind file k number (omega (arith, ours, known.knows.numbers kind)) (known.knows.numbers k) (is_apart k))
    (known.further k))
  where
    is_apart : (k : Kind) → IsApart kind file k (known_of s.warc s.cdxj k)
    is_apart k =
        ⊎_elim
        (λ one. inr (λ e. omega (arith, e, ours, ap (known_of s.warc s.cdxj) one)))
        (λ differs. inl differs)
        (same_kind_or_other k kind)

-- what is known with less trust
knows_still : (name : Kind → ℕ → List ℕ) (past : FolderPast) (known : Kind → ℕ) (old new : Trust) (times : Times) (image : Image)
    → Knows name past known old.gave_up (doubts_of old) times image → TrustStays name old past new → Knows name past known new.gave_up (doubts_of new) times image
knows_still name past known old new times image knows stays = record {
  is = knows.is;
  timed = knows.timed;
  numbers = knows.numbers;
  no_fewer = knows.no_fewer;
  one_more = knows.one_more;
  named = knows.named;
  sure = λ goes n. ⊎_elim (λ doubt. inl ((stays.going goes).1 n doubt)) (λ sure. inr sure) (knows.sure (stays.going goes).0 n);
}

-- a write, however it ended
module _ (tells : Bool) (name : Kind → ℕ → List ℕ) (apart : NamesApart name) (kind : Kind) (file at : ℕ) (bytes : List ℕ) (old : State) (past : FolderPast) (trust : Trust)
    (law : IsTrue tells → IsKnown name old × (file < known_of old.warc old.cdxj kind) × WritesWithin (name kind file) at (length bytes) old.past past)
    (stays : IsTrue tells → TrustStays name old.trust past trust) where
  there : (told : IsTrue tells) → file < file_count (reading name old) kind
  there told = omega (arith, (law told).1, (law told).0.knows.no_fewer kind)

  left : IsTrue tells → WriteLeaves name kind file at (length bytes) old.past past (known_of old.warc old.cdxj) old.trust.gave_up (doubts_of old.trust) old.times (reading name old)
  left told =
      write_leaves name apart kind file at (length bytes) old.past past (known_of old.warc old.cdxj) old.trust.gave_up (doubts_of old.trust) old.times (reading name old)
      (law told).0.knows (there told) (law told).2

  read_now : (told : IsTrue tells) → reading name (trusted trust (next old past)) ≡ with_file (reading name old) kind file (left told).bytes
  read_now told =
      known_reading name (trusted trust (next old past)) (with_file (reading name old) kind file (left told).bytes) old.trust.gave_up (doubts_of old.trust) (left told).knows

  known_now : IsTrue tells → IsKnown name (trusted trust (next old past))
  known_now told =
      is_known name (trusted trust (next old past)) (with_file (reading name old) kind file (left told).bytes)
      (knows_still name past (known_of old.warc old.cdxj) old.trust trust (goes_on old.times past) (with_file (reading name old) kind file (left told).bytes) (left told).knows (stays told))
      (λ goes. ((stays told).going goes).2)
      (subst (λ (p : FolderPast). (k : Kind) → IsFurther (further_of trust k) p (name k (known_of old.warc old.cdxj k))) (sym (law told).2.whole)
      (further_stays name apart kind file old trust (law told).2.deeds (law told).0 (law told).1 (stays told).same))

  pub wrote : {E : Type 0} (result : Result ⊤ E)
      → (IsTrue tells → OnOk result (IsWriting (name kind file) at bytes (length bytes) old.past past))
      → WritesAt tells name kind file at bytes old (trusted trust (next old past)) result
  wrote {E} result done = record {
    known = λ told. known_now told;
    written = λ told. on_ok result (done told) (λ writing.
        read_now told ∙ ap (λ (b : List ℕ). with_file (reading name old) kind file b)
        (written_is_read name kind file at bytes (left told).bytes old.past past (reading name old) (law told).0.knows.is (there told) (left told).knows.is writing));
    partial = λ told. on_err result (record { bytes = (left told).bytes; step = (left told).torn; whole = read_now told });
    crash = as_follows tells name old (trusted trust (next old past)) (OnFile kind file (Torn at (length bytes))) (λ told. ((law told).0, known_now told, (left told).follows));
    time = as_elapses tells name old (trusted trust (next old past)) (images_of name past) (images tells name (trusted trust (next old past))) (omega arith) (omega arith)
        (λ image told is. (told, inr (known_now told, is)))
        (λ told. ((law told).0, known_now told, (left told).time));
  }
    where
      on_ok : {P Q : Type 0} (r : Result ⊤ E) → OnOk r P → (P → Q) → OnOk r Q
      on_ok (Ok x) holds gives = gives holds
      on_ok (Err e) holds gives = tt

      on_err : {P : Type 0} (r : Result ⊤ E) → P → OnErr r P
      on_err (Ok x) holds = tt
      on_err (Err e) holds = holds

-- a sync that was done
module _ (tells : Bool) (name : Kind → ℕ → List ℕ) (kind : Kind) (file : ℕ) (old : State) (past : FolderPast) (trust : Trust)
    (known : IsTrue tells → IsKnown name old)
    (done : IsTrue tells → SyncDone name kind file old.past past (known_of old.warc old.cdxj) (doubts_of trust) old.times (reading name old))
    (goes : trust.gave_up ≡ false) (torn : IsTrue tells → AreTorn name past trust)
    (further : IsTrue tells → (k : Kind) → IsFurther (further_of trust k) past (name k (known_of old.warc old.cdxj k))) where
  synced_known : IsTrue tells → IsKnown name (trusted trust (next old past))
  synced_known told =
      is_known name (trusted trust (next old past)) (reading name old)
      (subst (λ (b : Bool). Knows name past (known_of old.warc old.cdxj) b (doubts_of trust) (goes_on old.times past) (reading name old)) (sym goes) (done told).knows)
      (λ g. torn told) (further told)

  pub synced : {E : Type 0} → Syncs {E = E} tells name kind file old (trusted trust (next old past)) (Ok tt)
  synced {E} = record {
    known = λ told. synced_known told;
    durable = as_leaves tells name old (trusted trust (next old past)) (HasFile kind file (file_of (reading name old) kind file)) (λ told. (synced_known told, (done told).durable));
    same = λ told. known_reading name (trusted trust (next old past)) (reading name old) false (doubts_of trust) (done told).knows;
    crash = as_within tells name old (trusted trust (next old past)) (λ told. (known told, synced_known told, (done told).within));
    time = as_elapses tells name old (trusted trust (next old past)) (images_of name past) (images tells name (trusted trust (next old past))) (omega arith) (omega arith)
        (λ image told is. (told, inr (synced_known told, is)))
        (λ told. (known told, synced_known told, (done told).time));
  }

-- a sync that failed
module _ (tells : Bool) (name : Kind → ℕ → List ℕ) (kind : Kind) (file : ℕ) (old : State) (past : FolderPast) (trust : Trust)
    (known : IsTrue tells → IsKnown name old)
    (missed : IsTrue tells → SyncsLeave name old.past past (known_of old.warc old.cdxj) trust.gave_up (doubts_of trust) old.times (reading name old))
    (torn : IsTrue tells → trust.gave_up ≡ false → AreTorn name past trust)
    (further : IsTrue tells → (k : Kind) → IsFurther (further_of trust k) past (name k (known_of old.warc old.cdxj k))) where
  missed_known : IsTrue tells → IsKnown name (trusted trust (next old past))
  missed_known told = is_known name (trusted trust (next old past)) (reading name old) (missed told).knows (torn told) (further told)

  pub sync_missed : {E : Type 0} (e : E) → Syncs tells name kind file old (trusted trust (next old past)) (Err e)
  sync_missed e = record {
    known = λ told. missed_known told;
    durable = tt;
    same = λ told. known_reading name (trusted trust (next old past)) (reading name old) trust.gave_up (doubts_of trust) (missed told).knows;
    crash = as_within tells name old (trusted trust (next old past)) (λ told. (known told, missed_known told, (missed told).within));
    time = as_elapses tells name old (trusted trust (next old past)) (images_of name past) (images tells name (trusted trust (next old past))) (omega arith) (omega arith)
        (λ image told is. (told, inr (missed_known told, is)))
        (λ told. (known told, missed_known told, (missed told).time));
  }

-- ---- a file that is made

-- a call that failed, and may have made a file
module _ (tells : Bool) (name : Kind → ℕ → List ℕ) (apart : NamesApart name) (kind : Kind) (old : State) (past : FolderPast) (trust : Trust)
    (law : IsTrue tells → IsKnown name old × MakesInPart (name kind (known_of old.warc old.cdxj kind)) old.past past)
    (goes : old.trust.gave_up ≡ false) (absent : further_of old.trust kind ≡ Absent) (ranges : (k : Kind) → range_of trust k ≡ range_of old.trust k)
    (further : IsTrue tells → (k : Kind) → IsFurther (further_of trust k) past (name k (known_of old.warc old.cdxj k))) where
  unmade : IsTrue tells → CreateFailed name kind old.past past (known_of old.warc old.cdxj) (doubts_of old.trust) old.times (reading name old)
  unmade told =
      let known = subst (λ (b : Bool). Knows name old.past (known_of old.warc old.cdxj) b (doubts_of old.trust) old.times (reading name old)) goes (law told).0.knows in
      let all = counted name old kind (law told).0 absent in
      create_failed name apart kind old.past (known_of old.warc old.cdxj) (doubts_of old.trust) old.times (reading name old) known all past
      (subst (λ (n : ℕ). MakesInPart (name kind n) old.past past) (sym all) (law told).1)

  unmade_torn : (told : IsTrue tells) → AreTorn name past trust
  unmade_torn told =
      same_torn name past old.trust trust ranges
      (missed_are_torn name (name kind (known_of old.warc old.cdxj kind)) old.past past old.trust (law told).1
      (absent_is_none name old kind (law told).0 absent) ((law told).0.torn goes))

  unmade_known : IsTrue tells → IsKnown name (trusted trust (next old past))
  unmade_known told =
      is_known name (trusted trust (next old past)) (unmade told).image
      (record {
        is = (unmade told).knows.is;
        timed = (unmade told).knows.timed;
        numbers = (unmade told).knows.numbers;
        no_fewer = (unmade told).knows.no_fewer;
        one_more = (unmade told).knows.one_more;
        named = (unmade told).knows.named;
        sure = λ still n. ⊎_elim (λ doubt. inl (same_doubts name old.trust trust ranges n doubt)) (λ sure. inr sure) ((unmade told).knows.sure refl n);
      })
      (λ still. unmade_torn told) (further told)

  pub create_missed : {E : Type 0} (e : E) → Creates tells name kind old (trusted trust (next old past)) (Err e)
  create_missed e = record {
    known = λ told. unmade_known told;
    number = λ told. tt;
    created = λ told. tt;
    partial = λ told.
        subst (MayCreate kind (file_count (reading name old) kind) (reading name old))
        (sym (known_reading name (trusted trust (next old past)) (unmade told).image false (doubts_of old.trust) (unmade told).knows)) (unmade told).partial;
    crash = as_follows tells name old (trusted trust (next old past)) (MayCreate kind (file_count (reading name old) kind)) (λ told. ((law told).0, unmade_known told, (unmade told).follows));
    durable = tt;
    time = as_elapses tells name old (trusted trust (next old past)) (Stepped (MayCreate kind (file_count (reading name old) kind)) (images_of name old.past))
        (Stepped (MayCreate kind (file_count (reading name old) kind)) (images tells name old)) (omega arith) (omega arith)
        (λ image told is. (is.0, (told, inr ((law told).0, is.1)), is.2))
        (λ told. ((law told).0, unmade_known told, (unmade told).time));
  }

-- counts with one file more
pub grown_kind : (kind : Kind) (s : State) → known_of (grown kind s).warc (grown kind s).cdxj kind ≡ known_of s.warc s.cdxj kind + 1
grown_kind Warc s = refl
grown_kind Cdxj s = refl

pub grown_other : (kind : Kind) (s : State) (k : Kind) → k ≢ kind → known_of (grown kind s).warc (grown kind s).cdxj k ≡ known_of s.warc s.cdxj k
grown_other Warc s Warc differs = absurd (differs refl)
grown_other Warc s Cdxj differs = refl
grown_other Cdxj s Warc differs = refl
grown_other Cdxj s Cdxj differs = absurd (differs refl)

pub grown_numbers : (kind : Kind) (s : State) → known_of s.warc s.cdxj kind + 1 < 2 ^ 32 → ((k : Kind) → known_of s.warc s.cdxj k < 2 ^ 32)
    → (k : Kind) → known_of (grown kind s).warc (grown kind s).cdxj k < 2 ^ 32
grown_numbers Warc s room numbers Warc = room
grown_numbers Warc s room numbers Cdxj = numbers Cdxj
grown_numbers Cdxj s room numbers Warc = numbers Warc
grown_numbers Cdxj s room numbers Cdxj = room

-- a file more, the deeds by which it was made, and the trust that is left
pub grown_trusted : (kind : Kind) (s : State) (past : FolderPast) (trust : Trust) → grown kind (trusted trust (next s past)) ≡ trusted trust (next (grown kind s) past)
grown_trusted Warc s past trust = refl
grown_trusted Cdxj s past trust = refl

pub grown_times : (kind : Kind) (s : State) → (grown kind s).times ≡ s.times
grown_times Warc s = refl
grown_times Cdxj s = refl

-- a call that was done
module _ (tells : Bool) (name : Kind → ℕ → List ℕ) (apart : NamesApart name) (kind : Kind) (old : State) (past : FolderPast) (trust : Trust)
    (law : IsTrue tells → IsKnown name old × (past ≡ made_durably (name kind (known_of old.warc old.cdxj kind)) old.past))
    (goes : old.trust.gave_up ≡ false) (absent : further_of old.trust kind ≡ Absent) (room : known_of old.warc old.cdxj kind + 1 < 2 ^ 32)
    (stays : IsTrue tells → ((m : List ℕ) → IsInDoubt name (doubts_of old.trust) m → IsInDoubt name (doubts_of trust) m) × AreTorn name past trust
    × ((k : Kind) → IsFurther (further_of trust k) past (name k (known_of (grown kind old).warc (grown kind old).cdxj k)))) where
  made_all : (told : IsTrue tells) → file_count (reading name old) kind ≡ known_of old.warc old.cdxj kind
  made_all told = counted name old kind (law told).0 absent

  made_then : IsTrue tells → Knows name old.past (known_of old.warc old.cdxj) false (doubts_of old.trust) old.times (reading name old)
  made_then told = subst (λ (b : Bool). Knows name old.past (known_of old.warc old.cdxj) b (doubts_of old.trust) old.times (reading name old)) goes (law told).0.knows

  made_done : IsTrue tells → CreateDone name kind old.past past (known_of (grown kind old).warc (grown kind old).cdxj) (doubts_of old.trust) old.times (reading name old)
  made_done told =
      create_done name apart kind old.past (known_of old.warc old.cdxj) (doubts_of old.trust) old.times (reading name old) (made_then told) (made_all told) past (known_of (grown kind old).warc (grown kind old).cdxj)
      (subst (λ (n : ℕ). past ≡ made_durably (name kind n) old.past) (sym (made_all told)) (law told).1)
      (grown_numbers kind old room (made_then told).numbers) (grown_kind kind old) (grown_other kind old)

  made_knows : IsTrue tells
      → Knows name past (known_of (grown kind old).warc (grown kind old).cdxj) trust.gave_up (doubts_of trust) (goes_on (grown kind old).times past) (with_new (reading name old) kind)
  made_knows told =
      let done = subst (λ (t : Times). Knows name past (known_of (grown kind old).warc (grown kind old).cdxj) false (doubts_of old.trust) (goes_on t past) (with_new (reading name old) kind))
      (sym (grown_times kind old)) (made_done told).knows in
      record {
        is = done.is;
        timed = done.timed;
        numbers = done.numbers;
        no_fewer = done.no_fewer;
        one_more = done.one_more;
        named = done.named;
        sure = λ still n. ⊎_elim (λ doubt. inl ((stays told).0 n doubt)) (λ sure. inr sure) (done.sure refl n);
      }

  further_grown : (told : IsTrue tells) → (k : Kind) → IsFurther (further_of trust k) past (name k (known_of (grown kind old).warc (grown kind old).cdxj k))
  further_grown told = (stays told).2

  made_known : IsTrue tells → IsKnown name (trusted trust (next (grown kind old) past))
  made_known told = is_known name (trusted trust (next (grown kind old) past)) (with_new (reading name old) kind) (made_knows told) (λ g. (stays told).1) (further_grown told)

  made_moments : moment_of (goes_on (grown kind old).times past) ≡ moment_of old.times + 1
  made_moments = omega (arith, ap (λ (t : Times). moment_of t) (grown_times kind old))

  made_time : IsTrue tells → Elapses (moment_of old.times) (moment_of (goes_on (grown kind old).times past)) (images_since_of name old.past old.times)
      (images_since_of name past (goes_on (grown kind old).times past)) (Stepped (MayCreate kind (file_count (reading name old) kind)) (images_of name old.past))
  made_time told =
      subst (λ (t : Times). Elapses (moment_of old.times) (moment_of (goes_on t past)) (images_since_of name old.past old.times)
      (images_since_of name past (goes_on t past)) (Stepped (MayCreate kind (file_count (reading name old) kind)) (images_of name old.past))) (sym (grown_times kind old)) (made_done told).time

  pub create_made : {E : Type 0} → Creates {E = E} tells name kind old (trusted trust (next (grown kind old) past)) (Ok (known_of old.warc old.cdxj kind))
  create_made {E} = record {
    known = λ told. made_known told;
    number = λ told. sym (made_all told);
    created = λ told. known_reading name (trusted trust (next (grown kind old) past)) (with_new (reading name old) kind) trust.gave_up (doubts_of trust) (made_knows told);
    partial = λ told. tt;
    crash = as_follows tells name old (trusted trust (next (grown kind old) past)) (MayCreate kind (file_count (reading name old) kind)) (λ told. ((law told).0, made_known told, (made_done told).follows));
    durable = as_leaves tells name old (trusted trust (next (grown kind old) past)) (HasFile kind (known_of old.warc old.cdxj kind) []) (λ told. (
      made_known told,
      subst (λ (n : ℕ). Leaves (images_of name past) (HasFile kind n [])) (made_all told) (made_done told).durable,
    ));
    time = as_elapses tells name old (trusted trust (next (grown kind old) past)) (Stepped (MayCreate kind (file_count (reading name old) kind)) (images_of name old.past))
        (Stepped (MayCreate kind (file_count (reading name old) kind)) (images tells name old)) (omega (arith, made_moments)) (omega (arith, made_moments))
        (λ image told is. (is.0, (told, inr ((law told).0, is.1)), is.2))
        (λ told. ((law told).0, made_known told, made_time told));
  }

-- ---- a cut

-- a cut that was done or failed, of which some bytes weren't taken
module _ (tells : Bool) (name : Kind → ℕ → List ℕ) (apart : NamesApart name) (kind : Kind) (file len : ℕ) (old : State) (past : FolderPast) (trust : Trust)
    (law : IsTrue tells → IsKnown name old × (file < known_of old.warc old.cdxj kind))
    (stays : IsTrue tells → TrustStays name old.trust past trust) where
  pub cut_ended : {E : Type 0} (result : Result ⊤ E)
      → (IsTrue tells → (rest : ℕ) × (past ≡ did_to old.past (name kind file) (Shortened (len + rest) rest)) × OnOk result (rest ≡ 0))
      → Cuts tells name kind file len old (trusted trust (next old past)) result
  cut_ended {E} result part = record {
    known = λ told. known_now told;
    cut = λ told. on_ok result (part told).2 (λ none.
        let all : len + (part told).0 ≡ len = omega (arith, none) in
        read_now told ∙ ap (λ (n : ℕ). with_file (reading name old) kind file (take n (file_of (reading name old) kind file))) all);
    partial = λ told. on_err result (record {
      bytes = take (len + (part told).0) (file_of (reading name old) kind file);
      step = (left told).cut;
      whole = read_now told;
    });
    crash = as_follows tells name old (trusted trust (next old past)) (OnFile kind file (Cut len)) (λ told. ((law told).0, known_now told, (left told).follows));
    time = as_elapses tells name old (trusted trust (next old past)) (images_of name past) (images tells name (trusted trust (next old past))) (omega arith) (omega arith)
        (λ image told is. (told, inr (known_now told, is)))
        (λ told. ((law told).0, known_now told, (left told).time));
  }
    where
      there : (told : IsTrue tells) → file < file_count (reading name old) kind
      there told = omega (arith, (law told).1, (law told).0.knows.no_fewer kind)

      left : (told : IsTrue tells) → CutLeaves name kind file len (part told).0 old.past past (known_of old.warc old.cdxj) old.trust.gave_up (doubts_of old.trust) old.times (reading name old)
      left told = cut_leaves name apart kind file len (part told).0 old.past past (known_of old.warc old.cdxj) old.trust.gave_up (doubts_of old.trust) old.times (reading name old)
          (law told).0.knows (there told) (part told).1

      read_now : (told : IsTrue tells) → reading name (trusted trust (next old past)) ≡ with_file (reading name old) kind file (take (len + (part told).0) (file_of (reading name old) kind file))
      read_now told = known_reading name (trusted trust (next old past)) (with_file (reading name old) kind file (take (len + (part told).0) (file_of (reading name old) kind file)))
          old.trust.gave_up (doubts_of old.trust)
          (cut_leaves name apart kind file len (part told).0 old.past past (known_of old.warc old.cdxj) old.trust.gave_up (doubts_of old.trust) old.times (reading name old)
          (law told).0.knows (there told) (part told).1).knows

      known_now : IsTrue tells → IsKnown name (trusted trust (next old past))
      known_now told = is_known name (trusted trust (next old past)) (with_file (reading name old) kind file (take (len + (part told).0) (file_of (reading name old) kind file)))
          (knows_still name past (known_of old.warc old.cdxj) old.trust trust (goes_on old.times past) (with_file (reading name old) kind file (take (len + (part told).0) (file_of (reading name old) kind file)))
          (cut_leaves name apart kind file len (part told).0 old.past past (known_of old.warc old.cdxj) old.trust.gave_up (doubts_of old.trust) old.times (reading name old)
          (law told).0.knows (there told) (part told).1).knows (stays told))
          (λ goes. ((stays told).going goes).2)
          (subst (λ (p : FolderPast). (k : Kind) → IsFurther (further_of trust k) p (name k (known_of old.warc old.cdxj k))) (sym (part told).1)
          (further_stays name apart kind file old trust (Shortened (len + (part told).0) (part told).0 ∷ []) (law told).0 (law told).1 (stays told).same))

      on_ok : {P Q : Type 0} (r : Result ⊤ E) → OnOk r P → (P → Q) → OnOk r Q
      on_ok (Ok x) holds gives = gives holds
      on_ok (Err e) holds gives = tt

      on_err : {P : Type 0} (r : Result ⊤ E) → P → OnErr r P
      on_err (Ok x) holds = tt
      on_err (Err e) holds = holds

-- ---- calls that weren't begun

pub write_not_begun : {E : Type 0} (tells : Bool) (name : Kind → ℕ → List ℕ) (kind : Kind) (file at : ℕ) (bytes : List ℕ) (s now : State) (e : E)
    → (IsTrue tells → now ≡ s) → now.times ≡ s.times → (IsTrue tells → IsKnown name s) → WritesAt tells name kind file at bytes s now (Err e)
write_not_begun tells name kind file at bytes s now e same times known = record {
  known = known_same tells name s now same times known;
  written = λ told. tt;
  partial = λ told.
      subst (OnFile kind file (Torn at (length bytes)) (reading name s)) (sym (reading_same tells name s now same times told))
      (on_file_none kind file (Torn at (length bytes)) (reading name s) (torn_none at (length bytes) (file_of (reading name s) kind file)));
  crash = λ image left. (
    image,
    images_same tells name s now same times image left,
    on_file_none kind file (Torn at (length bytes)) image (torn_none at (length bytes) (file_of image kind file)),
  );
  time = same_elapses tells name s now same times (images tells name now);
}

pub cut_not_begun : {E : Type 0} (tells : Bool) (name : Kind → ℕ → List ℕ) (kind : Kind) (file len : ℕ) (s now : State) (e : E)
    → (IsTrue tells → now ≡ s) → now.times ≡ s.times → (IsTrue tells → IsKnown name s) → Cuts tells name kind file len s now (Err e)
cut_not_begun tells name kind file len s now e same times known = record {
  known = known_same tells name s now same times known;
  cut = λ told. tt;
  partial = λ told.
      subst (OnFile kind file (Cut len) (reading name s)) (sym (reading_same tells name s now same times told))
      (on_file_none kind file (Cut len) (reading name s) (cut_none len (file_of (reading name s) kind file)));
  crash = λ image left. (
    image,
    images_same tells name s now same times image left,
    on_file_none kind file (Cut len) image (cut_none len (file_of image kind file)),
  );
  time = same_elapses tells name s now same times (images tells name now);
}

pub sync_not_begun : {E : Type 0} (tells : Bool) (name : Kind → ℕ → List ℕ) (kind : Kind) (file : ℕ) (s now : State) (e : E)
    → (IsTrue tells → now ≡ s) → now.times ≡ s.times → (IsTrue tells → IsKnown name s) → Syncs tells name kind file s now (Err e)
sync_not_begun tells name kind file s now e same times known = record {
  known = known_same tells name s now same times known;
  durable = tt;
  same = reading_same tells name s now same times;
  crash = images_same tells name s now same times;
  time = same_elapses tells name s now same times (images tells name now);
}

-- what holds of each failure holds of an answer that is one
pub at_error : {T E : Type 0} (P : Result T E → Type 0) (result : Result T E) → IsErr result → ((e : E) → P (Err e)) → P result
at_error P (Ok value) is each = absurd (true≢false (sym is))
at_error P (Err e) is each = each e

-- a call that changed nothing
pub looked : (tells : Bool) (name : Kind → ℕ → List ℕ) (s : State) (past : FolderPast) → (IsTrue tells → past ≡ s.past) → (IsTrue tells → IsKnown name s)
    → Looks tells name s (record s { past = past })
looked tells name s past same known = record {
  known = known_same tells name s (record s { past = past }) (at_past tells s past same) refl known;
  same = reading_same tells name s (record s { past = past }) (at_past tells s past same) refl;
  crash = images_same tells name s (record s { past = past }) (at_past tells s past same) refl;
  time = same_elapses tells name s (record s { past = past }) (at_past tells s past same) refl (images tells name (record s { past = past }));
}

-- the bytes of a file in the folder are those of the reading
pub bytes_read : (name : Kind → ℕ → List ℕ) (s : State) (kind : Kind) (file : ℕ) → IsKnown name s → file < file_count (reading name s) kind
    → bytes_of s.past (name kind file) ≡ file_of (reading name s) kind file
bytes_read name s kind file known there = ap (λ (o : Option (List ℕ)). unwrap_or o []) (known.knows.is.seen.there kind file there)

-- ---- opening

-- a folder that was counted and then synced is known
pub opened : (name : Kind → ℕ → List ℕ) (warc cdxj : ℕ) (old new : FolderPast) (trust : Trust) (times : Times)
    → IsCounted name old warc cdxj
    → new ≡ did (did old (SyncedFolder true)) (SyncedAround true)
    → trust ≡ record { gave_up = false; warc = None; cdxj = None; further_warc = Absent; further_cdxj = Absent }
    → times ≡ record { made = length new.deeds; begun = [] }
    → IsKnown name (record { past = new; warc = warc; cdxj = cdxj; trust = trust; times = times })
opened name warc cdxj old new trust times counted whole fresh began =
    let known = opened_knows name old (known_of warc cdxj) (doubts_of trust) counted.image counted.unfailed counted.seen counted.numbers counted.counts in
    is_known name (record { past = new; warc = warc; cdxj = cdxj; trust = trust; times = times }) counted.image
    (subst (λ (b : Bool). Knows name new (known_of warc cdxj) b (doubts_of trust) times counted.image) (ap (λ (t : Trust). t.gave_up) (sym fresh))
    (subst (λ (t : Times). Knows name new (known_of warc cdxj) false (doubts_of trust) t counted.image) (sym began)
    (subst (λ (p : FolderPast). Knows name p (known_of warc cdxj) false (doubts_of trust) (record { made = length p.deeds; begun = [] }) counted.image) (sym whole) known)))
    (λ goes. subst (AreTorn name new) (sym fresh) none_torn)
    (λ kind. subst (λ (t : Trust). IsFurther (further_of t kind) new (name kind (known_of warc cdxj kind))) (sym fresh)
    (absent kind (ap (λ (p : FolderPast). contents_of p (name kind (known_of warc cdxj kind))) whole
    ∙ counted.seen.no_more kind (known_of warc cdxj kind) (omega (arith, counted.counts kind)) (counted.numbers kind))))
  where
    absent : (kind : Kind) → contents_of new (name kind (known_of warc cdxj kind)) ≡ None
        → IsFurther (further_of (record { gave_up = false; warc = None; cdxj = None; further_warc = Absent; further_cdxj = Absent }) kind) new (name kind (known_of warc cdxj kind))
    absent Warc none = none
    absent Cdxj none = none

    none_torn : AreTorn name new (record { gave_up = false; warc = None; cdxj = None; further_warc = Absent; further_cdxj = Absent })
    none_torn Warc = tt
    none_torn Cdxj = tt

-- syncs of names leave what is seen
pub still_seen : (name : Kind → ℕ → List ℕ) (old new : FolderPast) (image : Image)
    → new ≡ did (did old (SyncedFolder true)) (SyncedAround true) → IsSeen name (contents_of new) image → IsSeen name (contents_of old) image
still_seen name old new image whole seen = subst (λ (p : FolderPast). IsSeen name (contents_of p) image) whole seen

-- ---- a call behind whose deeds the folder was only looked at

-- a file was made, and that isn't acknowledged
pub create_unacknowledged : {E : Type 0} (tells : Bool) (name : Kind → ℕ → List ℕ) (kind : Kind) (old new : State) (n : ℕ) (e : E)
    → Creates {E = E} tells name kind old new (Ok n) → Creates {E = E} tells name kind old new (Err e)
create_unacknowledged tells name kind old new n e made = record {
  known = made.known;
  number = λ told. tt;
  created = λ told. tt;
  partial = λ told. inr (refl, made.created told);
  crash = made.crash;
  durable = tt;
  time = made.time;
}

-- a file was synced, and that isn't acknowledged
pub sync_unacknowledged : {E : Type 0} (tells : Bool) (name : Kind → ℕ → List ℕ) (kind : Kind) (file : ℕ) (old new : State) (e : E)
    → Syncs {E = E} tells name kind file old new (Ok tt) → Syncs {E = E} tells name kind file old new (Err e)
sync_unacknowledged tells name kind file old new e was_synced = record {
  known = was_synced.known;
  durable = tt;
  same = was_synced.same;
  crash = was_synced.crash;
  time = was_synced.time;
}

-- time as it is seen in a folder that has the same past
time_behind : (tells : Bool) (name : Kind → ℕ → List ℕ) (old new : State) (past : FolderPast) (target : Image → Type 0) → (IsTrue tells → past ≡ new.past)
    → Elapses (moment_of old.times) (moment_of new.times) (images_since tells name old) (images_since tells name new) target
    → Elapses (moment_of old.times) (moment_of new.times) (images_since tells name old) (images_since tells name (record new { past = past })) target
time_behind tells name old new past target same time = record {
  later = time.later;
  by_one = time.by_one;
  nothing_else = λ t image le left.
      time.nothing_else t image le (subst (λ (p : FolderPast). images_since tells name (record new { past = p }) t image) (same left.0) left);
  keeps = λ t image le left.
      subst (λ (p : FolderPast). images_since tells name (record new { past = p }) t image) (sym (same left.0)) (time.keeps t image le left);
}

pub create_behind : {E : Type 0} (tells : Bool) (name : Kind → ℕ → List ℕ) (kind : Kind) (old new : State) (past : FolderPast) (result : Result ℕ E)
    → (IsTrue tells → past ≡ new.past) → Creates tells name kind old new result → Creates tells name kind old (record new { past = past }) result
create_behind {E} tells name kind old new past result same made = record {
  known = λ told. subst (λ (p : FolderPast). IsKnown name (record new { past = p })) (sym (same told)) (made.known told);
  number = made.number;
  created = λ told. subst (λ (p : FolderPast). OnOk result (reading name (record new { past = p }) ≡ with_new (reading name old) kind)) (sym (same told)) (made.created told);
  partial = λ told. subst (λ (p : FolderPast). OnErr result (MayCreate kind (file_count (reading name old) kind) (reading name old) (reading name (record new { past = p })))) (sym (same told)) (made.partial told);
  crash = λ image left. made.crash image (images_same tells name new (record new { past = past }) (at_past tells new past same) refl image left);
  durable = leaves result made.durable;
  time = time_behind tells name old new past (Stepped (MayCreate kind (file_count (reading name old) kind)) (images tells name old)) same made.time;
}
  where
    leaves : (r : Result ℕ E) → IfOk r (λ file. Leaves (images tells name new) (HasFile kind file []))
        → IfOk r (λ file. Leaves (images tells name (record new { past = past })) (HasFile kind file []))
    leaves (Ok file) holds = λ image left. holds image (images_same tells name new (record new { past = past }) (at_past tells new past same) refl image left)
    leaves (Err e) holds = tt

pub sync_behind : {E : Type 0} (tells : Bool) (name : Kind → ℕ → List ℕ) (kind : Kind) (file : ℕ) (old new : State) (past : FolderPast) (result : Result ⊤ E)
    → (IsTrue tells → past ≡ new.past) → Syncs tells name kind file old new result → Syncs tells name kind file old (record new { past = past }) result
sync_behind {E} tells name kind file old new past result same was_synced = record {
  known = λ told. subst (λ (p : FolderPast). IsKnown name (record new { past = p })) (sym (same told)) (was_synced.known told);
  durable = leaves result was_synced.durable;
  same = λ told. subst (λ (p : FolderPast). reading name (record new { past = p }) ≡ reading name old) (sym (same told)) (was_synced.same told);
  crash = λ image left. was_synced.crash image (images_same tells name new (record new { past = past }) (at_past tells new past same) refl image left);
  time = time_behind tells name old new past (images tells name (record new { past = past })) same (target_behind was_synced.time);
}
  where
    leaves : (r : Result ⊤ E) → OnOk r (Leaves (images tells name new) (HasFile kind file (file_of (reading name old) kind file)))
        → OnOk r (Leaves (images tells name (record new { past = past })) (HasFile kind file (file_of (reading name old) kind file)))
    leaves (Ok x) holds = λ image left. holds image (images_same tells name new (record new { past = past }) (at_past tells new past same) refl image left)
    leaves (Err e) holds = tt

    target_behind : Elapses (moment_of old.times) (moment_of new.times) (images_since tells name old) (images_since tells name new) (images tells name new)
        → Elapses (moment_of old.times) (moment_of new.times) (images_since tells name old) (images_since tells name new) (images tells name (record new { past = past }))
    target_behind time = record {
      later = time.later;
      by_one = time.by_one;
      nothing_else = λ t image le left.
          ⊎_elim
          (λ was. inl was)
          (λ is. inr (subst (λ (p : FolderPast). images tells name (record new { past = p }) image) (sym (same is.0)) is))
          (time.nothing_else t image le left);
      keeps = time.keeps;
    }

-- syncs by a call that only looks
pub looked_by : (tells : Bool) (name : Kind → ℕ → List ℕ) (old new : State) → (IsTrue tells → IsKnown name old × IsKnown name new) → (IsTrue tells → reading name new ≡ reading name old)
    → (IsTrue tells → Within (images_of name old.past) (images_of name new.past)) → moment_of new.times ≡ moment_of old.times + 1
    → (IsTrue tells → Elapses (moment_of old.times) (moment_of new.times) (images_since_of name old.past old.times) (images_since_of name new.past new.times) (images_of name new.past))
    → Looks tells name old new
looked_by tells name old new known same within moment time = record {
  known = λ told. (known told).1;
  same = same;
  crash = as_within tells name old new (λ told. ((known told).0, (known told).1, within told));
  time = as_elapses tells name old new (images_of name new.past) (images tells name new) (omega (arith, moment)) (omega (arith, moment))
      (λ image told is. (told, inr ((known told).1, is)))
      (λ told. ((known told).0, (known told).1, time told));
}

-- a look behind which the folder was only looked at, and one before which it was
pub looks_behind : (tells : Bool) (name : Kind → ℕ → List ℕ) (old new : State) (past : FolderPast) → (IsTrue tells → past ≡ new.past) → Looks tells name old new
    → Looks tells name old (record new { past = past })
looks_behind tells name old new past same looks = record {
  known = known_same tells name new (record new { past = past }) (at_past tells new past same) refl looks.known;
  same = λ told. reading_same tells name new (record new { past = past }) (at_past tells new past same) refl told ∙ looks.same told;
  crash = λ image left. looks.crash image (images_same tells name new (record new { past = past }) (at_past tells new past same) refl image left);
  time = time_behind tells name old new past (images tells name (record new { past = past })) same (record {
    later = looks.time.later;
    by_one = looks.time.by_one;
    nothing_else = λ t image le left.
        ⊎_elim
        (λ was. inl was)
        (λ is. inr (subst (λ (p : FolderPast). images tells name (record new { past = p }) image) (sym (same is.0)) is))
        (looks.time.nothing_else t image le left);
    keeps = looks.time.keeps;
  });
}

pub looks_before : (tells : Bool) (name : Kind → ℕ → List ℕ) (old new : State) (past : FolderPast) → (IsTrue tells → past ≡ old.past) → Looks tells name (record old { past = past }) new
    → Looks tells name old new
looks_before tells name old new past same looks = record {
  known = looks.known;
  same = λ told. looks.same told ∙ reading_same tells name old (record old { past = past }) (at_past tells old past same) refl told;
  crash = λ image left. images_same tells name old (record old { past = past }) (at_past tells old past same) refl image (looks.crash image left);
  time = record {
    later = looks.time.later;
    by_one = looks.time.by_one;
    nothing_else = λ t image le left.
        ⊎_elim
        (λ was. inl (subst (λ (p : FolderPast). images_since tells name (record old { past = p }) t image) (same was.0) was))
        (λ is. inr is)
        (looks.time.nothing_else t image le left);
    keeps = λ t image le left.
        looks.time.keeps t image le (subst (λ (p : FolderPast). images_since tells name (record old { past = p }) t image) (sym (same left.0)) left);
  };
}

-- nothing was made, by a disk of which the folder has the same past
pub create_not_begun : {E : Type 0} (tells : Bool) (name : Kind → ℕ → List ℕ) (kind : Kind) (s : State) (past : FolderPast) (e : E)
    → (IsTrue tells → past ≡ s.past) → (IsTrue tells → IsKnown name s) → Creates tells name kind s (record s { past = past }) (Err e)
create_not_begun tells name kind s past e same known = record {
  known = known_same tells name s (record s { past = past }) (at_past tells s past same) refl known;
  number = λ told. tt;
  created = λ told. tt;
  partial = λ told. inl (reading_same tells name s (record s { past = past }) (at_past tells s past same) refl told);
  crash = λ image left. (image, images_same tells name s (record s { past = past }) (at_past tells s past same) refl image left, inl refl);
  durable = tt;
  time = same_elapses tells name s (record s { past = past }) (at_past tells s past same) refl (Stepped (MayCreate kind (file_count (reading name s) kind)) (images tells name s));
}

-- where a file that was to be made isn't there nothing was done
pub nothing_made : (name : List ℕ) (old new : FolderPast) → contents_of new name ≡ None → MakesInPart name old new → new ≡ old
nothing_made name old new none (inl same) = same
nothing_made name old new none (inr is_made) =
    absurd (none-some [] (sym none ∙ only_syncs_same name (did_to old name Made) new is_made.synced name ∙ contents_of-same old name Made))

-- a file was synced, whatever is answered
pub sync_answered : {E : Type 0} (tells : Bool) (name : Kind → ℕ → List ℕ) (kind : Kind) (file : ℕ) (old new : State) (result : Result ⊤ E)
    → Syncs {E = E} tells name kind file old new (Ok tt) → Syncs {E = E} tells name kind file old new result
sync_answered tells name kind file old new (Ok tt) was_synced = was_synced
sync_answered tells name kind file old new (Err e) was_synced = sync_unacknowledged tells name kind file old new e was_synced
