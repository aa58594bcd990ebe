-- Laws of syncs: of a file that isn't in doubt, and of one whose range is written anew.
use Rattle.std.proofs.Common.{◌^◌, ◌≡◌, ◌≢◌, ◌<◌, ◌≤◌, ◌+◌, ℕ, Bool, true, false, IsTrue, List, [], ◌∷◌, length, take, drop, refl, sym, ap, ◌∙◌, subst, inl, inr, ⊎_elim, true≢false, arith, length-take, if◌then◌else◌, ◌-◌, ◌++◌, min, length-append, length-drop}
use Rattle.std.proofs.lemmas.Bool.{cases_lt}
use Rattle.folder_model.specs.Calls.{CutsInPart}
use Rattle.std.specs.Prelude.{Ok, Err, Option, Some, None, is_some, IfSome}
use Rattle.std.specs.Option.{option_map, unwrap_or}
use Rattle.std.proofs.lemmas.List.{take_min, take_all}
use Rattle.folder_model.specs.steps.ReadingLaws.{contents_of-same, contents_of-other}
use Rattle.folder_files.specs.steps.OpenLaws.{sync_all_same}
use Rattle.std.proofs.lemmas.Option.{none-some, same_Some}
use Rattle.disk_model.specs.Image.{file_count, file_of, written}
use Rattle.disk_model.specs.declared.kind.Kind.{Kind}
use Rattle.disk_model.specs.declared.kind.Kind.TheVariants.{Warc, Cdxj}
use Rattle.disk_model.specs.steps.ImageLaws.{same_kind_or_other}
use Rattle.folder_model.specs.DiskCalls.{SyncsLeave}
use Rattle.folder_model.specs.File.{FileDeed, Made, Wrote, Synced, Listed, AreBytesSure, Shortened}
use Rattle.folder_model.specs.Folder.{Did, FolderPast, SyncedFolder, SyncedAround, did, did_to, deeds_of, contents_of, bytes_of, IsNameSureAt}
use Rattle.folder_model.specs.Known.{IsInDoubt, Knows}
use Rattle.folder_model.specs.Ranges.{IsTornIn, IsTornAt, MendsIn}
use Rattle.folder_model.specs.Seen.{NamesApart}
use Rattle.folder_model.specs.Whole.{done_to, WritesWithin, MakesInPart, made_durably, Covers}
use Rattle.folder_model.specs.steps.FolderLaws.{deeds_of-same, names_cases}
use Rattle.folder_model.specs.steps.KnownLaws.{sync_done, sync_failed, sync_doubted}
use Rattle.folder_model.specs.steps.MendLaws.{written_again, torn_clean, torn_failed, torn_listed, torn_made, torn_did, torn_other, mending, mended_sync, range_anew_is_sure, front_of_range, torn_written, torn_cut_to, mended}
use Rattle.folder_model.specs.steps.SyncLaws.{names_made, names_synced, names_listed, names_around}
use Rattle.held_folder.specs.Calls.{Syncs}
use Rattle.held_folder.specs.Doubts.{range_of, with_range, doubt_in, doubts_of, IsTornTo, AreTorn, AfterWhole, AfterPart, AfterCut, AfterCutPart, AfterFailure, GoesOn, SyncedTo, further_of, IsFurther}
use Rattle.held_folder.specs.Mending.{range_in, written_anew}
use Rattle.folder_files.specs.Counting.{known_of}
use Rattle.held_folder.specs.State.{State, reading, IsKnown, next, grown, trusted}
use Rattle.held_folder.specs.steps.FurtherLaws.{further_gave, further_range, missed_same, missed_other}
use Rattle.held_folder.specs.steps.StateLaws.{TrustStays, further_stays, grown_kind, grown_other, synced, sync_missed, bytes_read}
use Rattle.held_folder.specs.steps.TrustLaws.{torn_done, torn_goes_on, torn_kept, after_part, after_whole, after_cut, after_cut_part, after_sync, whole_stays, part_stays, cut_stays, cut_part_stays, doubts_go_on, doubts_after_sync, doubts_after_failure, not_in_doubt}
use Rattle.held_folder.specs.declared.trust.Further.{Further}
use Rattle.held_folder.specs.declared.trust.Further.TheVariants.{Absent}
use Rattle.held_folder.specs.declared.trust.Trust.{Trust}
use Rattle.held_folder.specs.declared.trust.Written.{Written}

with_range_gave : (kind : Kind) (range : Option Written) (trust : Trust) → (with_range kind range trust).gave_up ≡ trust.gave_up
with_range_gave Warc range trust = refl
with_range_gave Cdxj range trust = refl

pub synced_gave : (kind : Kind) (number : ℕ) (old new : Trust) → SyncedTo kind number old new → old.gave_up ≡ false → new.gave_up ≡ false
synced_gave kind number old new on goes = ap (λ (t : Trust). t.gave_up) on.only ∙ with_range_gave kind on.range old ∙ goes

-- nothing else is known of files that were to be made
pub synced_further : (kind : Kind) (number : ℕ) (old new : Trust) → SyncedTo kind number old new → (k : Kind) → further_of new k ≡ further_of old k
synced_further kind number old new on k = ap (λ (t : Trust). further_of t k) on.only ∙ further_range kind on.range old k

goes_on_further : (kind : Kind) (After : Option Written → Option Written → Type 0) (old new : Trust) → GoesOn kind After old new → (k : Kind) → further_of new k ≡ further_of old k
goes_on_further kind After old new on k =
    ap (λ (t : Trust). further_of t k) on.only ∙ further_range kind on.range (record old { gave_up = new.gave_up }) k ∙ further_gave new.gave_up old k

-- one deed on a file leaves what is known of the others
pub deed_elsewhere : (old new : FolderPast) (n : List ℕ) (deed : FileDeed) → new ≡ did_to old n deed
    → (other : List ℕ) (at many : ℕ) → (other ≡ n → ⊥) → IsTornAt old other at many → IsTornAt new other at many
deed_elsewhere old new n deed whole other at many apart torn =
    subst (λ (p : FolderPast). IsTornAt p other at many) (sym whole) (torn_other old n other deed at many apart torn)

-- a torn range begins in its file
pub torn_inside : (past : FolderPast) (n : List ℕ) (at many : ℕ) → IsTornAt past n at many → at ≤ length (bytes_of past n)
torn_inside past n at many torn = omega (arith, torn.inside, ap (λ (o : Option (List ℕ)). length (unwrap_or o [])) torn.is)

-- a range that is written anew leaves what is read of the file
range_same : (past : FolderPast) (n : List ℕ) (at len : ℕ) → contents_of (did_to past n (Wrote at (range_in past n at len) 0)) n ≡ contents_of past n
range_same past n at len = contents_of-same past n (Wrote at (range_in past n at len) 0) ∙ read_same (contents_of past n)
  where
    read_same : (found : Option (List ℕ)) → option_map (λ was. written was at (take len (drop at (unwrap_or found [])))) found ≡ found
    read_same None = refl
    read_same (Some bytes) = ap (λ (b : List ℕ). Some b) (written_again at (take len (drop at bytes)) bytes (front bytes))
      where
        front : (bytes : List ℕ) → take len (drop at bytes) ≡ take (length (take len (drop at bytes))) (drop at bytes)
        front bytes = sym (ap (λ (k : ℕ). take k (drop at bytes)) (length-take len (drop at bytes)) ∙ take_min len (drop at bytes))

pub range_inside : (past mid : FolderPast) (n : List ℕ) (at len end : ℕ) → mid ≡ did_to past n (Wrote at (range_in past n at len) 0) → end ≡ length (bytes_of past n)
    → end ≤ length (bytes_of mid n)
range_inside past mid n at len end whole is =
    omega (arith, is, ap (λ (o : Option (List ℕ)). length (unwrap_or o [])) (ap (λ (p : FolderPast). contents_of p n) whole ∙ range_same past n at len))

-- so does the cut behind it
cut_same : (past : FolderPast) (n : List ℕ) (at len : ℕ) → contents_of (written_anew past n at len) n ≡ contents_of past n
cut_same past n at len =
    contents_of-same (did_to past n (Wrote at (range_in past n at len) 0)) n (Shortened (length (bytes_of past n)) 0)
    ∙ ap (λ (o : Option (List ℕ)). option_map (take (length (bytes_of past n))) o) (range_same past n at len)
    ∙ whole (contents_of past n)
  where
    whole : (found : Option (List ℕ)) → option_map (take (length (unwrap_or found []))) found ≡ found
    whole None = refl
    whole (Some bytes) = ap (λ (b : List ℕ). Some b) (take_all (length bytes) bytes (omega arith))

pub anew_same : (old new : FolderPast) (n : List ℕ) (at len : ℕ) → new ≡ did_to (written_anew old n at len) n (Synced true)
    → (m : List ℕ) → contents_of new m ≡ contents_of old m
anew_same old new n at len whole m =
    sync_all_same n true (written_anew old n at len) new whole m
    ∙ ⊎_elim
    (λ same. ap (contents_of (written_anew old n at len)) same.0 ∙ cut_same old n at len ∙ sym (ap (contents_of old) same.0))
    (λ other.
    contents_of-other (did_to old n (Wrote at (range_in old n at len) 0)) n m (Shortened (length (bytes_of old n)) 0) other.0
    ∙ contents_of-other old n m (Wrote at (range_in old n at len) 0) other.0)
    (names_cases m n)

-- ---- a mending that isn't done

-- a front of the range was written
pub mends_front : (old new : FolderPast) (n : List ℕ) (at len : ℕ) (some rest : List ℕ) → some ++ rest ≡ range_in old n at len → (torn : ℕ) → torn ≤ length rest
    → new ≡ did_to old n (Wrote at some torn) → MendsIn n at len (bytes_of old n) old new
mends_front old new n at len some rest all torn few whole =
    let fits : length some + length rest ≤ len =
    omega (arith, length-append some rest, ap length all, length-take len (drop at (bytes_of old n))) in
    record {
      deeds = Wrote at some torn ∷ [];
      mending = (refl, omega (arith, fits, few), front_of_range at len some rest (bytes_of old n) all (omega (arith, fits)), tt);
      whole = whole;
    }

pub mends_nothing : (old new : FolderPast) (n : List ℕ) (at len : ℕ) → new ≡ old → MendsIn n at len (bytes_of old n) old new
mends_nothing old new n at len same = record { deeds = []; mending = tt; whole = same }

-- all of it was, and the cut wasn't done
pub mends_uncut : (old mid new : FolderPast) (n : List ℕ) (at len end : ℕ) → mid ≡ did_to old n (Wrote at (range_in old n at len) 0) → end ≡ length (bytes_of old n)
    → CutsInPart n end mid new → MendsIn n at len (bytes_of old n) old new
mends_uncut old mid new n at len end wrote is part = record {
  deeds = Shortened (end + part.rest) part.rest ∷ Wrote at (range_in old n at len) 0 ∷ [];
  mending = (
    omega (arith, is),
    (refl, omega (arith, length-take len (drop at (bytes_of old n))), whole_front (bytes_of old n), tt),
  );
  whole = part.whole ∙ ap (λ (p : FolderPast). did_to p n (Shortened (end + part.rest) part.rest)) wrote;
}
  where
    whole_front : (bytes : List ℕ) → take len (drop at bytes) ≡ take (length (take len (drop at bytes))) (drop at bytes)
    whole_front bytes = sym (ap (λ (k : ℕ). take k (drop at bytes)) (length-take len (drop at bytes)) ∙ take_min len (drop at bytes))

-- all was done but the sync
pub mends_unsynced : (old mid cut new : FolderPast) (n : List ℕ) (at len end : ℕ) → mid ≡ did_to old n (Wrote at (range_in old n at len) 0) → end ≡ length (bytes_of old n)
    → cut ≡ did_to mid n (Shortened end 0) → new ≡ did_to cut n (Synced false) → MendsIn n at len (bytes_of old n) old new
mends_unsynced old mid cut new n at len end wrote is shortened failed = record {
  deeds = Synced false ∷ Shortened end 0 ∷ Wrote at (range_in old n at len) 0 ∷ [];
  mending = (
    refl,
    (
      omega (arith, is),
      (refl, omega (arith, length-take len (drop at (bytes_of old n))), whole_front (bytes_of old n), tt),
    ),
  );
  whole = failed ∙ ap (λ (p : FolderPast). did_to p n (Synced false)) (shortened ∙ ap (λ (p : FolderPast). did_to p n (Shortened end 0)) wrote);
}
  where
    whole_front : (bytes : List ℕ) → take len (drop at bytes) ≡ take (length (take len (drop at bytes))) (drop at bytes)
    whole_front bytes = sym (ap (λ (k : ℕ). take k (drop at bytes)) (length-take len (drop at bytes)) ∙ take_min len (drop at bytes))

-- all was done
pub all_anew : (old mid cut new : FolderPast) (n : List ℕ) (at len end : ℕ) → mid ≡ did_to old n (Wrote at (range_in old n at len) 0) → end ≡ length (bytes_of old n)
    → cut ≡ did_to mid n (Shortened end 0) → new ≡ did_to cut n (Synced true) → new ≡ did_to (written_anew old n at len) n (Synced true)
all_anew old mid cut new n at len end wrote is shortened done =
    done ∙ (λ i. did_to ((shortened ∙ (λ j. did_to (wrote j) n (Shortened (is j) 0))) i) n (Synced true))

-- a range that ends with the file
pub range_short : (bytes : List ℕ) (at len many : ℕ) → many ≡ min len (length bytes - at) → take many (drop at bytes) ≡ take len (drop at bytes)
range_short bytes at len many is =
    ⊎_elim
    (λ short. let e : many ≡ len = omega (arith, is, short) in ap (λ (k : ℕ). take k (drop at bytes)) e)
    (λ long.
    take_all many (drop at bytes) (omega (arith, is, long, length-drop at bytes)) ∙ sym (take_all len (drop at bytes) (omega (arith, long, length-drop at bytes))))
    (cases_lt len (length bytes - at))

-- a file that was just made, and the others
pub made_torn : (old : FolderPast) (n : List ℕ) → IsTornAt (made_durably n old) n 0 0
made_torn old n =
    let its : deeds_of n (did_to (did_to old n Made) n (Synced true)).deeds ≡ Synced true ∷ Made ∷ deeds_of n old.deeds =
    deeds_of-same n (Synced true) (did_to old n Made).deeds ∙ ap (λ (ds : List FileDeed). Synced true ∷ ds) (deeds_of-same n Made old.deeds) in
    subst (λ (ds : List FileDeed). IsTornIn (old.first n) (Listed true ∷ ds) 0 0) (sym its) (torn_made (old.first n) (deeds_of n old.deeds))

pub made_elsewhere : (old new : FolderPast) (n : List ℕ) → new ≡ made_durably n old
    → (other : List ℕ) (at many : ℕ) → (other ≡ n → ⊥) → IsTornAt old other at many → IsTornAt new other at many
made_elsewhere old new n whole other at many apart torn =
    subst (λ (p : FolderPast). IsTornAt p other at many) (sym whole)
    (torn_listed (old.first other) (deeds_of other (did_to (did_to old n Made) n (Synced true)).deeds) at many true
    (torn_other (did_to old n Made) n other (Synced true) at many apart (torn_other old n other Made at many apart torn)))

-- a sync of the folder answers for each name that one answered for before
names_durably : (old new : FolderPast) (n m : List ℕ) → new ≡ made_durably n old → IsNameSureAt old m → IsNameSureAt new m
names_durably old new n m whole sure =
    let made : FolderPast = did_to old n Made in
    let synced : FolderPast = did_to made n (Synced true) in
    let listed : FolderPast = did synced (SyncedFolder true) in
    names_around listed new m true whole (names_listed synced listed m refl (names_synced made synced n m true refl (names_made old made n m refl sure)))

-- a file that isn't there isn't in doubt
pub none_in_doubt : (name : Kind → ℕ → List ℕ) (past : FolderPast) (trust : Trust) (n : List ℕ) → AreTorn name past trust → contents_of past n ≡ None
    → IsInDoubt name (doubts_of trust) n → ⊥
none_in_doubt name past trust n torn none (k, f, is, named) = by (range_of trust k) refl is (torn k)
  where
    by : (range : Option Written) → range_of trust k ≡ range → doubt_in range ≡ Some f → IfSome range (IsTornTo name past k) → ⊥
    by None same is torn = none-some f is
    by (Some w) same is torn = by_doubt w.in_doubt is torn
      where
        by_doubt : (b : Bool) → (if b then Some w.number else None) ≡ Some f → IsTornTo name past k w → ⊥
        by_doubt true e its =
            none-some its.1.reading
            (sym (ap (contents_of past) (ap (name k) (same_Some w.number f e) ∙ sym named) ∙ none) ∙ its.1.is)
        by_doubt false e its = none-some f e

module _ (tells : Bool) (name : Kind → ℕ → List ℕ) (apart : NamesApart name) (kind : Kind) (file : ℕ) (small : file < 2 ^ 32) (old : State) (past : FolderPast)
    (known : IsTrue tells → IsKnown name old) (ours : file < known_of old.warc old.cdxj kind) (goes : old.trust.gave_up ≡ false) where
  there : (told : IsTrue tells) → file < file_count (reading name old) kind
  there told = omega (arith, ours, (known told).knows.no_fewer kind)

  -- what is known of files that were to be made
  further_now : (told : IsTrue tells) (trust : Trust) (deeds : List FileDeed) → past ≡ done_to old.past (name kind file) deeds
      → ((k : Kind) → further_of trust k ≡ further_of old.trust k) → (k : Kind) → IsFurther (further_of trust k) past (name k (known_of old.warc old.cdxj k))
  further_now told trust deeds whole same =
      subst (λ (p : FolderPast). (k : Kind) → IsFurther (further_of trust k) p (name k (known_of old.warc old.cdxj k))) (sym whole)
      (further_stays name apart kind file old trust deeds (known told) ours same)

  going : (told : IsTrue tells) → Knows name old.past (known_of old.warc old.cdxj) false (doubts_of old.trust) old.times (reading name old)
  going told = subst (λ (b : Bool). Knows name old.past (known_of old.warc old.cdxj) b (doubts_of old.trust) old.times (reading name old)) goes (known told).knows

  -- a sync of a file that isn't in doubt was done
  pub sure_done : {E : Type 0} (trust : Trust) → doubt_in (range_of old.trust kind) ≢ Some file → SyncedTo kind file old.trust trust
      → (IsTrue tells → past ≡ did_to old.past (name kind file) (Synced true))
      → Syncs {E = E} tells name kind file old (trusted trust (next old past)) (Ok tt)
  sure_done {E} trust sure on whole =
      synced tells name kind file old past trust known
      (λ told. sync_done name kind file old.past past (known_of old.warc old.cdxj) (doubts_of old.trust) (doubts_of trust) old.times (reading name old) (going told) ours
      (is_sure told) (doubts_after_sync name kind old.trust trust file on) (whole told))
      (synced_gave kind file old.trust trust on goes)
      (λ told. torn_goes_on name apart kind file small old.past past (deed_elsewhere old.past past (name kind file) (Synced true) (whole told))
      old.trust trust on.range old.trust.gave_up on.only
      (after_sync name apart kind file small old.past past (deed_elsewhere old.past past (name kind file) (Synced true) (whole told))
      (subst (λ (p : FolderPast). IsTornAt p (name kind file) 0 0) (sym (whole told))
      (torn_did old.past (name kind file) (Synced true) 0 0
      (torn_clean (old.past.first (name kind file)) (deeds_of (name kind file) old.past.deeds) (file_of (reading name old) kind file) (is_sure told)
      ((known told).knows.is.seen.there kind file (there told)))))
      (range_of old.trust kind) on.range on.after)
      ((known told).torn goes))
      (λ told. further_now told trust (Synced true ∷ []) (whole told) (synced_further kind file old.trust trust on))
    where
      is_sure : (told : IsTrue tells) → AreBytesSure (old.past.first (name kind file)) (deeds_of (name kind file) old.past.deeds)
      is_sure told =
          ⊎_elim
          (λ doubt. absurd (not_in_doubt name apart old.past old.trust kind file small ((known told).torn goes) sure doubt))
          (λ is. is)
          ((known told).knows.sure goes (name kind file))

  -- one failed
  pub sure_missed : {E : Type 0} (trust : Trust) (e : E) → AfterFailure kind file old.trust trust
      → (IsTrue tells → past ≡ did_to old.past (name kind file) (Synced false))
      → Syncs {E = E} tells name kind file old (trusted trust (next old past)) (Err e)
  sure_missed {E} trust e (inl is) whole =
      let gone : trust.gave_up ≡ true = ap (λ (t : Trust). t.gave_up) is.0 in
      sync_missed tells name kind file old past trust known
      (λ told. subst (λ (b : Bool). SyncsLeave name old.past past (known_of old.warc old.cdxj) b (doubts_of trust) old.times (reading name old)) (sym gone)
      (sync_failed name (name kind file) old.past past (known_of old.warc old.cdxj) false (doubts_of old.trust) (doubts_of trust) old.times (reading name old) (going told) (whole told)))
      (λ told still. absurd (true≢false (sym gone ∙ still)))
      (λ told. further_now told trust (Synced false ∷ []) (whole told) (λ k. ap (λ (t : Trust). further_of t k) is.0 ∙ further_gave true old.trust k))
      e
  sure_missed {E} trust e (inr (range, had, its, only)) whole =
      sync_missed tells name kind file old past trust known
      (λ told. subst (λ (b : Bool). SyncsLeave name old.past past (known_of old.warc old.cdxj) b (doubts_of trust) old.times (reading name old)) (sym stays)
      (sync_doubted name (name kind file) old.past past (known_of old.warc old.cdxj) false (doubts_of old.trust) (doubts_of trust) old.times (reading name old) (going told)
      (doubts_after_failure name kind old.trust trust file range had its only).0 (doubts_after_failure name kind old.trust trust file range had its only).1 (whole told)))
      (λ told still. torn_goes_on name apart kind file small old.past past (deed_elsewhere old.past past (name kind file) (Synced false) (whole told))
      old.trust trust (Some (record range { in_doubt = true })) old.trust.gave_up only
      (λ torn. in_doubt told (subst (λ (r : Option Written). IfSome r (IsTornTo name old.past kind)) had torn))
      ((known told).torn goes))
      (λ told. further_now told trust (Synced false ∷ []) (whole told)
      (λ k. ap (λ (t : Trust). further_of t k) only ∙ further_range kind (Some (record range { in_doubt = true })) old.trust k))
      e
    where
      stays : trust.gave_up ≡ false
      stays = ap (λ (t : Trust). t.gave_up) only ∙ with_range_gave kind (Some (record range { in_doubt = true })) old.trust ∙ goes

      in_doubt : (told : IsTrue tells) → IsTornTo name old.past kind range → IsTornTo name past kind (record range { in_doubt = true })
      in_doubt told torn =
          let n : List ℕ = name kind file in
          let was : IsTornAt old.past n range.at range.len = subst (λ (f : ℕ). IsTornAt old.past (name kind f) range.at range.len) its torn.1 in
          let now : IsTornAt past n range.at range.len =
          subst (λ (p : FolderPast). IsTornAt p n range.at range.len) (sym (whole told))
          (torn_did old.past n (Synced false) range.at range.len (torn_failed (old.past.first n) (deeds_of n old.past.deeds) range.at range.len was)) in
          (torn.0, subst (λ (f : ℕ). IsTornAt past (name kind f) range.at range.len) (sym its) now)

  -- a file that is in doubt
  module _ (at len : ℕ) (doubt : range_of old.trust kind ≡ Some (record { number = file; at = at; len = len; in_doubt = true })) where
    pub is_torn : (told : IsTrue tells) → IsTornAt old.past (name kind file) at len
    is_torn told = (subst (λ (r : Option Written). IfSome r (IsTornTo name old.past kind)) doubt ((known told).torn goes kind)).1

    mends_read : (told : IsTrue tells) → bytes_of old.past (name kind file) ≡ file_of (reading name old) kind file
    mends_read told = bytes_read name old kind file (known told) (there told)

    -- its range was written anew, and it was synced
    pub anew_done : {E : Type 0} (trust : Trust) → SyncedTo kind file old.trust trust
        → (IsTrue tells → past ≡ did_to (written_anew old.past (name kind file) at len) (name kind file) (Synced true))
        → Syncs {E = E} tells name kind file old (trusted trust (next old past)) (Ok tt)
    anew_done {E} trust on whole =
        synced tells name kind file old past trust known
        (λ told. mended_sync name apart kind file at len old.past (written_anew old.past (name kind file) at len) past
        (known_of old.warc old.cdxj) (doubts_of old.trust) (doubts_of trust) old.times (reading name old)
        (subst (λ (b : Bool). Knows name old.past (known_of old.warc old.cdxj) b (doubts_of old.trust) old.times (reading name old)) goes (known told).knows) ours
        (is_torn told) (doubts_after_sync name kind old.trust trust file on)
        (λ i. did_to (did_to old.past (name kind file) (Wrote at (take len (drop at (mends_read told i))) 0)) (name kind file) (Shortened (length (mends_read told i)) 0)) (whole told))
        (synced_gave kind file old.trust trust on goes)
        (λ told. torn_goes_on name apart kind file small old.past past (elsewhere told)
        old.trust trust on.range old.trust.gave_up on.only
        (after_sync name apart kind file small old.past past (elsewhere told)
        (subst (λ (p : FolderPast). IsTornAt p (name kind file) 0 0) (sym (whole told)) (is_clean told))
        (range_of old.trust kind) on.range on.after)
        ((known told).torn goes))
        (λ told. further_now told trust (Synced true ∷ Shortened (length (bytes_of old.past (name kind file))) 0 ∷ Wrote at (range_in old.past (name kind file) at len) 0 ∷ []) (whole told)
        (synced_further kind file old.trust trust on))
      where
        elsewhere : (told : IsTrue tells) (n : List ℕ) (a many : ℕ) → (n ≡ name kind file → ⊥) → IsTornAt old.past n a many → IsTornAt past n a many
        elsewhere told n a many differs torn =
            subst (λ (p : FolderPast). IsTornAt p n a many) (sym (whole told))
            (torn_done old.past (name kind file) n
            (Synced true ∷ Shortened (length (bytes_of old.past (name kind file))) 0 ∷ Wrote at (range_in old.past (name kind file) at len) 0 ∷ []) a many differs torn)

        is_clean : (told : IsTrue tells) → IsTornAt (did_to (written_anew old.past (name kind file) at len) (name kind file) (Synced true)) (name kind file) 0 0
        is_clean told =
            let n : List ℕ = name kind file in
            let bytes : List ℕ = file_of (reading name old) kind file in
            let is : contents_of old.past n ≡ Some bytes = (known told).knows.is.seen.there kind file (there told) in
            let first : FileDeed = Wrote at (range_in old.past n at len) 0 in
            let second : FileDeed = Shortened (length (bytes_of old.past n)) 0 in
            let sure : AreBytesSure (old.past.first n) (second ∷ first ∷ deeds_of n old.past.deeds) =
            subst (λ (b : List ℕ). AreBytesSure (old.past.first n) (Shortened (length b) 0 ∷ Wrote at (take len (drop at b)) 0 ∷ deeds_of n old.past.deeds)) (sym (mends_read told))
            (range_anew_is_sure (old.past.first n) (deeds_of n old.past.deeds) at len bytes (is_torn told) is) in
            let both : deeds_of n (written_anew old.past n at len).deeds ≡ second ∷ first ∷ deeds_of n old.past.deeds =
            deeds_of-same n second (did_to old.past n first).deeds ∙ ap (λ (ds : List FileDeed). second ∷ ds) (deeds_of-same n first old.past.deeds) in
            torn_did (written_anew old.past n at len) n (Synced true) 0 0
            (subst (λ (ds : List FileDeed). IsTornIn (old.past.first n) (Synced true ∷ ds) 0 0) (sym both)
            (torn_clean (old.past.first n) (second ∷ first ∷ deeds_of n old.past.deeds) (take (length (bytes_of old.past n)) (written bytes at (range_in old.past n at len))) sure
            (ap (λ (o : Option (List ℕ)). option_map (take (length (bytes_of old.past n))) (option_map (λ was. written was at (range_in old.past n at len)) o)) is)))

    -- some of that was done
    pub anew_missed : {E : Type 0} (e : E) → (IsTrue tells → MendsIn (name kind file) at len (bytes_of old.past (name kind file)) old.past past)
        → Syncs {E = E} tells name kind file old (trusted old.trust (next old past)) (Err e)
    anew_missed {E} e part =
        sync_missed tells name kind file old past old.trust known
        (λ told. mending name apart kind file at len old.past past (known_of old.warc old.cdxj) old.trust.gave_up (doubts_of old.trust) old.times (reading name old)
        (known told).knows (there told) (is_torn told) (kind, file, ap doubt_in doubt, refl) (mends told))
        (λ told still. torn_kept name apart kind file small old.past past (elsewhere told) old.trust (still_torn told) ((known told).torn goes))
        (λ told. further_now told old.trust (part told).deeds (part told).whole (λ k. refl))
        e
      where
        mends : (told : IsTrue tells) → MendsIn (name kind file) at len (file_of (reading name old) kind file) old.past past
        mends told = subst (λ (b : List ℕ). MendsIn (name kind file) at len b old.past past) (mends_read told) (part told)

        elsewhere : (told : IsTrue tells) (n : List ℕ) (a many : ℕ) → (n ≡ name kind file → ⊥) → IsTornAt old.past n a many → IsTornAt past n a many
        elsewhere told n a many differs torn =
            subst (λ (p : FolderPast). IsTornAt p n a many) (sym (part told).whole) (torn_done old.past (name kind file) n (part told).deeds a many differs torn)

        -- the range that is in doubt is still torn so
        still_torn : (told : IsTrue tells) (w : Written) → range_of old.trust kind ≡ Some w → w.number ≡ file
            → IsTornAt old.past (name kind file) w.at w.len → IsTornAt past (name kind file) w.at w.len
        still_torn told w is its was =
            let mends_now = subst (λ (b : List ℕ). MendsIn (name kind file) at len b old.past past) (mends_read told) (part told) in
            subst (λ (r : Written). IsTornAt past (name kind file) r.at r.len)
            (same_Some (record { number = file; at = at; len = len; in_doubt = true }) w (sym doubt ∙ is))
            (subst (λ (p : FolderPast). IsTornAt p (name kind file) at len) (sym mends_now.whole)
            (mended name apart kind file at len old.past (reading name old) (known told).knows.is (there told) (is_torn told) mends_now.deeds mends_now.mending).torn)

-- ---- what writes, cuts and a file that is made leave of the trust

module _ (name : Kind → ℕ → List ℕ) (apart : NamesApart name) (kind : Kind) (file : ℕ) (small : file < 2 ^ 32) (old : State) (past : FolderPast) (now : Trust) (known : IsKnown name old) where
  -- what is known of each file goes on, where it does of this one and of the others
  goes_on : (After : Option Written → Option Written → Type 0) → ((was new : Option Written) → After was new → IsTrue (is_some new) → doubt_in new ≡ doubt_in was)
      → ((n : List ℕ) (a many : ℕ) → (n ≡ name kind file → ⊥) → IsTornAt old.past n a many → IsTornAt past n a many)
      → (on : GoesOn kind After old.trust now) → (IfSome (range_of old.trust kind) (IsTornTo name old.past kind) → IfSome on.range (IsTornTo name past kind))
      → TrustStays name old.trust past now
  goes_on After stays elsewhere on this = record {
    same = goes_on_further kind After old.trust now on;
    going = λ goes. (
      on.going goes,
      doubts_go_on name kind old.trust now After stays on goes,
      torn_goes_on name apart kind file small old.past past elsewhere old.trust now on.range now.gave_up on.only this (known.torn (on.going goes)),
    );
  }

  -- after writes other files are torn as they were
  written_elsewhere : (at len : ℕ) → WritesWithin (name kind file) at len old.past past
      → (n : List ℕ) (a many : ℕ) → (n ≡ name kind file → ⊥) → IsTornAt old.past n a many → IsTornAt past n a many
  written_elsewhere at len within n a many differs torn =
      subst (λ (p : FolderPast). IsTornAt p n a many) (sym within.whole) (torn_done old.past (name kind file) n within.deeds a many differs torn)

  -- what is torn of the file isn't longer than the file
  inside_torn : (place start many : ℕ) → file < file_count (reading name old) kind → place ≤ length (file_of (reading name old) kind file)
      → (torn : IsTornAt old.past (name kind file) start many) → place ≤ length torn.reading
  inside_torn place start many there inside torn =
      omega (arith, inside, ap length (same_Some torn.reading (file_of (reading name old) kind file) (sym torn.is ∙ known.knows.is.seen.there kind file there)))

  -- writes within some bytes
  pub part_goes : (at len : ℕ) → WritesWithin (name kind file) at len old.past past → GoesOn kind (AfterPart file at len) old.trust now → TrustStays name old.trust past now
  part_goes at len within on =
      goes_on (AfterPart file at len) (part_stays file at len) (written_elsewhere at len within) on
      (after_part name apart kind file small old.past past (written_elsewhere at len within) at len within.deeds within.writes within.whole (range_of old.trust kind) on.range on.after)

  -- a write of which all bytes may be torn
  pub whole_goes : (at len : ℕ) → file < file_count (reading name old) kind → at ≤ length (file_of (reading name old) kind file)
      → WritesWithin (name kind file) at len old.past past → Covers (name kind file) at len old.past past
      → GoesOn kind (AfterWhole file at len) old.trust now → TrustStays name old.trust past now
  whole_goes at len there inside within covers on =
      goes_on (AfterWhole file at len) (whole_stays file at len) (written_elsewhere at len within) on
      (after_whole name apart kind file small old.past past (written_elsewhere at len within) at len within.deeds within.writes within.whole
      (λ start torn. torn_written old.past past (name kind file) start at len torn (inside_torn at start 0 there inside torn) within covers)
      (range_of old.trust kind) on.range on.after)

  -- a cut that was done
  pub cut_goes : (len : ℕ) → file < file_count (reading name old) kind → len ≤ length (file_of (reading name old) kind file)
      → past ≡ did_to old.past (name kind file) (Shortened len 0) → GoesOn kind (AfterCut file) old.trust now → TrustStays name old.trust past now
  cut_goes len there inside whole on =
      let elsewhere = deed_elsewhere old.past past (name kind file) (Shortened len 0) whole in
      goes_on (AfterCut file) (cut_stays file) elsewhere on
      (after_cut name apart kind file small old.past past elsewhere
      (λ start torn. torn_cut_to old.past past (name kind file) start len torn (inside_torn len start 0 there inside torn) whole)
      (range_of old.trust kind) on.range on.after)

  -- one that failed
  pub cut_part_goes : (deed : FileDeed) → past ≡ did_to old.past (name kind file) deed → GoesOn kind (AfterCutPart file) old.trust now → TrustStays name old.trust past now
  cut_part_goes deed whole on =
      let elsewhere = deed_elsewhere old.past past (name kind file) deed whole in
      goes_on (AfterCutPart file) (cut_part_stays file) elsewhere on
      (after_cut_part name apart kind file small old.past past elsewhere (range_of old.trust kind) on.range on.after)

  -- a file that was made
  pub made_goes : old.trust.gave_up ≡ false → contents_of old.past (name kind file) ≡ None → past ≡ made_durably (name kind file) old.past → SyncedTo kind file old.trust now
      → file ≡ known_of old.warc old.cdxj kind → file + 1 < 2 ^ 32 → further_of old.trust kind ≡ Absent
      → ((m : List ℕ) → IsInDoubt name (doubts_of old.trust) m → IsInDoubt name (doubts_of now) m) × AreTorn name past now
      × ((k : Kind) → IsFurther (further_of now k) past (name k (known_of (grown kind old).warc (grown kind old).cdxj k)))
  made_goes goes none whole on next_one room absent =
      let elsewhere : (n : List ℕ) (a many : ℕ) → (n ≡ name kind file → ⊥) → IsTornAt old.past n a many → IsTornAt past n a many =
      made_elsewhere old.past past (name kind file) whole in (
        (λ m doubt.
            ⊎_elim
            (λ this. absurd (none_in_doubt name old.past old.trust (name kind file) (known.torn goes) none (subst (IsInDoubt name (doubts_of old.trust)) this doubt)))
            (λ stays. stays)
            (doubts_after_sync name kind old.trust now file on m doubt)),
        torn_goes_on name apart kind file small old.past past elsewhere old.trust now on.range old.trust.gave_up on.only
            (after_sync name apart kind file small old.past past elsewhere (subst (λ (p : FolderPast). IsTornAt p (name kind file) 0 0) (sym whole) (made_torn old.past (name kind file)))
            (range_of old.trust kind) on.range on.after)
            (known.torn goes),
        (λ k.
            ⊎_elim
            (λ same. subst (λ (kk : Kind). IsFurther (further_of now kk) past (name kk (known_of (grown kind old).warc (grown kind old).cdxj kk))) (sym same) this_kind)
            (λ differs. other_kind k differs)
            (same_kind_or_other k kind)),
      )
    where
      this_kind : IsFurther (further_of now kind) past (name kind (known_of (grown kind old).warc (grown kind old).cdxj kind))
      this_kind =
          let makes : MakesInPart (name kind file) old.past past =
          inr (record { none = none; synced = record { deeds = SyncedAround true ∷ SyncedFolder true ∷ Did (name kind file) (Synced true) ∷ []; syncs = (refl, tt); whole = whole } }) in
          let count : known_of (grown kind old).warc (grown kind old).cdxj kind ≡ file + 1 = omega (arith, grown_kind kind old, next_one) in
          let lacks : contents_of old.past (name kind (file + 1)) ≡ None =
          known.knows.is.seen.no_more kind (file + 1) (omega (arith, known.knows.one_more kind, next_one)) room in
          let is : contents_of past (name kind (file + 1)) ≡ None =
          missed_same (name kind file) old.past past (name kind (file + 1)) makes (apart kind file kind (file + 1) small room (inr (λ e. omega (arith, e)))) ∙ lacks in
          subst (λ (f : Further). IsFurther f past (name kind (known_of (grown kind old).warc (grown kind old).cdxj kind)))
          (sym (synced_further kind file old.trust now on kind ∙ absent))
          (subst (λ (n : ℕ). contents_of past (name kind n) ≡ None) (sym count) is)

      other_kind : (k : Kind) → k ≢ kind → IsFurther (further_of now k) past (name k (known_of (grown kind old).warc (grown kind old).cdxj k))
      other_kind k differs =
          let makes : MakesInPart (name kind file) old.past past =
          inr (record { none = none; synced = record { deeds = SyncedAround true ∷ SyncedFolder true ∷ Did (name kind file) (Synced true) ∷ []; syncs = (refl, tt); whole = whole } }) in
          let number : ℕ = known_of old.warc old.cdxj k in
          subst (λ (f : Further). IsFurther f past (name k (known_of (grown kind old).warc (grown kind old).cdxj k))) (sym (synced_further kind file old.trust now on k))
          (subst (λ (n : ℕ). IsFurther (further_of old.trust k) past (name k n)) (sym (grown_other kind old k differs))
          (missed_other (further_of old.trust k) (name kind file) old.past past (name k number) makes
          (apart kind file k number small (known.knows.numbers k) (inl differs)) (names_durably old.past past (name kind file) (name k number) whole) (known.further k)))
