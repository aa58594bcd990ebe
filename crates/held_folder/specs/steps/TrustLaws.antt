-- Laws of what is in doubt of a disk's files.
use Rattle.std.proofs.Common.{◌^◌, ◌≡◌, ◌≢◌, ◌⊎◌, ◌<◌, ◌≤◌, ◌+◌, ℕ, Bool, true, false, IsTrue, if◌then◌else◌, List, [], ◌∷◌, refl, sym, ap, ◌∙◌, subst, inl, inr, ⊎_elim, true≢false, arith}
use Rattle.std.proofs.lemmas.Option.{none-some, same_Some}
use Rattle.std.specs.Prelude.{Option, Some, None, is_some, IfSome}
use Rattle.disk_model.specs.declared.kind.Kind.{Kind}
use Rattle.disk_model.specs.declared.kind.Kind.TheVariants.{Warc, Cdxj}
use Rattle.disk_model.specs.steps.ImageLaws.{same_or_apart, same_kind_or_other}
use Rattle.folder_model.specs.File.{FileDeed, Made, Wrote, Shortened, Synced, Listed}
use Rattle.folder_model.specs.Folder.{FolderPast, deeds_of}
use Rattle.folder_model.specs.Known.{IsInDoubt}
use Rattle.folder_model.specs.Ranges.{IsTornAt}
use Rattle.folder_model.specs.Seen.{NamesApart}
use Rattle.folder_model.specs.Whole.{done_to, AreWrites}
use Rattle.folder_model.specs.steps.MendLaws.{torn_within, torn_did, torn_other}
use Rattle.held_folder.specs.Doubts.{range_of, with_range, doubt_in, doubts_of, IsTornTo, AreTorn, AfterWhole, AfterPart, AfterCut, AfterCutPart, AfterSync, GoesOn, SyncedTo}
use Rattle.held_folder.specs.declared.trust.Trust.{Trust}
use Rattle.held_folder.specs.declared.trust.Written.{Written}

-- ---- of which file what is known

range_with : (kind : Kind) (range : Option Written) (trust : Trust) → range_of (with_range kind range trust) kind ≡ range
range_with Warc range trust = refl
range_with Cdxj range trust = refl

range_other : (kind : Kind) (range : Option Written) (trust : Trust) (k : Kind) → k ≢ kind → range_of (with_range kind range trust) k ≡ range_of trust k
range_other Warc range trust Warc differs = absurd (differs refl)
range_other Warc range trust Cdxj differs = refl
range_other Cdxj range trust Warc differs = refl
range_other Cdxj range trust Cdxj differs = absurd (differs refl)

pub range_gave : (gave_up : Bool) (trust : Trust) (k : Kind) → range_of (record trust { gave_up = gave_up }) k ≡ range_of trust k
range_gave gave_up trust Warc = refl
range_gave gave_up trust Cdxj = refl

-- the file in doubt of a kind
doubted_range : (range : Option Written) (f : ℕ) → doubt_in range ≡ Some f → (w : Written) × (range ≡ Some w) × (w.number ≡ f)
doubted_range None f is = absurd (none-some f is)
doubted_range (Some w) f is = (w, refl, by w.in_doubt is)
  where
    by : (b : Bool) → (if b then Some w.number else None) ≡ Some f → w.number ≡ f
    by true e = same_Some w.number f e
    by false e = absurd (none-some f e)

-- ---- what is torn, after a call

-- deeds on another file
pub torn_done : (past : FolderPast) (n other : List ℕ) (deeds : List FileDeed) (at many : ℕ) → (other ≡ n → ⊥) → IsTornAt past other at many → IsTornAt (done_to past n deeds) other at many
torn_done past n other [] at many apart torn = torn
torn_done past n other (deed ∷ earlier) at many apart torn =
    torn_other (done_to past n earlier) n other deed at many apart (torn_done past n other earlier at many apart torn)

-- writes within the range
torn_writes : (past : FolderPast) (n : List ℕ) (at many place len : ℕ) (deeds : List FileDeed) → AreWrites place len deeds → at ≤ place → place + len ≤ at + many
    → IsTornAt past n at many → IsTornAt (done_to past n deeds) n at many
torn_writes past n at many place len [] writes above below torn = torn
torn_writes past n at many place len (Made ∷ earlier) writes above below torn = absurd writes
torn_writes past n at many place len (Wrote p some rest ∷ earlier) writes above below torn =
    let mid : FolderPast = done_to past n earlier in
    torn_did mid n (Wrote p some rest) at many
    (torn_within (mid.first n) (deeds_of n mid.deeds) at many p some rest (torn_writes past n at many place len earlier writes.2 above below torn)
    (omega (arith, above, writes.0)) (omega (arith, below, writes.1)))
torn_writes past n at many place len (Shortened l rest ∷ earlier) writes above below torn = absurd writes
torn_writes past n at many place len (Synced done ∷ earlier) writes above below torn = absurd writes
torn_writes past n at many place len (Listed done ∷ earlier) writes above below torn = absurd writes

module _ (name : Kind → ℕ → List ℕ) (apart : NamesApart name) (kind : Kind) (file : ℕ) (small : file < 2 ^ 32) (old new : FolderPast)
    (elsewhere : (n : List ℕ) (at many : ℕ) → (n ≡ name kind file → ⊥) → IsTornAt old n at many → IsTornAt new n at many) where
  -- a range of another file
  torn_apart : (k : Kind) (w : Written) → ((k ≢ kind) ⊎ (w.number ≢ file)) → IsTornTo name old k w → IsTornTo name new k w
  torn_apart k w differs torn = (torn.0, elsewhere (name k w.number) w.at w.len (apart kind file k w.number small torn.0 differs) torn.1)

  -- of a kind that isn't the call's
  torn_elsewhere : (k : Kind) (range : Option Written) → k ≢ kind → IfSome range (IsTornTo name old k) → IfSome range (IsTornTo name new k)
  torn_elsewhere k None differs torn = tt
  torn_elsewhere k (Some w) differs torn = torn_apart k w (inl differs) torn

  -- one that stays, of this file or of another
  torn_stays : (w : Written) → (IsTornAt old (name kind file) w.at w.len → IsTornAt new (name kind file) w.at w.len) → IsTornTo name old kind w → IsTornTo name new kind w
  torn_stays w this torn =
      ⊎_elim
      (λ same. (
        torn.0,
        subst (λ (f : ℕ). IsTornAt new (name kind f) w.at w.len) (sym same.1) (this (subst (λ (f : ℕ). IsTornAt old (name kind f) w.at w.len) same.1 torn.1)),
      ))
      (λ differs. torn_apart kind w differs torn)
      (same_or_apart kind file kind w.number)

  -- all that is known
  pub torn_goes_on : (was now : Trust) (range : Option Written) (gave_up : Bool) → now ≡ with_range kind range (record was { gave_up = gave_up })
      → (IfSome (range_of was kind) (IsTornTo name old kind) → IfSome range (IsTornTo name new kind))
      → AreTorn name old was → AreTorn name new now
  torn_goes_on was now range gave_up only this torn k =
      ⊎_elim
      (λ same.
      let is : range_of now k ≡ range =
      (λ i. range_of (only i) (same i)) ∙ range_with kind range (record was { gave_up = gave_up }) in
      subst (λ (r : Option Written). IfSome r (IsTornTo name new k)) (sym is)
      (subst (λ (kk : Kind). IfSome range (IsTornTo name new kk)) (sym same) (this (torn kind))))
      (λ differs.
      let is : range_of now k ≡ range_of was k =
      ap (λ (t : Trust). range_of t k) only ∙ range_other kind range (record was { gave_up = gave_up }) k differs ∙ range_gave gave_up was k in
      subst (λ (r : Option Written). IfSome r (IsTornTo name new k)) (sym is) (torn_elsewhere k (range_of was k) differs (torn k)))
      (same_kind_or_other k kind)

  -- where what is known of each file stays
  pub torn_kept : (was : Trust)
      → ((w : Written) → range_of was kind ≡ Some w → w.number ≡ file → IsTornAt old (name kind file) w.at w.len → IsTornAt new (name kind file) w.at w.len)
      → AreTorn name old was → AreTorn name new was
  torn_kept was this torn k =
      ⊎_elim
      (λ same. subst (λ (kk : Kind). IfSome (range_of was kk) (IsTornTo name new kk)) (sym same) (stays (range_of was kind) refl (torn kind)))
      (λ differs. torn_elsewhere k (range_of was k) differs (torn k))
      (same_kind_or_other k kind)
    where
      stays : (range : Option Written) → range_of was kind ≡ range → IfSome range (IsTornTo name old kind) → IfSome range (IsTornTo name new kind)
      stays None is torn = tt
      stays (Some w) is torn =
          ⊎_elim
          (λ same. (
            torn.0,
            subst (λ (f : ℕ). IsTornAt new (name kind f) w.at w.len) (sym same.1)
                (this w is same.1 (subst (λ (f : ℕ). IsTornAt old (name kind f) w.at w.len) same.1 torn.1)),
          ))
          (λ differs. torn_apart kind w differs torn)
          (same_or_apart kind file kind w.number)

  -- after writes within a range
  pub after_part : (at len : ℕ) (deeds : List FileDeed) → AreWrites at len deeds → new ≡ done_to old (name kind file) deeds
      → (was now : Option Written) → AfterPart file at len was now → IfSome was (IsTornTo name old kind) → IfSome now (IsTornTo name new kind)
  after_part at len deeds writes whole was None after torn = tt
  after_part at len deeds writes whole None (Some x) after torn = absurd after
  after_part at len deeds writes whole (Some w) (Some x) after torn =
      subst (IsTornTo name new kind) (sym after.0)
      (⊎_elim
      (λ differs. torn_apart kind w (inr differs) torn)
      (λ within. torn_stays w (λ this. subst (λ (p : FolderPast). IsTornAt p (name kind file) w.at w.len) (sym whole)
      (torn_writes old (name kind file) w.at w.len at len deeds writes within.0 within.1 this)) torn)
      after.1)

  -- after a write of which all bytes may be torn
  pub after_whole : (at len : ℕ) (deeds : List FileDeed) → AreWrites at len deeds → new ≡ done_to old (name kind file) deeds
      → ((start : ℕ) → IsTornAt old (name kind file) start 0 → IsTornAt new (name kind file) at len)
      → (was now : Option Written) → AfterWhole file at len was now → IfSome was (IsTornTo name old kind) → IfSome now (IsTornTo name new kind)
  after_whole at len deeds writes whole fresh was None after torn = tt
  after_whole at len deeds writes whole fresh None (Some x) after torn = absurd after
  after_whole at len deeds writes whole fresh (Some w) (Some x) (inl after) torn = after_part at len deeds writes whole (Some w) (Some x) after torn
  after_whole at len deeds writes whole fresh (Some w) (Some x) (inr after) torn =
      let n : List ℕ = name kind file in
      let was : IsTornAt old n w.at 0 =
      subst (λ (l : ℕ). IsTornAt old n w.at l) after.1 (subst (λ (f : ℕ). IsTornAt old (name kind f) w.at w.len) after.0 torn.1) in
      subst (IsTornTo name new kind) (sym after.2)
      (torn.0, subst (λ (f : ℕ). IsTornAt new (name kind f) at len) (sym after.0) (fresh w.at was))

  -- after a cut that failed
  pub after_cut_part : (was now : Option Written) → AfterCutPart file was now → IfSome was (IsTornTo name old kind) → IfSome now (IsTornTo name new kind)
  after_cut_part was None after torn = tt
  after_cut_part None (Some x) after torn = absurd after
  after_cut_part (Some w) (Some x) after torn = subst (IsTornTo name new kind) (sym after.0) (torn_apart kind w (inr after.1) torn)

  -- after a cut that was done
  pub after_cut : ((start : ℕ) → IsTornAt old (name kind file) start 0 → IsTornAt new (name kind file) 0 0)
      → (was now : Option Written) → AfterCut file was now → IfSome was (IsTornTo name old kind) → IfSome now (IsTornTo name new kind)
  after_cut fresh was None after torn = tt
  after_cut fresh None (Some x) after torn = absurd after
  after_cut fresh (Some w) (Some x) (inl after) torn = after_cut_part (Some w) (Some x) after torn
  after_cut fresh (Some w) (Some x) (inr after) torn =
      let n : List ℕ = name kind file in
      let was : IsTornAt old n w.at 0 =
      subst (λ (l : ℕ). IsTornAt old n w.at l) after.1 (subst (λ (f : ℕ). IsTornAt old (name kind f) w.at w.len) after.0 torn.1) in
      subst (IsTornTo name new kind) (sym after.2)
      (torn.0, subst (λ (f : ℕ). IsTornAt new (name kind f) 0 w.len) (sym after.0) (subst (λ (l : ℕ). IsTornAt new n 0 l) (sym after.1) (fresh w.at was)))

  -- after a sync that was done
  pub after_sync : IsTornAt new (name kind file) 0 0
      → (was now : Option Written) → AfterSync file was now → IfSome was (IsTornTo name old kind) → IfSome now (IsTornTo name new kind)
  after_sync fresh was now (inl after) torn = subst (λ (r : Option Written). IfSome r (IsTornTo name new kind)) (sym after.0) (small, fresh)
  after_sync fresh None now (inr after) torn = subst (λ (r : Option Written). IfSome r (IsTornTo name new kind)) (sym after.0) tt
  after_sync fresh (Some w) now (inr after) torn = subst (λ (r : Option Written). IfSome r (IsTornTo name new kind)) (sym after.0) (torn_apart kind w (inr after.1) torn)

-- ---- what is in doubt, after a call

pub whole_stays : (number at len : ℕ) (was now : Option Written) → AfterWhole number at len was now → IsTrue (is_some now) → doubt_in now ≡ doubt_in was
whole_stays number at len was None after some = absurd (true≢false (sym some))
whole_stays number at len None (Some x) after some = absurd after
whole_stays number at len (Some w) (Some x) (inl after) some = ap (λ (r : Written). doubt_in (Some r)) after.0
whole_stays number at len (Some w) (Some x) (inr after) some = ap (λ (r : Written). doubt_in (Some r)) after.2

pub part_stays : (number at len : ℕ) (was now : Option Written) → AfterPart number at len was now → IsTrue (is_some now) → doubt_in now ≡ doubt_in was
part_stays number at len was None after some = absurd (true≢false (sym some))
part_stays number at len None (Some x) after some = absurd after
part_stays number at len (Some w) (Some x) after some = ap (λ (r : Written). doubt_in (Some r)) after.0

pub cut_stays : (number : ℕ) (was now : Option Written) → AfterCut number was now → IsTrue (is_some now) → doubt_in now ≡ doubt_in was
cut_stays number was None after some = absurd (true≢false (sym some))
cut_stays number None (Some x) after some = absurd after
cut_stays number (Some w) (Some x) (inl after) some = ap (λ (r : Written). doubt_in (Some r)) after.0
cut_stays number (Some w) (Some x) (inr after) some = ap (λ (r : Written). doubt_in (Some r)) after.2

pub cut_part_stays : (number : ℕ) (was now : Option Written) → AfterCutPart number was now → IsTrue (is_some now) → doubt_in now ≡ doubt_in was
cut_part_stays number was None after some = absurd (true≢false (sym some))
cut_part_stays number None (Some x) after some = absurd after
cut_part_stays number (Some w) (Some x) after some = ap (λ (r : Written). doubt_in (Some r)) after.0

module _ (name : Kind → ℕ → List ℕ) (kind : Kind) (was now : Trust) where
  -- what is in doubt of the other kind stays in doubt
  doubt_of_other : (range : Option Written) (gave_up : Bool) → now ≡ with_range kind range (record was { gave_up = gave_up }) → (k : Kind) → k ≢ kind → doubts_of now k ≡ doubts_of was k
  doubt_of_other range gave_up only k differs =
      ap (λ (t : Trust). doubts_of t k) only
      ∙ ap doubt_in (range_other kind range (record was { gave_up = gave_up }) k differs ∙ range_gave gave_up was k)

  doubt_of_this : (range : Option Written) (gave_up : Bool) → now ≡ with_range kind range (record was { gave_up = gave_up }) → doubts_of now kind ≡ doubt_in range
  doubt_of_this range gave_up only =
      ap (λ (t : Trust). doubts_of t kind) only ∙ ap doubt_in (range_with kind range (record was { gave_up = gave_up }))

  pub doubts_go_on : (After : Option Written → Option Written → Type 0) → ((old new : Option Written) → After old new → IsTrue (is_some new) → doubt_in new ≡ doubt_in old)
      → (on : GoesOn kind After was now) → now.gave_up ≡ false → (m : List ℕ) → IsInDoubt name (doubts_of was) m → IsInDoubt name (doubts_of now) m
  doubts_go_on After stays on goes m (k, f, is, named) = (
    k,
    f,
    ⊎_elim
        (λ same.
        let here : doubt_in (range_of was kind) ≡ Some f = subst (λ (kk : Kind). doubts_of was kk ≡ Some f) same is in
        let kept : doubt_in on.range ≡ Some f =
        ⊎_elim
        (λ none. absurd (none-some f (sym none ∙ here)))
        (λ some. stays (range_of was kind) on.range on.after some ∙ here)
        (on.doubt goes) in
        subst (λ (kk : Kind). doubts_of now kk ≡ Some f) (sym same) (doubt_of_this on.range now.gave_up on.only ∙ kept))
        (λ differs. doubt_of_other on.range now.gave_up on.only k differs ∙ is)
        (same_kind_or_other k kind),
    named,
  )

  pub doubts_after_sync : (number : ℕ) → (on : SyncedTo kind number was now) → (m : List ℕ) → IsInDoubt name (doubts_of was) m → (m ≡ name kind number) ⊎ IsInDoubt name (doubts_of now) m
  doubts_after_sync number on m (k, f, is, named) =
      ⊎_elim
      (λ same.
      let here : doubt_in (range_of was kind) ≡ Some f = subst (λ (kk : Kind). doubts_of was kk ≡ Some f) same is in
      ⊎_elim
      (λ synced.
      ⊎_elim
      (λ none. absurd (none-some f (sym none ∙ here)))
      (λ this. inl (named ∙ (λ i. name (same i) (same_Some f number (sym here ∙ this) i))))
      synced.1)
      (λ other. inr (k, f, subst (λ (kk : Kind). doubts_of now kk ≡ Some f) (sym same) (doubt_of_this on.range was.gave_up on.only ∙ ap doubt_in other.0 ∙ here), named))
      on.after)
      (λ differs. inr (k, f, doubt_of_other on.range was.gave_up on.only k differs ∙ is, named))
      (same_kind_or_other k kind)

  pub doubts_after_failure : (number : ℕ) (range : Written) → range_of was kind ≡ Some range → range.number ≡ number → now ≡ with_range kind (Some (record range { in_doubt = true })) was
      → ((m : List ℕ) → IsInDoubt name (doubts_of was) m → IsInDoubt name (doubts_of now) m) × IsInDoubt name (doubts_of now) (name kind number)
  doubts_after_failure number range had its only = (
    (λ m doubt. (
      doubt.0,
      doubt.1,
      ⊎_elim
          (λ same.
          let here : doubt_in (Some range) ≡ Some doubt.1 = ap doubt_in (sym had) ∙ subst (λ (kk : Kind). doubts_of was kk ≡ Some doubt.1) same doubt.2 in
          let number_is : range.number ≡ doubt.1 = its_number (doubted_range (Some range) doubt.1 here) in
          subst (λ (kk : Kind). doubts_of now kk ≡ Some doubt.1) (sym same)
          (doubt_of_this (Some (record range { in_doubt = true })) was.gave_up only ∙ ap (λ (f : ℕ). Some f) number_is))
          (λ differs. doubt_of_other (Some (record range { in_doubt = true })) was.gave_up only doubt.0 differs ∙ doubt.2)
          (same_kind_or_other doubt.0 kind),
      doubt.3,
    )),
    (kind, number, doubt_of_this (Some (record range { in_doubt = true })) was.gave_up only ∙ ap (λ (f : ℕ). Some f) its, refl),
  )
    where
      its_number : {f : ℕ} → (w : Written) × (Some range ≡ Some w) × (w.number ≡ f) → range.number ≡ f
      its_number (w, same, is) = (λ i. (same_Some range w same i).number) ∙ is

-- a file that isn't in doubt, by its number
pub not_in_doubt : (name : Kind → ℕ → List ℕ) → NamesApart name → (past : FolderPast) (trust : Trust) (kind : Kind) (file : ℕ) → file < 2 ^ 32 → AreTorn name past trust
    → doubt_in (range_of trust kind) ≢ Some file → IsInDoubt name (doubts_of trust) (name kind file) → ⊥
not_in_doubt name apart past trust kind file small torn sure (k, f, is, named) =
    let found = doubted_range (range_of trust k) f is in
    let few : f < 2 ^ 32 = number_few found (subst (λ (r : Option Written). IfSome r (IsTornTo name past k)) found.1 (torn k)) in
    ⊎_elim
    (λ same. sure (subst (λ (kk : Kind). doubt_in (range_of trust kk) ≡ Some file) same.0 (is ∙ ap (λ (x : ℕ). Some x) same.1)))
    (λ differs. apart kind file k f small few differs (sym named))
    (same_or_apart kind file k f)
  where
    number_few : (found : (w : Written) × (range_of trust k ≡ Some w) × (w.number ≡ f)) → IsTornTo name past k found.0 → f < 2 ^ 32
    number_few found its = omega (arith, its.0, found.2)
