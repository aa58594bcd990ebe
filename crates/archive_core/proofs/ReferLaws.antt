-- What a new capture refers to has the digest of its payload, whatever the disk tells.
use Rattle.std.proofs.Common.{◌≡◌, ◌⊎◌, ℕ, ◌<◌, Bool, true, false, IsTrue, List, [], ◌∷◌, ◌++◌, length, Option, Some, None, refl, sym, ap, subst, ◌∙◌, inl, inr, ⊎_elim, arith}
use Rattle.std.specs.Prelude.{Contains, IfSome, slice_get}
use Rattle.std.proofs.lemmas.Option.{same_Some, slice_get_within}
use Rattle.sha1.specs.Sha1.{sha1}
use Rattle.capture.specs.Captures.{captures}
use Rattle.capture.specs.declared.captured.Kept.{Kept}
use Rattle.capture.specs.declared.captured.Stored.{Stored}
use Rattle.capture.specs.declared.captured.Taken.{Taken}
use Rattle.capture.proofs.PayloadLaws.{captures_have_one}
use Rattle.index_entry.proofs.Members.{Among-append, among_from_contains, contains_from_among}
use Rattle.index_entry.specs.Facts.{Facts}
use Rattle.disk_model.specs.declared.disk.Disk.{Ghosts}
use Rattle.archive_shelf.specs.Comparing.{CanRefer, HasDigestOf, HasRequest, IsSameAs, KeepsWire, RefersAsShown, RefersBy, RefersByDigest}
use Rattle.archive_shelf.specs.Contents.{LeadsShown}
use Rattle.archive_volumes.proofs.KeepLaws.{refers_within}
use Rattle.archive_volumes.specs.Spots.{form_of, is_same_form}
use Rattle.archive_volumes.specs.declared.spot.Spot.{Spot}
use Rattle.archive_reading.proofs.DigestLaws.{has_own}
use Rattle.archive_payloads.proofs.ChooseLaws.{there_is}
use Rattle.archive_payloads.specs.Choosing.{IsKeptWith}
use Rattle.archive_index.specs.Shown.{numbered}
use Rattle.archive_core.specs.Holdings.{Holdings, IsArchive, contents_of}
use Rattle.archive_core.specs.Looking.{IsDigestOf, IsFoundThere, RefersThere, RefersTo}
use Rattle.archive_core.proofs.MatchLaws.{Has}
use Rattle.archive_core.proofs.NamedLaws.{digest_shown}

-- ---- from the digest that is kept

module _ {D : Type 0} (d : Ghosts D) (held : Holdings D) (is : IsArchive d held) (digest : List ℕ) where
  module _ (number : ℕ) (keeps : KeepsWire held.book number) (kept : IsKeptWith held.spots digest number) where
    below : number < length (captures held.book)
    below = slice_get_within (captures held.book) number keeps.stored keeps.placed

    there : (spot : Spot) × (slice_get held.spots number ≡ Some spot)
    there = there_is held.spots number (omega (arith, below, is.spots.count))

    -- it isn't a revisit
    own : is_same_form there.0.form ≡ false
    own =
        let its = is.spots.each number there.0 there.1 in
        let same : its.stored ≡ keeps.stored = same_Some its.stored keeps.stored (sym its.placed ∙ keeps.placed) in
        its.revisit ∙ ap (λ (s : Stored). is_same_form (form_of s.kept)) same ∙ ap (λ (k : Kept). is_same_form (form_of k)) keeps.kept

    has_digest : HasRequest held.book number → HasDigestOf held.book number digest
    has_digest asked =
        subst (HasDigestOf held.book number) (kept there.0 there.1)
        (has_own held.book number there.0 (is.spots.each number there.0 there.1) own asked)

  -- an entry that is shown under an earlier number was shown before
  shown_before : (count number : ℕ) (was now : List Facts) → LeadsShown true (Some count) was now → number < count → (entry : Facts) → Contains now entry
      → entry.number ≡ number → Contains was entry
  shown_before count number was now (inl same) less entry has at = subst (λ (l : List Facts). Contains l entry) same has
  shown_before count number was now (inr more) less entry has at = ⊎_elim
      (λ old. contains_from_among was entry old)
      (λ new. absurd (other new))
      (Among-append was (more.0 ∷ []) entry (among_from_contains (was ++ more.0 ∷ []) entry (subst (λ (l : List Facts). Contains l entry) more.2 has)))
    where
      other : (more.0 ≡ entry) ⊎ ⊥ → ⊥
      other (inl same) = let number_is : more.0.number ≡ entry.number = ap (λ (f : Facts). f.number) same in omega (arith, less, at, number_is, more.1)
      other (inr none) = none

  module _ (taken : Taken) (of : IsDigestOf taken digest) where
    by_kept : (cut : Bool) (same : Option ℕ) → CanRefer cut held.book same → IfSome same (IsKeptWith held.spots digest) → RefersByDigest held.book taken same
    by_kept cut None can kept = λ payload has. tt
    by_kept true (Some number) can kept = absurd (let no : ⊥ = cc can in no)
    by_kept false (Some number) can kept = λ payload has asked. subst (HasDigestOf held.book number) (of payload has) (has_digest number can kept asked)

    pub refers_by_digest : (same : Option ℕ) → CanRefer taken.cut held.book same → IfSome same (IsKeptWith held.spots digest) → RefersByDigest held.book taken same
    refers_by_digest same can kept = by_kept taken.cut same can kept

    shown_by : (same : Option ℕ) (now : List Facts) → IfSome same (λ first. first < length (captures held.book)) → IfSome same (IsKeptWith held.spots digest)
        → LeadsShown true (Some (length (captures held.book))) (numbered held.index) now → RefersAsShown now taken same
    shown_by None now within kept leads = λ payload has. tt
    shown_by (Some number) now within kept leads = λ payload has entry shown at.
        digest_shown d held number is digest (λ spot here. sym (kept spot here)) entry
        (shown_before (length (captures held.book)) number (numbered held.index) now leads within entry shown at) at ∙ of payload has

    pub refers_as_shown : (same : Option ℕ) (now : List Facts) → CanRefer taken.cut held.book same → IfSome same (IsKeptWith held.spots digest)
        → LeadsShown true (Some (length (captures held.book))) (numbered held.index) now → RefersAsShown now taken same
    refers_as_shown same now can kept leads = shown_by same now (refers_within taken.cut held.book same can) kept leads

-- ---- which digest is kept

-- of what was found by reading
kept_by : {D : Type 0} (d : Ghosts D) (held : Holdings D) (payload digest : List ℕ) (same : Option ℕ) → digest ≡ sha1 payload
    → IfSome same (IsFoundThere d held payload) → IfSome same (IsKeptWith held.spots digest)
kept_by d held payload digest None is found = tt
kept_by d held payload digest (Some number) is found = subst (λ (b : List ℕ). IsKeptWith held.spots b number) (sym is) found.kept

pub kept_there : {D : Type 0} (d : Ghosts D) (held : Holdings D) (taken : Taken) (payload digest : List ℕ) (same : Option ℕ) → Has taken payload
    → IsDigestOf taken digest → RefersThere d held taken same → IfSome same (IsKeptWith held.spots digest)
kept_there d held taken payload digest same has of there = kept_by d held payload digest same (of payload has) (there payload has)

-- of what was found before, where the book is told
module _ {D : Type 0} (d : Ghosts D) (held : Holdings D) (is : IsArchive d held) (taken : Taken) (digest : List ℕ) (of : IsDigestOf taken digest)
    (told : IsTrue held.told) where
  told_by : (cut : Bool) (same : Option ℕ) (payload : List ℕ) → Has taken payload → RefersBy cut held.book (length (captures held.book)) payload same
      → IfSome same (IsKeptWith held.spots digest)
  told_by cut None payload has refers = tt
  told_by true (Some number) payload has refers = absurd (let no : ⊥ = cc refers in no)
  told_by false (Some number) payload has refers = λ spot here.
      let placed = (is.placed told).each number spot here in
      placed.digest ∙ ap sha1 (captures_have_one held.book number placed.payload payload placed.has refers.2.has) ∙ sym (of payload has)

  pub kept_told : (same : Option ℕ) → IsSameAs held.book taken same → IfSome same (IsKeptWith held.spots digest)
  kept_told same does = told_by taken.cut same does.payload does.has does.refers

-- ---- what is taken of what was found

-- a new capture may refer to nothing
none_can : (cut : Bool) {D : Type 0} (held : Holdings D) → CanRefer cut held.book None
none_can true held = refl
none_can false held = tt

module _ {D : Type 0} (d : Ghosts D) (held : Holdings D) (is : IsArchive d held) (taken : Taken) (digest : List ℕ) (of : IsDigestOf taken digest)
    (same kept : Option ℕ) (one : (kept ≡ same) ⊎ (kept ≡ None)) (all : IfSome same (IsKeptWith held.spots digest) → kept ≡ same) where
  pub refers_still : RefersTo (contents_of held) taken same → RefersTo (contents_of held) taken kept
  refers_still refers = record {
    can = ⊎_elim
        (λ so. subst (λ (o : Option ℕ). CanRefer taken.cut held.book o) (sym so) refers.can)
        (λ none. subst (λ (o : Option ℕ). CanRefer taken.cut held.book o) (sym none) (none_can taken.cut held))
        one;
    does = λ told.
        subst (λ (o : Option ℕ). IsSameAs held.book taken o) (sym (all (kept_told d held is taken digest of told same (refers.does told)))) (refers.does told);
  }

-- it was found there still
pub there_still : {D : Type 0} (d : Ghosts D) (held : Holdings D) (taken : Taken) (same kept : Option ℕ) → (kept ≡ same) ⊎ (kept ≡ None)
    → RefersThere d held taken same → RefersThere d held taken kept
there_still d held taken same kept one there = ⊎_elim
    (λ so. subst (RefersThere d held taken) (sym so) there)
    (λ none. subst (RefersThere d held taken) (sym none) (λ payload has. tt))
    one
