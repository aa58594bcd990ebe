-- Which captures may have a payload, and what was found of it among all captures.
use Rattle.std.proofs.Common.{◌≡◌, ◌≢◌, ℕ, zero, suc, ◌+◌, ◌-◌, ◌<◌, ◌≤◌, Bool, true, false, not, IsTrue, if◌then◌else◌, List, [], ◌∷◌, length, get_or, Option, Some, None, Result, Ok, Err, refl, sym, ap, subst, ◌∙◌, ⊎_elim, arith}
use Rattle.std.specs.Prelude.{◌==◌, IfOk, IfSome, IsErrAnd, filter, nat_le, slice_get}
use Rattle.std.specs.List.Sorted.{IsStrictlyIncreasing}
use Rattle.std.specs.Str.{bytes_eq}
use Rattle.std.proofs.lemmas.Bool.{cases_lt, eqb-true, false≢true, le-leb, leb-true}
use Rattle.std.proofs.lemmas.Option.{same_Some, slice_get-get_or, slice_get_within}
use Rattle.std.proofs.lemmas.Slice.Eq.{bytes_eq-Decides}
use Rattle.sha1.specs.Sha1.{sha1}
use Rattle.capture.specs.BodyLaws.{CapturesHaveOnePayload, WiresHaveOnePayload}
use Rattle.capture.specs.Captures.{captures, is_cut, IsPayloadBy, IsPayloadOf}
use Rattle.capture.specs.Payload.{IsPayload}
use Rattle.capture.specs.Soundness.{IsSoundBy}
use Rattle.capture.specs.declared.book.Book.{Book}
use Rattle.capture.specs.declared.captured.Kept.{Kept}
use Rattle.capture.specs.declared.captured.Kept.TheVariants.{Wire, Same, Cut}
use Rattle.capture.specs.declared.captured.Stored.{Stored}
use Rattle.capture.specs.declared.framing.Framing.{Framing}
use Rattle.capture.specs.declared.framing.Framing.TheVariants.{Empty, Length, Chunked, ToEnd}
use Rattle.revisit_table.specs.Table.{numbers_of}
use Rattle.warc_text.specs.Sound.{IsSound}
use Rattle.archive_shelf.specs.Comparing.{RefersBy, HasWhole, IsRight, KeepsWire}
use Rattle.archive_shelf.specs.declared.fault.StoreFault.{StoreFault}
use Rattle.archive_shelf.specs.declared.fault.StoreFault.TheVariants as stores
use Rattle.archive_shelf.specs.declared.looked.Looked.{Looked}
use Rattle.archive_reading.proofs.BringLaws.{found_is, place_at, spot_at}
use Rattle.archive_reading.specs.Bringing.{IsKept}
use Rattle.archive_payloads.specs.Choosing.{Chooses, Compares, ComparesWith, IsFirstOf, IsKeptWith, LooksOn, NoneDamagedBelow, NoneHas, OnSame}
use Rattle.archive_volumes.specs.Spots.{ArePlaced, AreSpotsOf, IsPlaced, IsSpotOf, MayBeWhole, MayBeWholeAt, form_of, head_in, is_cut_form, is_same_form, is_told_form, may_be_whole, whole_from, wire_in}
use Rattle.archive_reading.specs.Decoding.{Decodes, HoldsPayload, TellsFraming, is_plain}
use Rattle.archive_reading.specs.Rereading.{HaveDigest}
use Rattle.archive_payloads.specs.declared.compare.Compared.{Compared}
use Rattle.archive_payloads.specs.declared.compare.Compared.TheVariants as compares
use Rattle.archive_reading.specs.declared.part.ReadFault.{ReadFault}
use Rattle.archive_volumes.specs.declared.spot.Form.{Form}
use Rattle.archive_volumes.specs.declared.spot.Form.TheVariants as forms
use Rattle.archive_volumes.specs.declared.spot.Spot.{Spot}

-- ---- lists of numbers

-- a number stands in a list
pub record Stands (xs : List ℕ) (n : ℕ) : Type 0 where
  pub place : ℕ
  pub within : place < length xs
  pub is : n ≡ get_or xs place 0

first_stands : (x : ℕ) (xs : List ℕ) → Stands (x ∷ xs) x
first_stands x xs = record { place = 0; within = omega arith; is = refl }

later_stands : (x : ℕ) (xs : List ℕ) (n : ℕ) → Stands xs n → Stands (x ∷ xs) n
later_stands x xs n s = record { place = suc s.place; within = omega (arith, s.within); is = s.is }

stands_by : (P : ℕ → Type 0) (x : ℕ) (xs : List ℕ) (n : ℕ) → Stands (x ∷ xs) n → (n ≡ x → P n) → (Stands xs n → P n) → P n
stands_by P x xs n s here there = at s.place s.within s.is
  where
    at : (k : ℕ) → k < length (x ∷ xs) → n ≡ get_or (x ∷ xs) k 0 → P n
    at zero less is = here is
    at (suc k) less is = there (record { place = k; within = omega (arith, less); is = is })

-- those of a list that are at least so great
abbrev at_least : ℕ → List ℕ → List ℕ
at_least upto xs = filter (λ number. nat_le upto number) xs

module _ (upto : ℕ) where
  least_by : (b : Bool) → (x : ℕ) (xs : List ℕ) → nat_le upto x ≡ b → at_least upto (x ∷ xs) ≡ (if b then x ∷ at_least upto xs else at_least upto xs)
  least_by b x xs e = ap (λ (t : Bool). if t then x ∷ at_least upto xs else at_least upto xs) e

  stands_least : (xs : List ℕ) (n : ℕ) → upto ≤ n → Stands xs n → Stands (at_least upto xs) n
  stands_least [] n le s = absurd (omega (arith, s.within))
  stands_least (x ∷ xs) n le s = stands_by (λ (m : ℕ). Stands (at_least upto (x ∷ xs)) m) x xs n s
      (λ is. subst (λ (l : List ℕ). Stands l n) (sym (least_by true x xs (le-leb upto x (omega (arith, le, is)))))
      (subst (λ (m : ℕ). Stands (x ∷ at_least upto xs) m) (sym is) (first_stands x (at_least upto xs))))
      (λ there. kept (nat_le upto x) refl (stands_least xs n le there))
    where
      kept : (b : Bool) → nat_le upto x ≡ b → Stands (at_least upto xs) n → Stands (at_least upto (x ∷ xs)) n
      kept true e there = subst (λ (l : List ℕ). Stands l n) (sym (least_by true x xs e)) (later_stands x (at_least upto xs) n there)
      kept false e there = subst (λ (l : List ℕ). Stands l n) (sym (least_by false x xs e)) there

  stood_least : (xs : List ℕ) (n : ℕ) → Stands (at_least upto xs) n → Stands xs n
  stood_least [] n s = absurd (omega (arith, s.within))
  stood_least (x ∷ xs) n s = kept (nat_le upto x) refl (λ there. stood_least xs n there)
    where
      kept : (b : Bool) → nat_le upto x ≡ b → (Stands (at_least upto xs) n → Stands xs n) → Stands (x ∷ xs) n
      kept true e stood = stands_by (λ (m : ℕ). Stands (x ∷ xs) m) x (at_least upto xs) n (subst (λ (l : List ℕ). Stands l n) (least_by true x xs e) s)
          (λ is. subst (λ (m : ℕ). Stands (x ∷ xs) m) (sym is) (first_stands x xs))
          (λ there. later_stands x xs n (stood there))
      kept false e stood = later_stands x xs n (stood (subst (λ (l : List ℕ). Stands l n) (least_by false x xs e) s))

  least_above : (xs : List ℕ) (n : ℕ) → Stands (at_least upto xs) n → upto ≤ n
  least_above [] n s = absurd (omega (arith, s.within))
  least_above (x ∷ xs) n s = kept (nat_le upto x) refl (λ there. least_above xs n there)
    where
      kept : (b : Bool) → nat_le upto x ≡ b → (Stands (at_least upto xs) n → upto ≤ n) → upto ≤ n
      kept true e above = stands_by (λ (m : ℕ). upto ≤ m) x (at_least upto xs) n (subst (λ (l : List ℕ). Stands l n) (least_by true x xs e) s)
          (λ is. omega (arith, is, leb-true upto x e))
          above
      kept false e above = above (subst (λ (l : List ℕ). Stands l n) (least_by false x xs e) s)

-- ---- the captures that keep their whole wire, or may do so

-- such a capture, with this digest, stands at a place behind a number
record WholeBehind (digest : List ℕ) (from : ℕ) (spots : List Spot) (n : ℕ) : Type 0 where
  place : ℕ
  spot : Spot
  placed : slice_get spots place ≡ Some spot
  whole : may_be_whole spot.form ≡ true
  digested : spot.digest ≡ digest
  is : n ≡ from + place

behind_next : (digest : List ℕ) (from : ℕ) (s : Spot) (ss : List Spot) (n : ℕ) → WholeBehind digest (suc from) ss n → WholeBehind digest from (s ∷ ss) n
behind_next digest from s ss n w = record { place = suc w.place; spot = w.spot; placed = w.placed; whole = w.whole; digested = w.digested; is = omega (arith, w.is) }

module _ (digest : List ℕ) where
  step_by : (b : Bool) (same : Bool) (from : ℕ) (s : Spot) (ss : List Spot) → may_be_whole s.form ≡ b → bytes_eq s.digest digest ≡ same
      → numbers_of digest (whole_from from (s ∷ ss)) ≡ (if b then (if same then from ∷ numbers_of digest (whole_from (suc from) ss) else numbers_of digest (whole_from (suc from) ss))
      else numbers_of digest (whole_from (suc from) ss))
  step_by true true from s ss e d = rw (e, d) refl
  step_by true false from s ss e d = rw (e, d) refl
  step_by false same from s ss e d = rw e refl

  -- each number of the digest is that of such a capture
  number_whole : (from : ℕ) (spots : List Spot) (n : ℕ) → Stands (numbers_of digest (whole_from from spots)) n → WholeBehind digest from spots n
  number_whole from [] n s = absurd (omega (arith, s.within))
  number_whole from (s ∷ ss) n stands = by (may_be_whole s.form) (bytes_eq s.digest digest) refl refl (λ there. behind_next digest from s ss n (number_whole (suc from) ss n there))
    where
      by : (b same : Bool) → may_be_whole s.form ≡ b → bytes_eq s.digest digest ≡ same
          → (Stands (numbers_of digest (whole_from (suc from) ss)) n → WholeBehind digest from (s ∷ ss) n) → WholeBehind digest from (s ∷ ss) n
      by true true e d next = stands_by (λ (m : ℕ). WholeBehind digest from (s ∷ ss) m) from (numbers_of digest (whole_from (suc from) ss)) n
          (subst (λ (l : List ℕ). Stands l n) (step_by true true from s ss e d) stands)
          (λ is. record { place = 0; spot = s; placed = refl; whole = e; digested = (bytes_eq-Decides s.digest digest).0 d; is = omega (arith, is) })
          next
      by true false e d next = next (subst (λ (l : List ℕ). Stands l n) (step_by true false from s ss e d) stands)
      by false same e d next = next (subst (λ (l : List ℕ). Stands l n) (step_by false same from s ss e d) stands)

  -- each such capture with this digest has its number there
  pub whole_number : (from : ℕ) (spots : List Spot) (k : ℕ) (spot : Spot) → slice_get spots k ≡ Some spot → may_be_whole spot.form ≡ true → spot.digest ≡ digest
      → Stands (numbers_of digest (whole_from from spots)) (from + k)
  whole_number from [] k spot at whole same = cc
  whole_number from (s ∷ ss) zero spot at whole same =
      let is : s ≡ spot = same_Some s spot at in
      subst (λ (l : List ℕ). Stands l (from + 0))
      (sym (step_by true true from s ss (ap (λ (p : Spot). may_be_whole p.form) is ∙ whole) ((bytes_eq-Decides s.digest digest).1 (ap (λ (p : Spot). p.digest) is ∙ same))))
      (subst (λ (m : ℕ). Stands (from ∷ numbers_of digest (whole_from (suc from) ss)) m) (sym (no_more from)) (first_stands from (numbers_of digest (whole_from (suc from) ss))))
    where
      no_more : (m : ℕ) → m + 0 ≡ m
      no_more m = omega arith
  whole_number from (s ∷ ss) (suc k) spot at whole same =
      subst (λ (m : ℕ). Stands (numbers_of digest (whole_from from (s ∷ ss))) m) (one_more from k)
      (by (may_be_whole s.form) (bytes_eq s.digest digest) refl refl (whole_number (suc from) ss k spot at whole same))
    where
      one_more : (m j : ℕ) → suc m + j ≡ m + suc j
      one_more m j = omega arith

      by : (b other : Bool) → may_be_whole s.form ≡ b → bytes_eq s.digest digest ≡ other → Stands (numbers_of digest (whole_from (suc from) ss)) (suc from + k)
          → Stands (numbers_of digest (whole_from from (s ∷ ss))) (suc from + k)
      by true true e d there = subst (λ (l : List ℕ). Stands l (suc from + k)) (sym (step_by true true from s ss e d))
          (later_stands from (numbers_of digest (whole_from (suc from) ss)) (suc from + k) there)
      by true false e d there = subst (λ (l : List ℕ). Stands l (suc from + k)) (sym (step_by true false from s ss e d)) there
      by false other e d there = subst (λ (l : List ℕ). Stands l (suc from + k)) (sym (step_by false other from s ss e d)) there

-- ---- candidates

abbrev candidates_of : ℕ → List ℕ → List Spot → List ℕ
candidates_of upto payload spots = at_least upto (numbers_of (sha1 payload) (whole_from 0 spots))

-- each keeps its whole wire
pub candidates_whole : (upto : ℕ) (payload : List ℕ) (spots : List Spot) (candidates : List ℕ) → candidates ≡ candidates_of upto payload spots → MayBeWhole spots candidates
candidates_whole upto payload spots candidates are k less =
    let n : ℕ = get_or candidates k 0 in
    let stands : Stands (candidates_of upto payload spots) n = subst (λ (l : List ℕ). Stands l n) are (record { place = k; within = less; is = refl }) in
    let w = number_whole (sha1 payload) 0 spots n (stood_least upto (numbers_of (sha1 payload) (whole_from 0 spots)) n stands) in
    record { spot = w.spot; placed = ap (slice_get spots) (w.is ∙ none w.place) ∙ w.placed; whole = w.whole }
  where
    none : (m : ℕ) → 0 + m ≡ m
    none m = omega arith

-- the payload's digest is kept of the one that is chosen
pub chosen_kept : (tells : Bool) (book : Book) (upto : ℕ) (payload : List ℕ) (spots : List Spot) (candidates : List ℕ) → candidates ≡ candidates_of upto payload spots
    → (same : Option ℕ) → Chooses tells book candidates payload (Ok same) → IfSome same (IsKeptWith spots (sha1 payload))
chosen_kept tells book upto payload spots candidates are None none_has = tt
chosen_kept tells book upto payload spots candidates are (Some found) first = λ spot at.
    let stands : Stands (candidates_of upto payload spots) found =
    subst (λ (l : List ℕ). Stands l found) are (record { place = first.place; within = first.within; is = first.is }) in
    let w = number_whole (sha1 payload) 0 spots found (stood_least upto (numbers_of (sha1 payload) (whole_from 0 spots)) found stands) in
    ap (λ (s : Spot). s.digest) (same_Some spot w.spot (sym at ∙ ap (slice_get spots) (w.is ∙ none w.place) ∙ w.placed)) ∙ w.digested
  where
    none : (m : ℕ) → 0 + m ≡ m
    none m = omega arith

-- so are all captures with a digest, and that is kept of them
pub numbers_whole : (digest : List ℕ) (spots : List Spot) (candidates : List ℕ) → candidates ≡ numbers_of digest (whole_from 0 spots) → MayBeWhole spots candidates
numbers_whole digest spots candidates are k less =
    let n : ℕ = get_or candidates k 0 in
    let w = number_whole digest 0 spots n (subst (λ (l : List ℕ). Stands l n) are (record { place = k; within = less; is = refl })) in
    record { spot = w.spot; placed = ap (slice_get spots) (w.is ∙ none w.place) ∙ w.placed; whole = w.whole }
  where
    none : (m : ℕ) → 0 + m ≡ m
    none m = omega arith

pub numbers_digest : (digest : List ℕ) (spots : List Spot) (candidates : List ℕ) → candidates ≡ numbers_of digest (whole_from 0 spots) → HaveDigest spots candidates digest
numbers_digest digest spots candidates are k spot less at =
    let n : ℕ = get_or candidates k 0 in
    let w = number_whole digest 0 spots n (subst (λ (l : List ℕ). Stands l n) are (record { place = k; within = less; is = refl })) in
    ap (λ (s : Spot). s.digest) (same_Some spot w.spot (sym at ∙ ap (slice_get spots) (w.is ∙ none w.place) ∙ w.placed)) ∙ w.digested
  where
    none : (m : ℕ) → 0 + m ≡ m
    none m = omega arith

-- ---- numbers that rise

pub rises : (xs : List ℕ) → IsStrictlyIncreasing xs → (d k : ℕ) → k + suc d < length xs → get_or xs k 0 < get_or xs (k + suc d) 0
rises xs rising zero k less = rising k less
rises xs rising (suc d) k less =
    let before : get_or xs k 0 < get_or xs (k + suc d) 0 = rises xs rising d k (omega (arith, less)) in
    let step : get_or xs (k + suc d) 0 < get_or xs (k + suc d + 1) 0 = rising (k + suc d) (omega (arith, less)) in
    omega (arith, before, step, ap (λ (i : ℕ). get_or xs i 0) (one_more k d))
  where
    one_more : (m j : ℕ) → m + suc j + 1 ≡ m + suc (suc j)
    one_more m j = omega arith

-- the less of two stands before the other
stands_before : (xs : List ℕ) → IsStrictlyIncreasing xs → (j k : ℕ) → j < length xs → get_or xs j 0 < get_or xs k 0 → j < k
stands_before xs rising j k less below = ⊎_elim
    (λ (is : j < k). is)
    (λ (le : k ≤ j). ⊎_elim
    (λ (behind : k < j).
    let there : k + suc (j - suc k) ≡ j = omega (arith, behind) in
    let above : get_or xs k 0 < get_or xs (k + suc (j - suc k)) 0 = rises xs rising (j - suc k) k (omega (arith, there, less)) in
    absurd (omega (arith, above, below, ap (λ (i : ℕ). get_or xs i 0) there)))
    (λ (not_behind : j ≤ k). absurd (omega (arith, below, ap (λ (i : ℕ). get_or xs i 0) (both k j le not_behind))))
    (cases_lt k j))
    (cases_lt j k)
  where
    both : (a b : ℕ) → a ≤ b → b ≤ a → a ≡ b
    both a b x y = omega (arith, x, y)

-- ---- who keeps a payload

-- a capture that keeps its whole wire, of this payload, no later than another one
record Holder (book : Book) (other : ℕ) (payload : List ℕ) : Type 0 where
  number : ℕ
  no_later : number ≤ other
  has : IsPayloadOf book number payload
  wire : List ℕ
  keeps : has.stored.kept ≡ Wire wire

holder_by : (book : Book) (other : ℕ) (payload : List ℕ) (stored : Stored) → slice_get (captures book) other ≡ Some stored
    → (kept : Kept) → stored.kept ≡ kept → IsSoundBy book other stored kept → IsPayloadBy book stored kept payload → is_cut kept ≡ false
    → Holder book other payload
holder_by book other payload stored placed (Wire wire) is good has whole = record {
  number = other;
  no_later = omega arith;
  has = record { stored = stored; placed = placed; by_kept = subst (λ (k : Kept). IsPayloadBy book stored k payload) (sym is) has };
  wire = wire;
  keeps = is;
}
holder_by book other payload stored placed (Same first) is good has whole = record {
  number = first;
  no_later = omega (arith, good.earlier);
  has = record {
    stored = has.0;
    placed = has.2.placed;
    by_kept = subst (λ (k : Kept). IsPayloadBy book has.0 k payload) (sym has.2.kept) has.2.has;
  };
  wire = has.1;
  keeps = has.2.kept;
}
holder_by book other payload stored placed (Cut wire) is good has whole = absurd (false≢true (sym whole))

holder_of : (book : Book) (other : ℕ) (payload : List ℕ) → IsSound book → HasWhole book other payload → Holder book other payload
holder_of book other payload sound does =
    let has : IsPayloadOf book other payload = does.has in
    holder_by book other payload has.stored has.placed has.stored.kept refl (sound.sound.each other has.stored has.placed).kept has.by_kept does.whole

pub there_is : (spots : List Spot) (k : ℕ) → k < length spots → (spot : Spot) × (slice_get spots k ≡ Some spot)
there_is [] k less = absurd (omega (arith, less))
there_is (s ∷ ss) zero less = (s, refl)
there_is (s ∷ ss) (suc k) less = there_is ss k (omega (arith, less))

-- who keeps its whole wire is one that may do so
pub may_be : (form : Form) (kept : Kept) → (is_told_form form ≡ false → form ≡ form_of kept) → is_same_form form ≡ is_same_form (form_of kept)
    → (wire : List ℕ) → kept ≡ Wire wire → may_be_whole form ≡ true
may_be forms.Whole kept read revisit wire e = refl
may_be (forms.Same first) kept read revisit wire e = ap may_be_whole (read refl ∙ ap form_of e)
may_be forms.Cut kept read revisit wire e = ap may_be_whole (read refl ∙ ap form_of e)
may_be (forms.Told other) kept read revisit wire e = ap not (revisit ∙ ap is_same_form (ap form_of e))

-- whose form is whole keeps its whole wire
whole_kept : (kept : Kept) → may_be_whole (form_of kept) ≡ true → (wire : List ℕ) × (kept ≡ Wire wire)
whole_kept (Wire wire) e = (wire, refl)
whole_kept (Same first) e = absurd (false≢true e)
whole_kept (Cut wire) e = absurd (false≢true e)

-- no capture below a number has the payload
abbrev NoneBelow : Book → ℕ → List ℕ → Type 0
NoneBelow book upto payload = (number : ℕ) → number < upto → HasWhole book number payload → ⊥

module _ (one : CapturesHaveOnePayload) (book : Book) (spots : List Spot) (are : AreSpotsOf book spots) (texts : List (List ℕ)) (placed : ArePlaced texts book spots)
    (sound : IsSound book) (payload : List ℕ) (upto : ℕ) where
  abbrev candidates : List ℕ
  candidates = candidates_of upto payload spots

  -- who keeps it and wasn't looked at is a candidate
  holder_stands : (other : ℕ) (h : Holder book other payload) → upto ≤ h.number → Stands candidates h.number
  holder_stands other h le =
      let less : h.number < length spots = omega (arith, are.count, slice_get_within (captures book) h.number h.has.stored h.has.placed) in
      let spot : Spot = (there_is spots h.number less).0 in
      let at : slice_get spots h.number ≡ Some spot = (there_is spots h.number less).1 in
      let its : IsSpotOf book h.number spot = are.each h.number spot at in
      let place : IsPlaced texts book h.number spot = placed.each h.number spot at in
      let form : may_be_whole spot.form ≡ true =
      may_be spot.form its.stored.kept its.form its.revisit h.wire
      (ap (λ (s : Stored). s.kept) (same_Some its.stored h.has.stored (sym its.placed ∙ h.has.placed)) ∙ h.keeps) in
      let digest : spot.digest ≡ sha1 payload = place.digest ∙ ap sha1 (one book h.number place.payload payload place.has h.has) in
      stands_least upto (numbers_of (sha1 payload) (whole_from 0 spots)) h.number le
      (subst (λ (m : ℕ). Stands (numbers_of (sha1 payload) (whole_from 0 spots)) m) (none h.number) (whole_number (sha1 payload) 0 spots h.number spot at form digest))
    where
      none : (m : ℕ) → 0 + m ≡ m
      none m = omega arith

  -- nobody who was looked at keeps it
  holder_past : NoneBelow book upto payload → (other : ℕ) (h : Holder book other payload) → upto ≤ h.number
  holder_past below other h = ⊎_elim
      (λ (less : h.number < upto). absurd (below h.number less (record { has = h.has; whole = ap is_cut h.keeps })))
      (λ (le : upto ≤ h.number). le)
      (cases_lt h.number upto)

  none_below : NoneBelow book upto payload → NoneHas book candidates (length candidates) payload → (bound : ℕ) → NoneBelow book bound payload
  none_below below none bound number less does =
      let h : Holder book number payload = holder_of book number payload sound does in
      let s : Stands candidates h.number = holder_stands number h (holder_past below number h) in
      none s.place s.within (subst (λ (m : ℕ). HasWhole book m payload) s.is (record { has = h.has; whole = ap is_cut h.keeps }))

  first_below : NoneBelow book upto payload → IsStrictlyIncreasing candidates → (found place : ℕ) → found ≡ get_or candidates place 0
      → NoneHas book candidates place payload → (other : ℕ) → HasWhole book other payload → found ≤ other
  first_below below rising found place is before other does = ⊎_elim
      (λ (less : other < found).
      let h : Holder book other payload = holder_of book other payload sound does in
      let s : Stands candidates h.number = holder_stands other h (holder_past below other h) in
      let earlier : s.place < place = stands_before candidates rising s.place place s.within (omega (arith, s.is, is, h.no_later, less)) in
      absurd (before s.place earlier (subst (λ (m : ℕ). HasWhole book m payload) s.is (record { has = h.has; whole = ap is_cut h.keeps }))))
      (λ (le : found ≤ other). le)
      (cases_lt other found)

-- ---- what was found among all captures

wire_by : (book : Book) (number : ℕ) (stored : Stored) → slice_get (captures book) number ≡ Some stored → (kept : Kept) → stored.kept ≡ kept
    → is_same_form (form_of kept) ≡ false → is_cut kept ≡ false → KeepsWire book number
wire_by book number stored placed (Wire wire) is own whole = record { stored = stored; wire = wire; placed = placed; kept = is }
wire_by book number stored placed (Same first) is own whole = absurd (false≢true (sym own))
wire_by book number stored placed (Cut wire) is own whole = absurd (false≢true (sym whole))

-- who keeps its wire, and wasn't cut
pub whole_wire : (book : Book) (number : ℕ) (spot : Spot) → IsSpotOf book number spot → is_same_form spot.form ≡ false → (payload : List ℕ)
    → HasWhole book number payload → KeepsWire book number
whole_wire book number spot its own payload does =
    let stored : Stored = does.has.stored in
    let same : its.stored ≡ stored = same_Some its.stored stored (sym its.placed ∙ does.has.placed) in
    wire_by book number stored does.has.placed stored.kept refl (ap is_same_form (ap (λ (s : Stored). form_of s.kept) (sym same)) ∙ sym its.revisit ∙ own) does.whole

-- a payload of a capture that keeps its whole wire
pub has_whole : (book : Book) (number : ℕ) (payload : List ℕ) → KeepsWire book number → IsPayloadOf book number payload → HasWhole book number payload
has_whole book number payload keeps has = record {
  has = has;
  whole = ap is_cut (ap (λ (s : Stored). s.kept) (same_Some has.stored keeps.stored (sym has.placed ∙ keeps.placed)) ∙ keeps.kept);
}

module _ (tells : Bool) (book : Book) (spots : List Spot) (are : AreSpotsOf book spots) (payload : List ℕ) (looked : Looked)
    (right : IsRight tells book payload looked) where
  -- an empty payload isn't looked for
  pub right_empty : payload ≡ [] → IsRight tells book payload (record { upto = length spots; same = None })
  right_empty is = record { within = omega (arith, are.count); earlier = tt; finds = λ told some. absurd (some is) }

  -- what was found stays
  pub right_found : (same : ℕ) → looked.same ≡ Some same → IsRight tells book payload (record { upto = length spots; same = Some same })
  right_found same is =
      let was : (same < looked.upto) × KeepsWire book same = subst (λ (s : Option ℕ). IfSome s (λ number. (number < looked.upto) × KeepsWire book number)) is right.earlier in
      record {
        within = omega (arith, are.count);
        earlier = (omega (arith, was.0, right.within, are.count), was.1);
        finds = λ told.
            let found : RefersBy false book looked.upto payload (Some same) = subst (λ (s : Option ℕ). RefersBy false book looked.upto payload s) is (right.finds told) in
            (found.0, omega (arith, was.0, right.within, are.count), found.2, found.3);
      }

  module _ (one : CapturesHaveOnePayload) (texts : List (List ℕ)) (placed : IsTrue tells → ArePlaced texts book spots) (sound : IsTrue tells → IsSound book)
      (candidates : List ℕ) (is : candidates ≡ candidates_of looked.upto payload spots) (rising : IsStrictlyIncreasing candidates)
      (some : payload ≢ []) (none : looked.same ≡ None) where
    none_before : IsTrue tells → NoneBelow book looked.upto payload
    none_before told = subst (λ (s : Option ℕ). RefersBy false book looked.upto payload s) none (right.finds told) some

    -- no candidate has it
    pub right_none : (IsTrue tells → NoneHas book candidates (length candidates) payload) → IsRight tells book payload (record { upto = length spots; same = None })
    right_none none_has = record {
      within = omega (arith, are.count);
      earlier = tt;
      finds = λ told not_empty. none_below one book spots are texts (placed told) (sound told) payload looked.upto (none_before told)
          (subst (λ (l : List ℕ). NoneHas book l (length l) payload) is (none_has told)) (length spots);
    }

    -- a candidate has it
    pub right_first : (found : ℕ) → IsFirstOf tells book candidates payload found → IsRight tells book payload (record { upto = length spots; same = Some found })
    right_first found first =
        let at : MayBeWholeAt spots found =
        subst (MayBeWholeAt spots) (sym first.is) (candidates_whole looked.upto payload spots candidates is first.place first.within) in
        let less : found < length spots = slice_get_within spots found at.spot at.placed in
        record {
          within = omega (arith, are.count);
          earlier = (less, first.keeps);
          finds = λ told. (
            some,
            less,
            first.has told,
            first_below one book spots are texts (placed told) (sound told) payload looked.upto (none_before told)
                (subst IsStrictlyIncreasing is rising) found first.place (first.is ∙ ap (λ (l : List ℕ). get_or l first.place 0) is)
                (subst (λ (l : List ℕ). NoneHas book l first.place payload) is (first.before told)),
          );
        }

    pub right_chosen : (same : Option ℕ) → Chooses tells book candidates payload (Ok same) → IsRight tells book payload (record { upto = length spots; same = same })
    right_chosen (Some found) first = right_first found first
    right_chosen None none_has = right_none none_has

-- a fault that choosing met is the answer
pub looks_err : (tells : Bool) (book : Book) (spots : List Spot) → AreSpotsOf book spots → (candidates payload : List ℕ) → MayBeWhole spots candidates
    → (fault : StoreFault) → Chooses tells book candidates payload (Err fault) → LooksOn tells book payload (Err fault)
looks_err tells book spots are candidates payload whole (stores.Full count limit) chooses = chooses
looks_err tells book spots are candidates payload whole stores.DiskFault chooses = tt
looks_err tells book spots are candidates payload whole (stores.Damaged at kept found) chooses =
    let w : MayBeWholeAt spots at = subst (MayBeWholeAt spots) (sym chooses.is) (whole chooses.place chooses.within) in
    (omega (arith, slice_get_within spots at w.spot w.placed, are.count), chooses.damaged)
looks_err tells book spots are candidates payload whole stores.Memory chooses = tt

-- a candidate that is damaged wasn't looked at before
pub since_by : (tells : Bool) (book : Book) (upto : ℕ) (numbers given payload : List ℕ)
    → given ≡ filter (λ number. nat_le upto number) numbers → (fault : StoreFault) → Chooses tells book given payload (Err fault)
    → NoneDamagedBelow {T = Option ℕ} upto (Err fault)
since_by tells book upto numbers given payload is (stores.Full count limit) chooses = tt
since_by tells book upto numbers given payload is stores.DiskFault chooses = tt
since_by tells book upto numbers given payload is (stores.Damaged at kept found) chooses =
    let stands : Stands given at = record { place = chooses.place; within = chooses.within; is = chooses.is } in
    least_above upto numbers at (subst (λ (l : List ℕ). Stands l at) is stands)
since_by tells book upto numbers given payload is stores.Memory chooses = tt

-- what a `?` hands out
pub looks_exit : (tells : Bool) (book : Book) (payload : List ℕ) (fault : StoreFault) (r : Result Looked StoreFault) → IsErrAnd r (λ y. y ≡ fault)
    → LooksOn tells book payload (Err fault) → LooksOn tells book payload r
looks_exit tells book payload fault (Ok looked) is looks = absurd is
looks_exit tells book payload fault (Err other) is looks = subst (λ (f : StoreFault). LooksOn tells book payload (Err f)) (sym is) looks

-- ---- one candidate after another

-- how what was read compares is how the capture's payload does
pub compares_right : CapturesHaveOnePayload → (texts : List (List ℕ)) (book : Book) (number : ℕ) (spot : Spot) (kept : IsKept texts book number spot)
    → (bytes payload : List ℕ) → bytes ≡ kept.placed.payload → (compared : Compared) → Compares spot.digest bytes payload compared
    → ComparesWith book number payload compared
compares_right one texts book number spot kept bytes payload is compares.Same equal =
    subst (λ (p : List ℕ). IsPayloadOf book number p) (sym is ∙ equal) kept.placed.has
compares_right one texts book number spot kept bytes payload is compares.Other other = λ has.
    other (is ∙ one book number kept.placed.payload payload kept.placed.has has)
compares_right one texts book number spot kept bytes payload is (compares.Damaged found) other =
    other (ap sha1 is ∙ sym kept.placed.digest)

module _ (book : Book) (spots : List Spot) (are : AreSpotsOf book spots) (number : ℕ) (whole : MayBeWholeAt spots number) where
  pub its_bound : number < length spots
  its_bound = slice_get_within spots number whole.spot whole.placed

  module _ (spot : Spot) (at : spot ≡ get_or spots number spot) where
    pub its_spot : IsSpotOf book number spot
    its_spot = spot_at book spots number spot its_bound at are

    its_form : may_be_whole spot.form ≡ true
    its_form =
        ap (λ (s : Spot). may_be_whole s.form)
        (same_Some spot whole.spot (sym (slice_get-get_or spots number spot its_bound ∙ ap Some (sym at)) ∙ whole.placed)) ∙ whole.whole

    turned : (b : Bool) → not b ≡ true → b ≡ false
    turned true e = absurd (false≢true e)
    turned false e = refl

    own_by : (form : Form) → may_be_whole form ≡ true → is_same_form form ≡ false
    own_by forms.Whole e = refl
    own_by (forms.Same first) e = absurd (false≢true e)
    own_by forms.Cut e = refl
    own_by (forms.Told revisit) e = turned revisit e

    pub its_own : is_same_form spot.form ≡ false
    its_own = own_by spot.form its_form

    told_by : (form : Form) → may_be_whole form ≡ true → is_told_form form ≡ true → form ≡ forms.Told false
    told_by forms.Whole e told = absurd (false≢true told)
    told_by (forms.Same first) e told = absurd (false≢true told)
    told_by forms.Cut e told = absurd (false≢true told)
    told_by (forms.Told revisit) e told = ap (λ (b : Bool). forms.Told b) (turned revisit e)

    pub its_told : is_told_form spot.form ≡ true → spot.form ≡ forms.Told false
    its_told told = told_by spot.form its_form told

    pub its_wire : is_told_form spot.form ≡ false → KeepsWire book number
    its_wire read =
        let its : IsSpotOf book number spot = its_spot in
        let kept = whole_kept its.stored.kept (ap may_be_whole (sym (its.form read)) ∙ its_form) in
        record { stored = its.stored; wire = kept.0; placed = its.placed; kept = kept.1 }

    not_cut_by : (form : Form) → may_be_whole form ≡ true → is_cut_form form ≡ false
    not_cut_by forms.Whole e = refl
    not_cut_by (forms.Same first) e = absurd (false≢true e)
    not_cut_by forms.Cut e = absurd (false≢true e)
    not_cut_by (forms.Told revisit) e = refl

    pub its_whole : is_cut_form spot.form ≡ false
    its_whole = not_cut_by spot.form its_form

    pub its_kept : is_told_form spot.form ≡ false → (texts : List (List ℕ)) → ArePlaced texts book spots → IsKept texts book number spot
    its_kept read texts placed = record {
      is = its_spot;
      placed = place_at book spots number spot its_bound at texts placed;
      own = own_by spot.form its_form;
      read = read;
    }

-- none of one candidate more has it
pub none_more : (book : Book) (candidates : List ℕ) (k number : ℕ) (payload : List ℕ) → number ≡ get_or candidates k 0
    → NoneHas book candidates k payload → ¬ (HasWhole book number payload) → NoneHas book candidates (k + 1) payload
none_more book candidates k number payload is none none_has j less = ⊎_elim
    (λ (before : j < k). none j before)
    (λ (behind : k ≤ j). λ has. none_has (subst (λ (n : ℕ). HasWhole book n payload) (ap (λ (i : ℕ). get_or candidates i 0) (both j k less behind) ∙ sym is) has))
    (cases_lt j k)
  where
    both : (a b : ℕ) → a < b + 1 → b ≤ a → a ≡ b
    both a b x y = omega (arith, x, y)

-- ---- by the framing that the head tells

ok_weaker : {T E : Type 0} (r : Result T E) (P Q : T → Type 0) → ((x : T) → P x → Q x) → IfOk r P → IfOk r Q
ok_weaker (Ok x) P Q f p = f x p
ok_weaker (Err e) P Q f p = tt

plain_payload : (framing : Framing) (wire payload : List ℕ) → is_plain framing ≡ true → payload ≡ wire → IsPayload false framing wire payload
plain_payload Empty wire payload e is = is
plain_payload (Length n) wire payload e is = is
plain_payload Chunked wire payload e is = absurd (false≢true e)
plain_payload ToEnd wire payload e is = is

is_chunked : (framing : Framing) → is_plain framing ≡ false → framing ≡ Chunked
is_chunked Empty e = absurd (false≢true (sym e))
is_chunked (Length n) e = absurd (false≢true (sym e))
is_chunked Chunked e = refl
is_chunked ToEnd e = absurd (false≢true (sym e))

-- a wire that is framed alike has the same payload
framed_alike : (framing other : Framing) (wire payload : List ℕ) → is_plain framing ≡ is_plain other → IsPayload false other wire payload
    → IsPayload false framing wire payload
framed_alike framing Empty wire payload e is = plain_payload framing wire payload e is
framed_alike framing (Length n) wire payload e is = plain_payload framing wire payload e is
framed_alike framing Chunked wire payload e is = subst (λ (f : Framing). IsPayload false f wire payload) (sym (is_chunked framing e)) is
framed_alike framing ToEnd wire payload e is = plain_payload framing wire payload e is

module _ (wires : WiresHaveOnePayload) (texts : List (List ℕ)) (book : Book) (number : ℕ) (spot : Spot) (kept : IsKept texts book number spot)
    (head : List ℕ) (is : head ≡ head_in texts spot) (later : List (List ℕ)) (stay : later ≡ texts) (payload : List ℕ) where
  -- it keeps the very wire of the payload
  pub same_right : is_cut_form spot.form ≡ false → (framing other : Framing) → TellsFraming spot.method head (Some framing)
      → (wire : List ℕ) → (is_plain framing ≡ is_plain other) × (wire_in later spot ≡ wire) → IsPayload false other wire payload
      → IsPayloadOf book number payload
  same_right whole framing other tells wire same decoded =
      let there : TellsFraming spot.method (head_in texts spot) (Some framing) = subst (λ (h : List ℕ). TellsFraming spot.method h (Some framing)) is tells in
      let wires_are : wire ≡ wire_in texts spot = sym same.1 ∙ ap (λ (t : List (List ℕ)). wire_in t spot) stay in
      let own : IsPayload (is_cut_form spot.form) framing (wire_in texts spot) payload =
      subst (λ (b : Bool). IsPayload b framing (wire_in texts spot) payload) (sym whole)
      (subst (λ (w : List ℕ). IsPayload false framing w payload) wires_are (framed_alike framing other wire payload same.0 decoded)) in
      subst (λ (p : List ℕ). IsPayloadOf book number p)
      (sym (same_Some payload kept.placed.payload (found_is wires texts book number spot kept framing there (Some payload) own))) kept.placed.has

  -- its wire was read and decoded
  pub data_right : CapturesHaveOnePayload → (r : Result Compared ReadFault) (framing : Framing) → TellsFraming spot.method head (Some framing)
      → ((bytes : List ℕ) → ((found : Option (List ℕ)) → HoldsPayload (is_cut_form spot.form) framing (wire_in later spot) found → found ≡ Some bytes)
      → IfOk r (Compares spot.digest bytes payload))
      → IfOk r (ComparesWith book number payload)
  data_right one r framing tells compared =
      let there : TellsFraming spot.method (head_in texts spot) (Some framing) = subst (λ (h : List ℕ). TellsFraming spot.method h (Some framing)) is tells in
      ok_weaker r (Compares spot.digest kept.placed.payload payload) (ComparesWith book number payload)
      (λ c so. compares_right one texts book number spot kept kept.placed.payload payload refl c so)
      (compared kept.placed.payload (λ found holds. found_is wires texts book number spot kept framing there found
      (subst (λ (t : List (List ℕ)). HoldsPayload (is_cut_form spot.form) framing (wire_in t spot) found) stay holds)))

-- ---- where the disk tells, whatever is told of the book

on_same : (compared : Compared) (P Q : Type 0) → (P → Q) → OnSame compared P → OnSame compared Q
on_same compares.Same P Q f p = f p
on_same compares.Other P Q f p = tt
on_same (compares.Damaged found) P Q f p = tt

-- of a capture that was decoded just the payload was found
pub found_same : (compared : Compared) (cut : Bool) (framing : Framing) (wire payload : List ℕ) (found : Option (List ℕ)) → HoldsPayload cut framing wire found
    → OnSame compared (found ≡ Some payload) → OnSame compared (IsPayload cut framing wire payload)
found_same compared cut framing wire payload found holds same =
    on_same compared (found ≡ Some payload) (IsPayload cut framing wire payload) (λ is. subst (HoldsPayload cut framing wire) is holds) same

module _ (texts : List (List ℕ)) (spot : Spot) (head : List ℕ) (is : head ≡ head_in texts spot) (framing : Framing)
    (tells : TellsFraming spot.method head (Some framing)) (later : List (List ℕ)) (stay : later ≡ texts) (payload : List ℕ) where
  decodes_by : IsPayload false framing (wire_in texts spot) payload → Decodes false spot.method (head_in texts spot) (wire_in texts spot) payload
  decodes_by decoded = record {
    framing = framing;
    tells = subst (λ (h : List ℕ). TellsFraming spot.method h (Some framing)) is tells;
    decoded = decoded;
  }

  -- it keeps the very wire of the payload
  pub same_there : (other : Framing) (wire : List ℕ) → (is_plain framing ≡ is_plain other) × (wire_in later spot ≡ wire) → IsPayload false other wire payload
      → Decodes false spot.method (head_in texts spot) (wire_in texts spot) payload
  same_there other wire same decoded =
      decodes_by (subst (λ (w : List ℕ). IsPayload false framing w payload) (sym same.1 ∙ ap (λ (t : List (List ℕ)). wire_in t spot) stay)
      (framed_alike framing other wire payload same.0 decoded))

  -- its wire was read and decoded
  pub read_there : is_cut_form spot.form ≡ false → (r : Result Compared ReadFault)
      → IfOk r (λ compared. OnSame compared (IsPayload (is_cut_form spot.form) framing (wire_in later spot) payload))
      → IfOk r (λ compared. OnSame compared (Decodes false spot.method (head_in texts spot) (wire_in texts spot) payload))
  read_there whole r so =
      ok_weaker r (λ compared. OnSame compared (IsPayload (is_cut_form spot.form) framing (wire_in later spot) payload))
      (λ compared. OnSame compared (Decodes false spot.method (head_in texts spot) (wire_in texts spot) payload))
      (λ compared one. on_same compared (IsPayload (is_cut_form spot.form) framing (wire_in later spot) payload)
      (Decodes false spot.method (head_in texts spot) (wire_in texts spot) payload)
      (λ decoded. decodes_by (subst (λ (b : Bool). IsPayload b framing (wire_in texts spot) payload) whole
      (subst (λ (t : List (List ℕ)). IsPayload (is_cut_form spot.form) framing (wire_in t spot) payload) stay decoded))) one) so

-- ---- no bytes

pub no_bytes : (xs : List ℕ) → (length xs == 0) ≡ true → xs ≡ []
no_bytes [] e = refl
no_bytes (x ∷ xs) e = absurd (omega (arith, eqb-true (length (x ∷ xs)) 0 e))
