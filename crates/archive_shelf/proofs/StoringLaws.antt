-- A book that gained a capture.
use Rattle.std.proofs.Common.{◌≡◌, ◌≢◌, ◌⊎◌, ℕ, zero, suc, ◌+◌, ◌<◌, Bool, true, false, List, [], ◌∷◌, ◌++◌, length, Some, Ok, Err, refl, sym, ap, subst, ◌∙◌, inl, inr, arith, append_assoc, append-nil}
use Rattle.std.specs.Prelude.{slice_get}
use Rattle.std.proofs.lemmas.Option.{same_Some}
use Rattle.capture.specs.Captures.{captures, captures_in}
use Rattle.capture.specs.Growth.{Grows, HasGrownAt}
use Rattle.capture.specs.GrowthLaws.{GrowsFromItself, GrowthGoesOn}
use Rattle.capture.specs.declared.book.Book.{Book}
use Rattle.capture.specs.declared.book.Volume.{Volume}
use Rattle.capture.specs.declared.captured.Stored.{Stored}
use Rattle.capture.specs.declared.captured.Taken.{Taken}
use Rattle.archive_shelf.specs.Answers.{HasVolumeAlone}
use Rattle.archive_shelf.specs.Laws.{BooksLeadToThemselves, GainsGrow, GainsStandBehind, LeadingGrows, StoresGrow, StoringGains}
use Rattle.archive_shelf.specs.Storing.{add_to_last, as_stored, new_volume, with_capture, with_volume, NeedsVolume}
use Rattle.archive_shelf.specs.declared.fault.StoreFault.TheVariants.{Full, DiskFault, Damaged, Memory}

-- the book with room for a capture
abbrev pub IsUnfilled : ℕ → Book → Stored → Book → Type 0
IsUnfilled limit book stored room =
    (NeedsVolume limit book stored false × (room ≡ book)) ⊎ (NeedsVolume limit book stored true × (room ≡ with_volume book stored.date))

-- ---- leading

pub leads_itself : GrowsFromItself → BooksLeadToThemselves
leads_itself grows true book = refl
leads_itself grows false book = grows book

pub leading_grows : GrowsFromItself → LeadingGrows
leading_grows grows true old new is = subst (λ (book : Book). Grows old book) (sym is) (grows old)
leading_grows grows false old new grown = grown

-- ---- captures

pub captures_more : (volumes : List Volume) (stored : Stored) → volumes ≢ []
    → captures_in (add_to_last volumes stored) ≡ captures_in volumes ++ stored ∷ []
captures_more [] stored some = absurd (some refl)
captures_more (last ∷ []) stored some =
    append-nil (last.captures ++ stored ∷ []) ∙ ap (λ (all : List Stored). all ++ stored ∷ []) (sym (append-nil last.captures))
captures_more (first ∷ next ∷ others) stored some =
    ap (λ (behind : List Stored). first.captures ++ behind) (captures_more (next ∷ others) stored (λ e. cc))
    ∙ sym (append_assoc first.captures (captures_in (next ∷ others)) (stored ∷ []))

pub captures_stay : (volumes : List Volume) (born : ℕ) → captures_in (volumes ++ new_volume born ∷ []) ≡ captures_in volumes
captures_stay [] born = refl
captures_stay (first ∷ others) born = ap (λ (behind : List Stored). first.captures ++ behind) (captures_stay others born)

some_behind : (volumes : List Volume) (volume : Volume) → volumes ++ volume ∷ [] ≢ []
some_behind [] volume = λ e. cc
some_behind (first ∷ others) volume = λ e. cc

behind_in : (old room : Book) (stored : Stored) → ((old.volumes ≢ []) × (room ≡ old)) ⊎ (room ≡ with_volume old stored.date)
    → captures (with_capture room stored) ≡ captures old ++ stored ∷ []
behind_in old room stored (inl same) =
    ap (λ (r : Book). captures (with_capture r stored)) same.1 ∙ captures_more old.volumes stored same.0
behind_in old room stored (inr more) =
    ap (λ (r : Book). captures (with_capture r stored)) more
    ∙ captures_more (old.volumes ++ new_volume stored.date ∷ []) stored (some_behind old.volumes (new_volume stored.date))
    ∙ ap (λ (all : List Stored). all ++ stored ∷ []) (captures_stay old.volumes stored.date)

pub gains_stand_behind : GainsStandBehind
gains_stand_behind old new stored gains = ap captures gains.gained ∙ behind_in old gains.room stored gains.roomy

-- ---- growth

sealed_stay : (volumes : List Volume) (stored : Stored) (k : ℕ) → k + 1 < length volumes
    → slice_get (add_to_last volumes stored) k ≡ slice_get volumes k
sealed_stay [] stored k less = absurd (omega (arith, less))
sealed_stay (last ∷ []) stored k less = absurd (omega (arith, less))
sealed_stay (first ∷ next ∷ others) stored zero less = refl
sealed_stay (first ∷ next ∷ others) stored (suc k) less = sealed_stay (next ∷ others) stored k (omega (arith, less))

last_grows : (volumes : List Volume) (stored : Stored) (k : ℕ) (volume : Volume) → k + 1 ≡ length volumes
    → slice_get volumes k ≡ Some volume → HasGrownAt (add_to_last volumes stored) k volume
last_grows [] stored k volume is at = cc
last_grows (last ∷ []) stored zero volume is at = record {
  volume = record { born = volume.born; captures = volume.captures ++ stored ∷ [] };
  placed = ap (λ (found : Volume). Some (record { born = found.born; captures = found.captures ++ stored ∷ [] })) (same_Some last volume at);
  grown = record { added = stored ∷ []; born = refl; captures = refl };
}
last_grows (last ∷ []) stored (suc k) volume is at = absurd (omega (arith, is))
last_grows (first ∷ next ∷ others) stored zero volume is at = absurd (omega (arith, is))
last_grows (first ∷ next ∷ others) stored (suc k) volume is at =
    let behind = last_grows (next ∷ others) stored k volume (omega (arith, is)) at in
    record { volume = behind.volume; placed = behind.placed; grown = behind.grown }

pub capture_grows : (book : Book) (stored : Stored) → Grows book (with_capture book stored)
capture_grows book stored = record {
  namespace = refl;
  sealed = sealed_stay book.volumes stored;
  last = last_grows book.volumes stored;
}

pub kept_before : (volumes : List Volume) (more : Volume) (k : ℕ) → k < length volumes → slice_get (volumes ++ more ∷ []) k ≡ slice_get volumes k
kept_before [] more k less = absurd (omega (arith, less))
kept_before (first ∷ others) more zero less = refl
kept_before (first ∷ others) more (suc k) less = kept_before others more k (omega (arith, less))

pub volume_grows : (book : Book) (born : ℕ) → Grows book (with_volume book born)
volume_grows book born = record {
  namespace = refl;
  sealed = λ k less. kept_before book.volumes (new_volume born) k (omega (arith, less));
  last = λ k volume is at. record {
    volume = volume;
    placed = kept_before book.volumes (new_volume born) k (omega (arith, is)) ∙ at;
    grown = record { added = []; born = refl; captures = sym (append-nil volume.captures) };
  };
}

room_grows : GrowthGoesOn → (old room : Book) (stored : Stored)
    → ((old.volumes ≢ []) × (room ≡ old)) ⊎ (room ≡ with_volume old stored.date) → Grows old (with_capture room stored)
room_grows goes_on old room stored (inl same) =
    subst (λ (r : Book). Grows old (with_capture r stored)) (sym same.1) (capture_grows old stored)
room_grows goes_on old room stored (inr more) =
    subst (λ (r : Book). Grows old (with_capture r stored)) (sym more)
    (goes_on old (with_volume old stored.date) (with_capture (with_volume old stored.date) stored)
    (volume_grows old stored.date) (capture_grows (with_volume old stored.date) stored))

pub gains_grow : GrowthGoesOn → GainsGrow
gains_grow goes_on old new stored gains =
    subst (λ (book : Book). Grows old book) (sym gains.gained) (room_grows goes_on old gains.room stored gains.roomy)

-- ---- storing

some_volumes : (volumes : List Volume) (number : ℕ) → number + 1 ≡ length volumes → volumes ≢ []
some_volumes [] number is = absurd (omega (arith, is))
some_volumes (first ∷ others) number is = λ e. cc

roomy_by : (limit : ℕ) (book : Book) (stored : Stored) (room : Book) → IsUnfilled limit book stored room
    → ((book.volumes ≢ []) × (room ≡ book)) ⊎ (room ≡ with_volume book stored.date)
roomy_by limit book stored room (inl same) = inl (some_volumes book.volumes same.0.0.number same.0.0.is_last, same.1)
roomy_by limit book stored room (inr more) = inr more.1

pub storing_gains : StoringGains
storing_gains limit book taken storing = record {
  room = storing.unfilled;
  roomy = roomy_by limit book (as_stored taken storing.same) storing.unfilled storing.roomy;
  gained = refl;
}

left_grows : GrowsFromItself → (found after : Book) (tells : Bool) (limit : ℕ) (taken : Taken)
    → (after ≡ found) ⊎ HasVolumeAlone tells limit found taken after → Grows found after
left_grows itself found after tells limit taken (inl same) = subst (λ (book : Book). Grows found book) (sym same) (itself found)
left_grows itself found after tells limit taken (inr more) =
    subst (λ (book : Book). Grows found book) (sym more.volume) (volume_grows found taken.date)

pub stores_grow : GrowsFromItself → GrowthGoesOn → StoresGrow
stores_grow itself goes_on alone taken was is (Ok receipt) left =
    goes_on was.seen left.found is.seen (leading_grows itself alone was.seen left.found left.led)
    (gains_grow goes_on left.found is.seen (as_stored taken receipt.same_as) left.gained)
stores_grow itself goes_on alone taken was is (Err (Full count limit)) left = leading_grows itself alone was.seen is.seen left.0.seen
stores_grow itself goes_on alone taken was is (Err DiskFault) left =
    goes_on was.seen left.0 is.seen (leading_grows itself alone was.seen left.0 left.1)
    (left_grows itself left.0 is.seen was.tells was.limits.volume_bytes taken left.3)
stores_grow itself goes_on alone taken was is (Err (Damaged number kept found)) left = leading_grows itself alone was.seen is.seen left.0.seen
stores_grow itself goes_on alone taken was is (Err Memory) left = leading_grows itself alone was.seen is.seen left.seen
