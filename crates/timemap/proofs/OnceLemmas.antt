-- Entries in order of their dates, of which each date stands once.
use Rattle.std.proofs.Common.{◌≡◌, ℕ, zero, suc, ◌+◌, ◌<◌, ◌≤◌, Bool, true, false, not, eqb, List, [], ◌∷◌, length, get_or, filter, refl, ap, sym, ◌∙◌, subst, inl, inr, arith}
use Rattle.std.proofs.lemmas.Bool.{cases_Bool, cases_eq, cond_both, cond-true, cond-false, eq-eqb, ne_eqb}
use Rattle.std.proofs.lemmas.List.Sorted.{IsNonDecreasingBy-drop}
use Rattle.std.specs.List.Sorted.{IsNonDecreasingBy}
use Rattle.index_entry.specs.Facts.{Facts}
use Rattle.timemap.specs.LinkList.{last_date, last_date_behind}
use Rattle.timemap.specs.Mementos.{each_date_once, has_other_date, is_last}

-- no date is below the one before it
abbrev pub Rises : ℕ → List Facts → Type 0
Rises date [] = Unit {0}
Rises date (entry ∷ entries) = (date ≤ entry.date) × Rises entry.date entries

-- each date is later
abbrev pub AreLater : ℕ → List Facts → Type 0
AreLater date [] = Unit {0}
AreLater date (entry ∷ entries) = (date < entry.date) × AreLater date entries

pub rises_in_order : (first : Facts) (others : List Facts) → IsNonDecreasingBy (λ (e : Facts). e.date) (first ∷ others) → Rises first.date others
rises_in_order first [] h = tt
rises_in_order first (second ∷ others) h =
    let below : first.date ≤ second.date = h 0 1 first (omega arith) (omega arith) in
    (below, rises_in_order second others (IsNonDecreasingBy-drop (λ (e : Facts). e.date) 1 (first ∷ second ∷ others) h))

later_kept : (date : ℕ) (test : Facts → Bool) (entries : List Facts) → AreLater date entries → AreLater date (filter test entries)
later_kept date test [] h = tt
later_kept date test (entry ∷ entries) h =
    let others = later_kept date test entries h.1 in
    cond_both (test entry) (entry ∷ filter test entries) (filter test entries) (AreLater date) (λ _. (h.0, others)) (λ _. others)

all_kept : (date : ℕ) (entries : List Facts) → AreLater date entries → filter (has_other_date date) entries ≡ entries
all_kept date [] h = refl
all_kept date (entry ∷ entries) h =
    let kept : has_other_date date entry ≡ true = ap not (ne_eqb entry.date date (λ same. omega (arith, h.0, same))) in
    let others = filter (has_other_date date) entries in
    cond-true (has_other_date date entry) (entry ∷ others) others kept ∙ ap (λ xs. entry ∷ xs) (all_kept date entries h.1)

once_later : (date from : ℕ) (entries : List Facts) → date < from → Rises from entries → AreLater date (each_date_once entries)
once_later date from [] below h = tt
once_later date from (entry ∷ entries) below h =
    let here : date < entry.date = omega (arith, below, h.0) in
    (here, later_kept date (has_other_date entry.date) (each_date_once entries) (once_later date entry.date entries here h.1))

filter_twice : (test : Facts → Bool) (xs : List Facts) → filter test (filter test xs) ≡ filter test xs
filter_twice test [] = refl
filter_twice test (x ∷ xs) =
    let others = filter test xs in
    let again = filter_twice test xs in
    elim (cases_Bool (test x)) [
      | inl pass ↦
          let step : filter test (x ∷ xs) ≡ x ∷ others = cond-true (test x) (x ∷ others) others pass in
          ap (filter test) step ∙ cond-true (test x) (x ∷ filter test others) (filter test others) pass ∙ ap (λ t. x ∷ t) again ∙ sym step
      | inr fail ↦
          let step : filter test (x ∷ xs) ≡ others = cond-false (test x) (x ∷ others) others fail in
          ap (filter test) step ∙ again ∙ sym step
    ]

-- an entry of the date is left out
pub without_same : (date : ℕ) (entry : Facts) (entries : List Facts) → entry.date ≡ date → filter (has_other_date date) (each_date_once (entry ∷ entries)) ≡ filter (has_other_date date) (each_date_once entries)
without_same date entry entries same =
    let others = filter (has_other_date entry.date) (each_date_once entries) in
    let dropped : has_other_date date entry ≡ false = ap not (eq-eqb entry.date date same) in
    cond-false (has_other_date date entry) (entry ∷ filter (has_other_date date) others) (filter (has_other_date date) others) dropped
    ∙ ap (λ d. filter (has_other_date date) (filter (has_other_date d) (each_date_once entries))) same
    ∙ filter_twice (has_other_date date) (each_date_once entries)

-- behind the date no other entry is
pub without_later : (date : ℕ) (entry : Facts) (entries : List Facts) → date < entry.date → Rises entry.date entries → filter (has_other_date date) (each_date_once (entry ∷ entries)) ≡ entry ∷ filter (has_other_date entry.date) (each_date_once entries)
without_later date entry entries below h =
    all_kept date (each_date_once (entry ∷ entries)) (below, later_kept date (has_other_date entry.date) (each_date_once entries) (once_later date entry.date entries below h))

last_from : (date : ℕ) (entries : List Facts) → Rises date entries → date ≤ last_date_behind date entries
last_from date [] h = omega arith
last_from date (entry ∷ entries) h = omega (arith, h.0, last_from entry.date entries h.1)

-- no other date follows exactly where the date is the last one
pub last_is_told : (date : ℕ) (entries : List Facts) → Rises date entries → is_last (filter (has_other_date date) (each_date_once entries)) ≡ eqb date (last_date_behind date entries)
last_is_told date [] h = sym (eq-eqb date date refl)
last_is_told date (entry ∷ entries) h =
    elim (cases_eq entry.date date) [
      | inl same ↦
          let rises : Rises date entries = subst (λ (d : ℕ). Rises d entries) same h.1 in
          ap is_last (without_same date entry entries same) ∙ last_is_told date entries rises ∙ ap (λ d. eqb date (last_date_behind d entries)) (sym same)
      | inr differs ↦
          let later : date < entry.date = omega (arith, h.0, differs) in
          let least = last_from entry.date entries h.1 in
          ap is_last (without_later date entry entries later h.1) ∙ sym (ne_eqb date (last_date_behind entry.date entries) (λ same. omega (arith, later, least, same)))
    ]

-- the last entry is at the end
pub last_at_end : (entries : List Facts) (n : ℕ) (d : Facts) → length entries ≡ n + 1 → (get_or entries n d).date ≡ last_date entries
last_at_end [] n d h = absurd (omega (arith, h))
last_at_end (entry ∷ []) zero d h = refl
last_at_end (entry ∷ []) (suc n) d h = absurd (omega (arith, h))
last_at_end (entry ∷ next ∷ entries) zero d h = absurd (omega (arith, h))
last_at_end (entry ∷ next ∷ entries) (suc n) d h = last_at_end (next ∷ entries) n d (omega (arith, h))
