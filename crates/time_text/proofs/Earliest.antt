-- The earliest date that a text names, by the digits that it leaves out.
use Rattle.std.proofs.Common.{◌≡◌, ℕ, zero, suc, ◌+◌, ◌*◌, ◌/◌, ◌%◌, ◌<◌, ◌≤◌, ◌⊎◌, inl, inr, List, ◌++◌, length, get_or, take, drop, refl, sym, ap, ◌∙◌, arith, Result, Ok, Err}
use Rattle.std.specs.Prelude.{MatchResult, IfOk, OnErr, Contains, codes}
use Rattle.std.proofs.lemmas.List.{take_at, length-take-le}
use Rattle.std.proofs.lemmas.Bool.Decides.{eqb_tells}
use Rattle.time_text.specs.Calendar.{day_at, Day, civil_at}
use Rattle.time_text.specs.Texts.{InRange, digits_of, all_digits, count_of_digits, time_digits}
use Rattle.time_text.specs.Reading.{lengths, Names, IsEarliest}
use Rattle.time_text.specs.declared.civil.Civil.{Civil}
use Rattle.time_text.proofs.Days.{after_cases}
use Rattle.time_text.proofs.Moments.{civil_is, clock}
use Rattle.time_text.proofs.DigitLemmas.{all_digits_injective, length-all_digits}

-- a day not after the nth
pub record IsBefore (n : ℕ) (d : Day) : Type 0 where
  pub place : ℕ
  pub not_after : place ≤ n
  pub is : day_at place ≡ d

abbrev first_of_month : Day → Day
first_of_month d = record { year = d.year; month = d.month; day = 1 }

abbrev first_of_year : Day → Day
first_of_year d = record { year = d.year; month = 1; day = 1 }

later : (n : ℕ) (d : Day) → IsBefore n d → IsBefore (suc n) d
later n d h = record { place = h.place; not_after = omega (arith, h.not_after); is = h.is }

-- the first of the month of every day comes, and so does the first of its year
pub month_begins : (n : ℕ) → IsBefore n (first_of_month (day_at n))
unfolding day_at
month_begins zero = record { place = 0; not_after = omega arith; is = refl }
month_begins (suc n) = after_cases (day_at n) (λ d. d ≡ day_at (suc n) → IsBefore (suc n) (first_of_month d))
    (λ lt e. later n _ (month_begins n))
    (λ ge lt e. record { place = suc n; not_after = omega arith; is = sym e })
    (λ ge le e. record { place = suc n; not_after = omega arith; is = sym e }) refl

pub year_begins : (n : ℕ) → IsBefore n (first_of_year (day_at n))
unfolding day_at
year_begins zero = record { place = 0; not_after = omega arith; is = refl }
year_begins (suc n) = after_cases (day_at n) (λ d. d ≡ day_at (suc n) → IsBefore (suc n) (first_of_year d))
    (λ lt e. later n _ (year_begins n))
    (λ ge lt e. later n _ (year_begins n))
    (λ ge le e. record { place = suc n; not_after = omega arith; is = sym e }) refl

-- the digits of 1 January at midnight, whose ends stand for the units that are left out
abbrev pub beginnings : List ℕ
beginnings = codes "00000101000000000"

abbrev pub padded : List ℕ → List ℕ
padded text = text ++ drop (length text) beginnings

-- a date in range with the padded digits, not after the given one
pub record IsFirst (text : List ℕ) (date : ℕ) : Type 0 where
  pub first : ℕ
  pub not_after : first ≤ date
  pub digits : padded text ≡ all_digits first

-- a day with a time of day
abbrev civil_on : Day → ℕ → ℕ → ℕ → ℕ → Civil
civil_on d hour minute second millisecond = record {
  year = d.year;
  month = d.month;
  day = d.day;
  hour = hour;
  minute = minute;
  second = second;
  millisecond = millisecond;
}

-- the date of a day and a time of day
abbrev date_on : ℕ → ℕ → ℕ → ℕ → ℕ → ℕ
date_on place hour minute second millisecond = place * 86_400_000 + hour * 3_600_000 + minute * 60_000 + second * 1000 + millisecond

civil_at-parts : (place hour minute second millisecond : ℕ) → hour < 24 → minute < 60 → second < 60 → millisecond < 1000
    → civil_at (date_on place hour minute second millisecond) ≡ civil_on (day_at place) hour minute second millisecond
civil_at-parts place hour minute second millisecond lh lm ls lf =
    let date : ℕ = date_on place hour minute second millisecond in
    let back : date / 86_400_000 ≡ place = omega arith in
    sym (civil_is (civil_on (day_at place) hour minute second millisecond) date
    (rw back refl) (rw back refl) (rw back refl) (clock date hour minute second millisecond lh lm ls lf (omega arith)))

civil_at-date : (date : ℕ)
    → civil_at date ≡ civil_on (day_at (date / 86_400_000)) (date % 86_400_000 / 3_600_000) (date % 3_600_000 / 60_000) (date % 60_000 / 1000) (date % 1000)
unfolding civil_at
civil_at-date date = refl

pub lengths_cases : (n : ℕ) → Contains lengths n → (n ≡ 4) ⊎ ((n ≡ 6) ⊎ ((n ≡ 8) ⊎ ((n ≡ 10) ⊎ ((n ≡ 12) ⊎ ((n ≡ 14) ⊎ ((n ≡ 17)))))))
lengths_cases n h = cases h.0 h.1 h.2
  where
    cases : (k : ℕ) → k < 7 → get_or lengths k n ≡ n → (n ≡ 4) ⊎ ((n ≡ 6) ⊎ ((n ≡ 8) ⊎ ((n ≡ 10) ⊎ ((n ≡ 12) ⊎ ((n ≡ 14) ⊎ ((n ≡ 17)))))))
    cases zero lt e = inl (sym e)
    cases (suc zero) lt e = inr (inl (sym e))
    cases (suc (suc zero)) lt e = inr (inr (inl (sym e)))
    cases (suc (suc (suc zero))) lt e = inr (inr (inr (inl (sym e))))
    cases (suc (suc (suc (suc zero)))) lt e = inr (inr (inr (inr (inl (sym e)))))
    cases (suc (suc (suc (suc (suc zero))))) lt e = inr (inr (inr (inr (inr (inl (sym e))))))
    cases (suc (suc (suc (suc (suc (suc zero)))))) lt e = inr (inr (inr (inr (inr (inr (sym e))))))
    cases (suc (suc (suc (suc (suc (suc (suc k))))))) lt e = absurd (omega arith)

-- the front of some digits, with the end of the beginnings
padded_is : (text : List ℕ) (k date first : ℕ) (c d : Civil) → length text ≡ k → text ≡ take (length text) (all_digits date) → civil_at date ≡ c → civil_at first ≡ d
    → take k (digits_of c) ++ drop k beginnings ≡ digits_of d → padded text ≡ all_digits first
unfolding all_digits
padded_is text k date first c d long front is is₂ same =
    let text_is : text ≡ take k (digits_of c) =
    front ∙ ap (λ (n : ℕ). take n (digits_of (civil_at date))) long ∙ ap (λ (v : Civil). take k (digits_of v)) is in
    ap (λ (t : List ℕ). t ++ drop (length text) beginnings) text_is ∙ ap (λ (n : ℕ). take k (digits_of c) ++ drop n beginnings) long ∙ same
    ∙ sym (ap digits_of is₂)

pub first_named : (text : List ℕ) (date : ℕ) → Names text date → IsFirst text date
first_named text date h =
    let n : ℕ = date / 86_400_000 in
    let hour : ℕ = date % 86_400_000 / 3_600_000 in
    let minute : ℕ = date % 3_600_000 / 60_000 in
    let second : ℕ = date % 60_000 / 1000 in
    let shown = civil_at-date date in
    elim (lengths_cases (length text) h.whole_units) [
      | inl long ↦
          let year = year_begins n in
          record {
            first = date_on year.place 0 0 0 0;
            not_after = omega (arith, year.not_after);
            digits = padded_is text 4 date _ _ (civil_on (first_of_year (day_at n)) 0 0 0 0) long h.front shown
                (civil_at-parts year.place 0 0 0 0 (omega arith) (omega arith) (omega arith) (omega arith)
                ∙ ap (λ (d : Day). civil_on d 0 0 0 0) year.is) refl;
          }
      | inr (inl long) ↦
          let month = month_begins n in
          record {
            first = date_on month.place 0 0 0 0;
            not_after = omega (arith, month.not_after);
            digits = padded_is text 6 date _ _ (civil_on (first_of_month (day_at n)) 0 0 0 0) long h.front shown
                (civil_at-parts month.place 0 0 0 0 (omega arith) (omega arith) (omega arith) (omega arith)
                ∙ ap (λ (d : Day). civil_on d 0 0 0 0) month.is) refl;
          }
      | inr (inr (inl long)) ↦ record {
        first = date_on n 0 0 0 0;
        not_after = omega arith;
        digits = padded_is text 8 date _ _ _ long h.front shown
            (civil_at-parts n 0 0 0 0 (omega arith) (omega arith) (omega arith) (omega arith)) refl;
      }
      | inr (inr (inr (inl long))) ↦ record {
        first = date_on n hour 0 0 0;
        not_after = omega arith;
        digits = padded_is text 10 date _ _ _ long h.front shown
            (civil_at-parts n hour 0 0 0 (omega arith) (omega arith) (omega arith) (omega arith)) refl;
      }
      | inr (inr (inr (inr (inl long)))) ↦ record {
        first = date_on n hour minute 0 0;
        not_after = omega arith;
        digits = padded_is text 12 date _ _ _ long h.front shown
            (civil_at-parts n hour minute 0 0 (omega arith) (omega arith) (omega arith) (omega arith)) refl;
      }
      | inr (inr (inr (inr (inr (inl long))))) ↦ record {
        first = date_on n hour minute second 0;
        not_after = omega arith;
        digits = padded_is text 14 date _ _ _ long h.front shown
            (civil_at-parts n hour minute second 0 (omega arith) (omega arith) (omega arith) (omega arith)) refl;
      }
      | inr (inr (inr (inr (inr (inr (long)))))) ↦ record {
        first = date;
        not_after = omega arith;
        digits = padded_is text 17 date _ _ _ long h.front shown shown refl;
      }
    ]

-- how many digits a date has
pub count_cases : (date : ℕ) → ((date % 1000 ≡ 0) × (count_of_digits date ≡ 14)) ⊎ (¬ (date % 1000 ≡ 0) × (count_of_digits date ≡ 17))
count_cases date =
    elim (eqb_tells (date % 1000) 0) [
      | inl h ↦ inl (h.1, rw h.0 refl)
      | inr h ↦ inr (h.1, rw h.0 refl)
    ]

pub Contains-count : (date : ℕ) → Contains lengths (count_of_digits date)
Contains-count date =
    elim (count_cases date) [
      | inl h ↦ rw h.1 (5, omega arith, refl)
      | inr h ↦ rw h.1 (6, omega arith, refl)
    ]

pub length-time_digits : (date : ℕ) → length (time_digits date) ≡ count_of_digits date
unfolding time_digits
length-time_digits date =
    let within : count_of_digits date ≤ length (all_digits date) = omega (arith, length-all_digits date, count_cases date) in
    length-take-le (count_of_digits date) (all_digits date) within

-- the digits of a date in range name it
pub names_itself : (text : List ℕ) (date : ℕ) → InRange date → text ≡ time_digits date → Names text date
unfolding time_digits
names_itself text date fits e =
    let long : length text ≡ count_of_digits date = ap length e ∙ length-time_digits date in
    record {
      in_range = fits;
      whole_units = rw long (Contains-count date);
      front = rw long e;
    }

-- the digits of a date, padded, are all its digits
pub padded_time_digits : (date : ℕ) → padded (time_digits date) ≡ all_digits date
unfolding time_digits all_digits civil_at
padded_time_digits date =
    elim (count_cases date) [
      | inl h ↦ rw (length-time_digits date, h.1, h.0) refl
      | inr h ↦ rw (length-time_digits date, h.1) refl
    ]

pub time_digits_injective : (a b : ℕ) → time_digits a ≡ time_digits b → a ≡ b
time_digits_injective a b e = all_digits_injective a b (sym (padded_time_digits a) ∙ ap padded e ∙ padded_time_digits b)

-- what reading the padded digits says of the text
pub record IsRead {E : Type 0} (text : List ℕ) (r : Result ℕ E) : Type 0 where
  pub read : IfOk r (IsEarliest text)
  pub refused : OnErr r ((date : ℕ) → ¬ (Names text date))
  pub reads_back : (date : ℕ) → InRange date → text ≡ time_digits date → r ≡ Ok date

pub read_padded : {E : Type 0} (r : Result ℕ E) (text : List ℕ) → Contains lengths (length text)
    → MatchResult r (λ date. InRange date × (padded text ≡ all_digits date)) (λ _. (date : ℕ) → InRange date → ¬ (padded text ≡ all_digits date))
    → IsRead text r
read_padded (Ok date) text whole h =
    let front : text ≡ take (length text) (all_digits date) = sym (take_at text (drop (length text) beginnings) (length text) refl) ∙ ap (take (length text)) h.1 in
    let earliest : (other : ℕ) → Names text other → date ≤ other = λ other named.
    let first = first_named text other named in
    let same = all_digits_injective date first.first (sym h.1 ∙ first.digits) in
    omega (arith, first.not_after) in
    record {
      read = record { named = record { in_range = h.0; whole_units = whole; front = front }; earliest = earliest };
      refused = tt;
      reads_back = λ other fits e. ap Ok (all_digits_injective date other (sym h.1 ∙ ap padded e ∙ padded_time_digits other));
    }
read_padded (Err x) text whole h =
    let refused : (date : ℕ) → ¬ (Names text date) = λ date named.
    let first = first_named text date named in
    h first.first (omega (arith, first.not_after, named.in_range)) first.digits in
    record { read = tt; refused = refused; reads_back = λ date fits e. absurd (refused date (names_itself text date fits e)) }
