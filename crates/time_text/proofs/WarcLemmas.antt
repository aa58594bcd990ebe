-- The digits and the marks of a WARC-Date.
use Rattle.std.proofs.Common.{◌≡◌, ℕ, ◌%◌, ◌⊎◌, inl, inr, List, [], ◌∷◌, ◌++◌, length, get_or, refl, sym, ap, ◌∙◌, arith}
use Rattle.std.proofs.lemmas.Bool.Decides.{eqb_tells}
use Rattle.time_text.specs.Texts.{InRange, digits_of, warc_of, warc_date}
use Rattle.time_text.specs.Calendar.{civil_at, HasDigits}
use Rattle.time_text.specs.declared.civil.Civil.{Civil}
use Rattle.time_text.proofs.Moments.{HasDigits-at, millisecond-at}
use Rattle.time_text.proofs.DigitLemmas.{digits_injective}

-- the digits of a text up to its second
abbrev pub first_digits : List ℕ → List ℕ
first_digits t =
    get_or t 0 0 ∷ get_or t 1 0 ∷ get_or t 2 0 ∷ get_or t 3 0 ∷ get_or t 5 0 ∷ get_or t 6 0 ∷ get_or t 8 0 ∷ get_or t 9 0
    ∷ get_or t 11 0 ∷ get_or t 12 0 ∷ get_or t 14 0 ∷ get_or t 15 0 ∷ get_or t 17 0 ∷ get_or t 18 0 ∷ []

-- all digits of a text with a fraction
abbrev pub digits_in : List ℕ → List ℕ
digits_in t = first_digits t ++ (get_or t 20 0 ∷ get_or t 21 0 ∷ get_or t 22 0 ∷ [])

-- and of one without
abbrev pub digits_in_whole : List ℕ → List ℕ
digits_in_whole t = first_digits t ++ (48 ∷ 48 ∷ 48 ∷ [])

-- the two forms of a WARC-Date
pub record IsWhole (c : Civil) : Type 0 where
  pub second : c.millisecond ≡ 0
  pub long : length (warc_of c) ≡ 20
  pub digits : digits_in_whole (warc_of c) ≡ digits_of c
  pub last : get_or (warc_of c) 19 0 ≡ 90

pub record HasFraction (c : Civil) : Type 0 where
  pub second : ¬ (c.millisecond ≡ 0)
  pub long : length (warc_of c) ≡ 24
  pub digits : digits_in (warc_of c) ≡ digits_of c
  pub last : get_or (warc_of c) 19 0 ≡ 46

pub warc_cases : (c : Civil) → IsWhole c ⊎ HasFraction c
warc_cases c =
    elim (eqb_tells c.millisecond 0) [
      | inl h ↦ inl (record { second = h.1; long = rw h.0 refl; digits = rw h.1 refl; last = rw h.0 refl })
      | inr h ↦ inr (record { second = h.1; long = rw h.0 refl; digits = rw h.0 refl; last = rw h.0 refl })
    ]

pub digits_from_warc : (a b : Civil) → warc_of a ≡ warc_of b → digits_of a ≡ digits_of b
digits_from_warc a b e =
    elim (warc_cases a) [
      | inl is ↦ elim (warc_cases b) [
        | inl was ↦ sym is.digits ∙ ap digits_in_whole e ∙ was.digits
        | inr was ↦ absurd (omega (arith, ap length e, is.long, was.long))
      ]
      | inr is ↦ elim (warc_cases b) [
        | inl was ↦ absurd (omega (arith, ap length e, is.long, was.long))
        | inr was ↦ sym is.digits ∙ ap digits_in e ∙ was.digits
      ]
    ]

pub warc_of_injective : (a b : Civil) → warc_of a ≡ warc_of b → a ≡ b
warc_of_injective a b e = digits_injective a b (digits_from_warc a b e)

pub length-warc_date_whole : (date : ℕ) → date % 1000 ≡ 0 → length (warc_date date) ≡ 20
unfolding warc_date
length-warc_date_whole date whole =
    elim (warc_cases (civil_at date)) [
      | inl is ↦ is.long
      | inr is ↦ absurd (is.second (millisecond-at date ∙ whole))
    ]

pub length-warc_date_fraction : (date : ℕ) → ¬ (date % 1000 ≡ 0) → length (warc_date date) ≡ 24
unfolding warc_date
length-warc_date_fraction date part =
    elim (warc_cases (civil_at date)) [
      | inl is ↦ absurd (part (sym (millisecond-at date) ∙ is.second))
      | inr is ↦ is.long
    ]

-- the digits that stand in a text, if it is the text of a date
abbrev pub AreDigitsOf : List ℕ → List ℕ → Type 0
AreDigitsOf text digits = (c : Civil) → text ≡ warc_of c → digits ≡ digits_of c

-- a text is no date's: it has other digits, they are no date's, or it has other marks
pub other_digits : (text digits : List ℕ) → AreDigitsOf text digits → ((c : Civil) → HasDigits c → ¬ (digits ≡ digits_of c)) → (date : ℕ) → InRange date → ¬ (text ≡ warc_date date)
unfolding warc_date
other_digits text digits are none date fits e = none (civil_at date) (HasDigits-at date fits) (are (civil_at date) e)

pub other_date : (text digits : List ℕ) (c : Civil) → AreDigitsOf text digits → digits ≡ digits_of c → ((date : ℕ) → InRange date → ¬ (civil_at date ≡ c))
    → (date : ℕ) → InRange date → ¬ (text ≡ warc_date date)
unfolding warc_date
other_date text digits c are is none date fits e = none date fits (digits_injective (civil_at date) c (sym (are (civil_at date) e) ∙ is))

pub other_marks : (text digits : List ℕ) (c : Civil) → AreDigitsOf text digits → digits ≡ digits_of c → ¬ (warc_of c ≡ text)
    → (date : ℕ) → InRange date → ¬ (text ≡ warc_date date)
unfolding warc_date
other_marks text digits c are is other date fits e =
    other (ap warc_of (digits_injective c (civil_at date) (sym is ∙ are (civil_at date) e)) ∙ sym e)

pub same_marks : (text : List ℕ) (c : Civil) (date : ℕ) → civil_at date ≡ c → warc_of c ≡ text → text ≡ warc_date date
unfolding warc_date
same_marks text c date is e = sym (ap warc_of is ∙ e)
