-- The digits of a date, and what they say of calendar and clock.
use Rattle.std.proofs.Common.{◌≡◌, ℕ, zero, suc, ◌+◌, ◌/◌, ◌%◌, List, [], ◌∷◌, length, get_or, drop, refl, sym, ap, ◌∙◌, arith, Result, Ok, Err}
use Rattle.std.specs.Prelude.{MatchResult}
use Rattle.std.proofs.lemmas.List.{drop_more, drop_all}
use Rattle.time_text.specs.Calendar.{civil_at, HasDigits}
use Rattle.time_text.specs.Texts.{InRange, two_digits, three_digits, digits_of, all_digits}
use Rattle.time_text.specs.declared.civil.Civil.{Civil}
use Rattle.time_text.proofs.Moments.{civil_injective, HasDigits-at}

-- the n elements from i on
abbrev pub reads : ℕ → ℕ → List ℕ → List ℕ
reads i zero xs = []
reads i (suc n) xs = get_or xs i 0 ∷ reads (i + 1) n xs

drop_reads : (i n : ℕ) (xs : List ℕ) → length xs ≡ i + n → drop i xs ≡ reads i n xs
drop_reads i zero xs h = drop_all i xs (omega arith)
drop_reads i (suc n) xs h =
    drop_more xs i 0 (omega arith) ∙ ap (λ (l : List ℕ). get_or xs i 0 ∷ l) (drop_reads (i + 1) n xs (omega arith))

-- a list is its elements
pub elements : (n : ℕ) (xs : List ℕ) → length xs ≡ n → xs ≡ reads 0 n xs
elements n xs h = drop_reads 0 n xs (omega arith)

pub two_digits_injective : (m n : ℕ) → two_digits m ≡ two_digits n → m ≡ n
two_digits_injective m n e =
    let tens : 48 + m / 10 ≡ 48 + n / 10 = ap (λ (l : List ℕ). get_or l 0 0) e in
    let ones : 48 + m % 10 ≡ 48 + n % 10 = ap (λ (l : List ℕ). get_or l 1 0) e in
    omega arith

pub three_digits_injective : (m n : ℕ) → three_digits m ≡ three_digits n → m ≡ n
three_digits_injective m n e =
    let hundreds : 48 + m / 100 ≡ 48 + n / 100 = ap (λ (l : List ℕ). get_or l 0 0) e in
    let rest = two_digits_injective (m % 100) (n % 100) (ap (drop 1) e) in
    omega arith

-- the numbers that seventeen digits show, two or three at a time
pub record Shows (digits : List ℕ) (c : Civil) : Type 0 where
  pub century : get_or digits 0 0 ∷ get_or digits 1 0 ∷ [] ≡ two_digits (c.year / 100)
  pub year : get_or digits 2 0 ∷ get_or digits 3 0 ∷ [] ≡ two_digits (c.year % 100)
  pub month : get_or digits 4 0 ∷ get_or digits 5 0 ∷ [] ≡ two_digits c.month
  pub day : get_or digits 6 0 ∷ get_or digits 7 0 ∷ [] ≡ two_digits c.day
  pub hour : get_or digits 8 0 ∷ get_or digits 9 0 ∷ [] ≡ two_digits c.hour
  pub minute : get_or digits 10 0 ∷ get_or digits 11 0 ∷ [] ≡ two_digits c.minute
  pub second : get_or digits 12 0 ∷ get_or digits 13 0 ∷ [] ≡ two_digits c.second
  pub millisecond : get_or digits 14 0 ∷ get_or digits 15 0 ∷ get_or digits 16 0 ∷ [] ≡ three_digits c.millisecond

pub shows : (digits : List ℕ) (c : Civil) → digits ≡ digits_of c → Shows digits c
shows digits c e = record {
  century = ap (λ (l : List ℕ). get_or l 0 0 ∷ get_or l 1 0 ∷ []) e;
  year = ap (λ (l : List ℕ). get_or l 2 0 ∷ get_or l 3 0 ∷ []) e;
  month = ap (λ (l : List ℕ). get_or l 4 0 ∷ get_or l 5 0 ∷ []) e;
  day = ap (λ (l : List ℕ). get_or l 6 0 ∷ get_or l 7 0 ∷ []) e;
  hour = ap (λ (l : List ℕ). get_or l 8 0 ∷ get_or l 9 0 ∷ []) e;
  minute = ap (λ (l : List ℕ). get_or l 10 0 ∷ get_or l 11 0 ∷ []) e;
  second = ap (λ (l : List ℕ). get_or l 12 0 ∷ get_or l 13 0 ∷ []) e;
  millisecond = ap (λ (l : List ℕ). get_or l 14 0 ∷ get_or l 15 0 ∷ get_or l 16 0 ∷ []) e;
}

-- two elements of a list
first_two : (x y : ℕ) (n : ℕ) → x ∷ y ∷ [] ≡ two_digits n → (x ≡ 48 + n / 10) × (y ≡ 48 + n % 10)
first_two x y n e = (ap (λ (l : List ℕ). get_or l 0 0) e, ap (λ (l : List ℕ). get_or l 1 0) e)

-- three elements of a list
first_three : (x y z : ℕ) (n : ℕ) → x ∷ y ∷ z ∷ [] ≡ three_digits n → (x ≡ 48 + n / 100) × (y ≡ 48 + n % 100 / 10) × (z ≡ 48 + n % 100 % 10)
first_three x y z n e =
    (ap (λ (l : List ℕ). get_or l 0 0) e, ap (λ (l : List ℕ). get_or l 1 0) e, ap (λ (l : List ℕ). get_or l 2 0) e)

pub digits_from_shows : (digits : List ℕ) (c : Civil) → length digits ≡ 17 → Shows digits c → digits ≡ digits_of c
digits_from_shows digits c long is =
    let p0 = first_two _ _ _ is.century in
    let p1 = first_two _ _ _ is.year in
    let p2 = first_two _ _ _ is.month in
    let p3 = first_two _ _ _ is.day in
    let p4 = first_two _ _ _ is.hour in
    let p5 = first_two _ _ _ is.minute in
    let p6 = first_two _ _ _ is.second in
    let p7 = first_three _ _ _ _ is.millisecond in
    elements 17 digits long ∙ rw (p0.0, p0.1, p1.0, p1.1, p2.0, p2.1, p3.0, p3.1, p4.0, p4.1, p5.0, p5.1, p6.0, p6.1, p7.0, p7.1, p7.2) refl

pub digits_injective : (a b : Civil) → digits_of a ≡ digits_of b → a ≡ b
digits_injective a b e =
    let is = shows (digits_of a) b e in
    let century = two_digits_injective (a.year / 100) (b.year / 100) is.century in
    let rest = two_digits_injective (a.year % 100) (b.year % 100) is.year in
    let year : a.year ≡ b.year = omega arith in
    let month = two_digits_injective a.month b.month is.month in
    let day = two_digits_injective a.day b.day is.day in
    let hour = two_digits_injective a.hour b.hour is.hour in
    let minute = two_digits_injective a.minute b.minute is.minute in
    let second = two_digits_injective a.second b.second is.second in
    let millisecond = three_digits_injective a.millisecond b.millisecond is.millisecond in
    λ i. record { year = year i; month = month i; day = day i; hour = hour i; minute = minute i; second = second i; millisecond = millisecond i }

pub all_digits_injective : (a b : ℕ) → all_digits a ≡ all_digits b → a ≡ b
unfolding all_digits
all_digits_injective a b e = civil_injective a b (digits_injective (civil_at a) (civil_at b) e)

pub length-all_digits : (date : ℕ) → length (all_digits date) ≡ 17
unfolding all_digits
length-all_digits date = refl

-- the date of what has the digits is the date of the digits
pub date_of_digits : {E : Type 0} (r : Result ℕ E) (c : Civil) (digits : List ℕ) → digits ≡ digits_of c
    → MatchResult r (λ date. InRange date × (civil_at date ≡ c)) (λ _. (date : ℕ) → InRange date → ¬ (civil_at date ≡ c))
    → MatchResult r (λ date. InRange date × (digits ≡ all_digits date)) (λ _. (date : ℕ) → InRange date → ¬ (digits ≡ all_digits date))
unfolding all_digits
date_of_digits (Ok date) c digits e h = (h.0, e ∙ ap digits_of (sym h.1))
date_of_digits (Err _) c digits e h = λ date fits same. h date fits (digits_injective (civil_at date) c (sym same ∙ e))

-- digits that nothing has are no date's
pub no_date_of_digits : (digits : List ℕ) → ((c : Civil) → HasDigits c → ¬ (digits ≡ digits_of c)) → (date : ℕ) → InRange date → ¬ (digits ≡ all_digits date)
unfolding all_digits
no_date_of_digits digits none date fits e = none (civil_at date) (HasDigits-at date fits) e
