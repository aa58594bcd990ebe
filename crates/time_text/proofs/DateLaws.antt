-- What the texts of dates promise: equal ones are of equal dates, they end where they end, and their
-- bytes are digits or visible.
use Rattle.std.proofs.Common.{◌≡◌, ℕ, ◌+◌, ◌/◌, ◌%◌, ◌<◌, ◌≤◌, inl, inr, List, [], ◌∷◌, ◌++◌, length, get_or, take, drop, sym, ap, ◌∙◌, arith}
use Rattle.std.specs.Prelude.{All}
use Rattle.std.proofs.lemmas.List.{take_at, drop_at, get_or-append_right}
use Rattle.std.proofs.Math.ListN.{get_or-append}
use Rattle.std.proofs.lemmas.List.Elements.{All-nil, All-cons, All-append, All-take, All-weaker}
use Rattle.std.proofs.lemmas.Bool.Decides.{eqb_tells}
use Rattle.time_text.specs.Bytes.{IsDigit, IsVisible}
use Rattle.time_text.specs.Calendar.{civil_at, HasDigits}
use Rattle.time_text.specs.Texts.{InRange, two_digits, three_digits, four_digits, fraction_of, digits_of, all_digits, warc_of, count_of_digits, time_digits, warc_date}
use Rattle.time_text.specs.declared.civil.Civil.{Civil}
use Rattle.time_text.proofs.Moments.{civil_injective, HasDigits-at}
use Rattle.time_text.proofs.Earliest.{time_digits_injective, length-time_digits, count_cases}
use Rattle.time_text.proofs.WarcLemmas.{IsWhole, HasFraction, warc_cases, warc_of_injective}

pub warc_date_injective : (a b : ℕ) → warc_date a ≡ warc_date b → a ≡ b
unfolding warc_date
warc_date_injective a b e = civil_injective a b (warc_of_injective (civil_at a) (civil_at b) e)

-- one text of two, whatever follows it
fronts : (p q x y : List ℕ) (n : ℕ) → length p ≡ n → length q ≡ n → p ++ x ≡ q ++ y → (p ≡ q) × (x ≡ y)
fronts p q x y n long long₂ e =
    (sym (take_at p x n long) ∙ ap (take n) e ∙ take_at q y n long₂, sym (drop_at p x n long) ∙ ap (drop n) e ∙ drop_at q y n long₂)

same_length : (a b n : ℕ) (x y : List ℕ) → length (warc_of (civil_at a)) ≡ n → length (warc_of (civil_at b)) ≡ n → warc_date a ++ x ≡ warc_date b ++ y
    → (a ≡ b) × (x ≡ y)
unfolding warc_date
same_length a b n x y long long₂ e =
    let parts = fronts (warc_date a) (warc_date b) x y n long long₂ e in
    (warc_date_injective a b parts.0, parts.1)

-- the twentieth byte tells a whole second
apart : (a b : ℕ) (x y : List ℕ) → warc_date a ++ x ≡ warc_date b ++ y → IsWhole (civil_at a) → HasFraction (civil_at b) → ⊥
unfolding warc_date
apart a b x y e is was =
    let left = get_or-append (warc_of (civil_at a)) x 0 19 (omega (arith, is.long)) ∙ is.last in
    let right = get_or-append (warc_of (civil_at b)) y 0 19 (omega (arith, was.long)) ∙ was.last in
    omega (arith, left, right, ap (λ (l : List ℕ). get_or l 19 0) e)

pub warc_date_front : (a b : ℕ) (x y : List ℕ) → warc_date a ++ x ≡ warc_date b ++ y → (a ≡ b) × (x ≡ y)
warc_date_front a b x y e =
    elim (warc_cases (civil_at a)) [
      | inl is ↦ elim (warc_cases (civil_at b)) [
        | inl was ↦ same_length a b 20 x y is.long was.long e
        | inr was ↦ absurd (apart a b x y e is was)
      ]
      | inr is ↦ elim (warc_cases (civil_at b)) [
        | inl was ↦ absurd (apart b a y x (sym e) was is)
        | inr was ↦ same_length a b 24 x y is.long was.long e
      ]
    ]

-- the fifteenth digit
later_digit : (date : ℕ) → count_of_digits date ≡ 17 → 48 ≤ get_or (time_digits date) 14 0
unfolding time_digits all_digits
later_digit date long =
    let here : 48 ≤ get_or (all_digits date) 14 0 = omega arith in
    rw long here

pub time_digits_front : (a b end : ℕ) (x y : List ℕ) → end < 48 → time_digits a ++ end ∷ x ≡ time_digits b ++ end ∷ y → (a ≡ b) × (x ≡ y)
time_digits_front a b end x y low e =
    elim (count_cases a) [
      | inl is ↦ elim (count_cases b) [
        | inl was ↦ of_length 14 is.1 was.1
        | inr was ↦ absurd (apart a b x y e is.1 was.1)
      ]
      | inr is ↦ elim (count_cases b) [
        | inl was ↦ absurd (apart b a y x (sym e) was.1 is.1)
        | inr was ↦ of_length 17 is.1 was.1
      ]
    ]
  where
    of_length : (n : ℕ) → count_of_digits a ≡ n → count_of_digits b ≡ n → (a ≡ b) × (x ≡ y)
    of_length n long long₂ =
        let parts = fronts (time_digits a) (time_digits b) (end ∷ x) (end ∷ y) n (length-time_digits a ∙ long) (length-time_digits b ∙ long₂) e in
        (time_digits_injective a b parts.0, ap (drop 1) parts.1)

    apart : (m n : ℕ) (v w : List ℕ) → time_digits m ++ end ∷ v ≡ time_digits n ++ end ∷ w → count_of_digits m ≡ 14 → count_of_digits n ≡ 17 → ⊥
    apart m n v w same short long =
        let left = get_or-append_right (time_digits m) (end ∷ v) 14 14 0 (length-time_digits m ∙ short) (omega arith) in
        let right = get_or-append (time_digits n) (end ∷ w) 0 14 (omega (arith, length-time_digits n, long)) in
        omega (arith, left, right, ap (λ (l : List ℕ). get_or l 14 0) same, later_digit n long)

digit : (n : ℕ) → n < 10 → IsDigit (48 + n)
digit n small = (omega arith, omega arith)

two_are_digits : (n : ℕ) → n ≤ 99 → All IsDigit (two_digits n)
two_are_digits n small =
    let ones : All IsDigit ((48 + n % 10) ∷ []) = All-cons IsDigit (48 + n % 10) [] (digit (n % 10) (omega arith)) (All-nil IsDigit) in
    All-cons IsDigit (48 + n / 10) ((48 + n % 10) ∷ []) (digit (n / 10) (omega arith)) ones

three_are_digits : (n : ℕ) → n ≤ 999 → All IsDigit (three_digits n)
three_are_digits n small =
    All-cons IsDigit (48 + n / 100) (two_digits (n % 100)) (digit (n / 100) (omega arith)) (two_are_digits (n % 100) (omega arith))

four_are_digits : (n : ℕ) → n ≤ 9999 → All IsDigit (four_digits n)
four_are_digits n small =
    All-append IsDigit (two_digits (n / 100)) (two_digits (n % 100)) (two_are_digits (n / 100) (omega arith)) (two_are_digits (n % 100) (omega arith))

-- texts joined, and what holds of the bytes of each
abbrev joined : List (List ℕ) → List ℕ
joined [] = []
joined (text ∷ rest) = text ++ joined rest

abbrev Each : (ℕ → Type 0) → List (List ℕ) → Type 0
Each P [] = Unit {0}
Each P (text ∷ rest) = All P text × Each P rest

all_joined : (P : ℕ → Type 0) (texts : List (List ℕ)) → Each P texts → All P (joined texts)
all_joined P [] h = All-nil P
all_joined P (text ∷ rest) h = All-append P text (joined rest) h.0 (all_joined P rest h.1)

pub digits_are_digits : (c : Civil) → HasDigits c → All IsDigit (digits_of c)
digits_are_digits c has =
    let last : Each IsDigit (two_digits c.minute ∷ two_digits c.second ∷ three_digits c.millisecond ∷ []) =
    (two_are_digits c.minute has.minute, (two_are_digits c.second has.second, (three_are_digits c.millisecond has.millisecond, tt))) in
    all_joined IsDigit
    (four_digits c.year ∷ two_digits c.month ∷ two_digits c.day ∷ two_digits c.hour ∷ two_digits c.minute ∷ two_digits c.second ∷ three_digits c.millisecond ∷ [])
    (four_are_digits c.year has.year, (two_are_digits c.month has.month, (two_are_digits c.day has.day, (two_are_digits c.hour has.hour, last))))

pub front_is_digits : (date n : ℕ) → InRange date → All IsDigit (take n (all_digits date))
unfolding all_digits
front_is_digits date n fits = All-take IsDigit n (all_digits date) (digits_are_digits (civil_at date) (HasDigits-at date fits))

pub time_is_digits : (date : ℕ) → InRange date → All IsDigit (time_digits date)
unfolding time_digits
time_is_digits date fits = front_is_digits date (count_of_digits date) fits

-- bytes that can be seen
digits_are_visible : (digits : List ℕ) → All IsDigit digits → All IsVisible digits
digits_are_visible digits h = All-weaker IsDigit IsVisible (λ byte is. (omega (arith, is), omega (arith, is))) digits h

mark_is_visible : (mark : ℕ) → IsVisible mark → All IsVisible (mark ∷ [])
mark_is_visible mark is = All-cons IsVisible mark [] is (All-nil IsVisible)

two_are_visible : (n : ℕ) → n ≤ 99 → All IsVisible (two_digits n)
two_are_visible n small = digits_are_visible (two_digits n) (two_are_digits n small)

fraction_is_visible : (c : Civil) → HasDigits c → All IsVisible (fraction_of c)
fraction_is_visible c has =
    let dot = mark_is_visible 46 (omega arith, omega arith) in
    let digits = digits_are_visible (three_digits c.millisecond) (three_are_digits c.millisecond has.millisecond) in
    elim (eqb_tells c.millisecond 0) [
      | inl h ↦ rw h.0 (All-nil IsVisible)
      | inr h ↦ rw h.0 (All-append IsVisible (46 ∷ []) (three_digits c.millisecond) dot digits)
    ]

pub warc_is_visible : (c : Civil) → HasDigits c → All IsVisible (warc_of c)
warc_is_visible c has =
    let year = digits_are_visible (four_digits c.year) (four_are_digits c.year has.year) in
    let dash = mark_is_visible 45 (omega arith, omega arith) in
    let colon = mark_is_visible 58 (omega arith, omega arith) in
    let mark = mark_is_visible 84 (omega arith, omega arith) in
    let zone = mark_is_visible 90 (omega arith, omega arith) in
    let clock : Each IsVisible (two_digits c.hour ∷ (58 ∷ []) ∷ two_digits c.minute ∷ (58 ∷ []) ∷ two_digits c.second ∷ fraction_of c ∷ (90 ∷ []) ∷ []) =
    (two_are_visible c.hour has.hour, (colon, (two_are_visible c.minute has.minute, (colon, (two_are_visible c.second has.second, (fraction_is_visible c has, (zone, tt))))))) in
    all_joined IsVisible
    (four_digits c.year ∷ (45 ∷ []) ∷ two_digits c.month ∷ (45 ∷ []) ∷ two_digits c.day ∷ (84 ∷ []) ∷ two_digits c.hour ∷ (58 ∷ []) ∷ two_digits c.minute ∷ (58 ∷ []) ∷ two_digits c.second ∷ fraction_of c ∷ (90 ∷ []) ∷ [])
    (year, (dash, (two_are_visible c.month has.month, (dash, (two_are_visible c.day has.day, (mark, clock))))))

pub warc_date_is_visible : (date : ℕ) → InRange date → All IsVisible (warc_date date)
unfolding warc_date
warc_date_is_visible date fits = warc_is_visible (civil_at date) (HasDigits-at date fits)

pub short : (date : ℕ) → (length (time_digits date) ≤ 17) × (length (warc_date date) ≤ 24)
unfolding warc_date
short date = (
  omega (arith, length-time_digits date, count_cases date),
  elim (warc_cases (civil_at date)) [
    | inl is ↦ omega (arith, is.long)
    | inr is ↦ omega (arith, is.long)
  ],
)
