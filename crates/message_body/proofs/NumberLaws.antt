-- Digits without zeros at their front write a number in one way.
use Rattle.std.proofs.Common.{◌≡◌, ◌≢◌, ℕ, zero, suc, ◌+◌, ◌-◌, ◌*◌, ◌<◌, ◌≤◌, Bool, true, false, cond, ◌&&◌, eqb, List, [], ◌∷◌, ◌++◌, length, take, drop, get_or, refl, sym, ap, ◌∙◌, arith, inl, inr, lit≤, length-drop}
use Rattle.std.specs.Char.{is_ascii_digit, digit_value}
use Rattle.std.specs.List.{list_all, prefix_len}
use Rattle.std.specs.Str.{bytes_eq}
use Rattle.std.specs.Str.Parse.{digits_value, digits_value_after}
use Rattle.std.proofs.lemmas.Bool.{and_parts, cases_lt}
use Rattle.std.proofs.lemmas.Int.Digits.{digits_value_more}
use Rattle.std.proofs.lemmas.List.{take-append-drop}
use Rattle.std.proofs.lemmas.List.Folds.{list_all-append}
use Rattle.std.proofs.lemmas.Slice.Eq.{bytes_eq-Decides}
use Rattle.std.proofs.lemmas.Str.Parse.{digits_value-take-le}
use Rattle.std.proofs.lemmas.Bool.Decides.{nat_tests, eqb_tells}
use Rattle.message_body.specs.steps.Numerals.{IsNumeral}

never : (b : Bool) → (b ≡ true → ⊥) → b ≡ false
never true h = absurd (h refl)
never false h = refl

value_of_digit : (c : ℕ) → is_ascii_digit c ≡ true → digit_value c ≡ c - 48
value_of_digit c h = grind (arith, nat_tests)

digit_low : (c : ℕ) → is_ascii_digit c ≡ true → 48 ≤ c
digit_low c h = grind (arith, nat_tests)

digit_high : (c : ℕ) → is_ascii_digit c ≡ true → c ≤ 57
digit_high c h = grind (arith, nat_tests)

-- digits that follow those of a number
abbrev after : ℕ → List ℕ → ℕ
after n ds = digits_value_after 10 n ds

abbrev pub AreDigits : List ℕ → Type 0
AreDigits ds = list_all is_ascii_digit ds ≡ true

-- ---- the zeros at the front

-- the digits without the zeros at their front
pub record IsStripped (text digits : List ℕ) : Type 0 where
  pub value : digits_value 10 digits ≡ digits_value 10 text
  pub numeral : IsNumeral digits

abbrev at_front : ℕ → List ℕ → List ℕ
at_front b text = drop (cond (eqb b 48) (1 + prefix_len (λ c. eqb c 48) text) 0) (b ∷ text)

stripped_zero : (b : ℕ) (text : List ℕ) → eqb b 48 ≡ true → b ≡ 48
    → IsStripped text (drop (prefix_len (λ c. eqb c 48) text) text) → IsStripped (b ∷ text) (at_front b text)
stripped_zero b text is e others =
    let more : 1 + prefix_len (λ c. eqb c 48) text ≡ suc (prefix_len (λ c. eqb c 48) text) = omega arith in
    rw (is, more) (record {
      value = others.value ∙ ap (λ c. digits_value 10 (c ∷ text)) (sym e);
      numeral = others.numeral;
    })

stripped_other : (b : ℕ) (text : List ℕ) → AreDigits (b ∷ text) → eqb b 48 ≡ false → b ≢ 48
    → IsStripped (b ∷ text) (at_front b text)
stripped_other b text digits is other =
    rw is (record { value = refl; numeral = record { are_digits = digits; no_zero = other } })

pub stripped : (text : List ℕ) → AreDigits text → IsStripped text (drop (prefix_len (λ b. eqb b 48) text) text)
stripped [] digits = record { value = refl; numeral = record { are_digits = refl; no_zero = λ e. absurd (omega (arith, e)) } }
stripped (b ∷ text) digits =
    elim (eqb_tells b 48) [
      | inl zero_there ↦ stripped_zero b text zero_there.0 zero_there.1
          (stripped text (and_parts (is_ascii_digit b) (list_all is_ascii_digit text) digits).1)
      | inr other ↦ stripped_other b text digits other.0 other.1
    ]

-- ---- one way

-- the same number behind digits of one length is that of the same digits
same_after : (xs ys : List ℕ) (a b : ℕ) → AreDigits xs → AreDigits ys → length xs ≡ length ys → after a xs ≡ after b ys
    → (a ≡ b) × (xs ≡ ys)
same_after [] [] a b is_x is_y len e = (e, refl)
same_after [] (y ∷ ys) a b is_x is_y len e = absurd (omega (arith, len))
same_after (x ∷ xs) [] a b is_x is_y len e = absurd (omega (arith, len))
same_after (x ∷ xs) (y ∷ ys) a b is_x is_y len e =
    let dx = and_parts (is_ascii_digit x) (list_all is_ascii_digit xs) is_x in
    let dy = and_parts (is_ascii_digit y) (list_all is_ascii_digit ys) is_y in
    let others = same_after xs ys (a * 10 + digit_value x) (b * 10 + digit_value y) dx.1 dy.1 (omega (arith, len)) e in
    let vx = value_of_digit x dx.0 in
    let vy = value_of_digit y dy.0 in
    let lx = digit_low x dx.0 in
    let ly = digit_low y dy.0 in
    let hx = digit_high x dx.0 in
    let hy = digit_high y dy.0 in
    let heads : a ≡ b = omega (arith, others.0) in
    let bytes : x ≡ y = omega (arith, others.0) in
    (heads, λ i. bytes i ∷ others.1 i)

-- digits only add to a number
after-le : (n : ℕ) (ds : List ℕ) → n ≤ after n ds
after-le n [] = omega arith
after-le n (d ∷ ds) = omega (arith, after-le (n * 10 + digit_value d) ds)

after-append : (n : ℕ) (xs ys : List ℕ) → after n (xs ++ ys) ≡ after (after n xs) ys
after-append n [] ys = refl
after-append n (x ∷ xs) ys = after-append (n * 10 + digit_value x) xs ys

-- more digits that don't begin with a zero write another number
longer : (y : ℕ) (ys xs : List ℕ) → AreDigits (y ∷ ys) → y ≢ 48 → AreDigits xs → length xs ≤ length ys
    → digits_value 10 xs ≡ digits_value 10 (y ∷ ys) → ⊥
longer y ys xs is_y not_zero is_x more e =
    let parts = and_parts (is_ascii_digit y) (list_all is_ascii_digit ys) is_y in
    let j = length ys - length xs in
    let first = 0 * 10 + digit_value y in
    let split : take j ys ++ drop j ys ≡ ys = take-append-drop j ys in
    let digits : (list_all is_ascii_digit (take j ys) && list_all is_ascii_digit (drop j ys)) ≡ true =
    sym (list_all-append is_ascii_digit (take j ys) (drop j ys)) ∙ ap (list_all is_ascii_digit) split ∙ parts.1 in
    let is_last = (and_parts (list_all is_ascii_digit (take j ys)) (list_all is_ascii_digit (drop j ys)) digits).1 in
    let value : after (after first (take j ys)) (drop j ys) ≡ after 0 xs =
    sym (after-append first (take j ys) (drop j ys)) ∙ ap (after first) split ∙ sym e in
    let heads = (same_after (drop j ys) xs (after first (take j ys)) 0 is_last is_x (omega (arith, length-drop j ys, more)) value).0 in
    let low = digit_low y parts.0 in
    let one = value_of_digit y parts.0 in
    absurd (omega (arith, after-le first (take j ys), heads, not_zero, low, one))

-- equal numbers have the same digits
pub one_numeral : (xs ys : List ℕ) → IsNumeral xs → IsNumeral ys → digits_value 10 xs ≡ digits_value 10 ys → xs ≡ ys
one_numeral [] [] is_x is_y e = refl
one_numeral [] (y ∷ ys) is_x is_y e = absurd (longer y ys [] is_y.are_digits is_y.no_zero is_x.are_digits (omega arith) e)
one_numeral (x ∷ xs) [] is_x is_y e =
    absurd (longer x xs [] is_x.are_digits is_x.no_zero is_y.are_digits (omega arith) (sym e))
one_numeral (x ∷ xs) (y ∷ ys) is_x is_y e =
    elim (cases_lt (length xs) (length ys)) [
      | inl less ↦ absurd (longer y ys (x ∷ xs) is_y.are_digits is_y.no_zero is_x.are_digits (omega (arith, less)) e)
      | inr not_less ↦ elim (cases_lt (length ys) (length xs)) [
        | inl more ↦ absurd (longer x xs (y ∷ ys) is_x.are_digits is_x.no_zero is_y.are_digits (omega (arith, more)) (sym e))
        | inr not_more ↦ (same_after (x ∷ xs) (y ∷ ys) 0 0 is_x.are_digits is_y.are_digits (omega (arith, not_less, not_more)) e).1
      ]
    ]

-- ---- the value, digit by digit

digit_at : (ds : List ℕ) (i : ℕ) → AreDigits ds → i < length ds → is_ascii_digit (get_or ds i 0) ≡ true
digit_at [] i digits inside = absurd (omega (arith, inside))
digit_at (d ∷ ds) zero digits inside = (and_parts (is_ascii_digit d) (list_all is_ascii_digit ds) digits).0
digit_at (d ∷ ds) (suc i) digits inside =
    digit_at ds i (and_parts (is_ascii_digit d) (list_all is_ascii_digit ds) digits).1 (omega (arith, inside))

pub digit_low_at : (ds : List ℕ) (i : ℕ) → AreDigits ds → i < length ds → 48 ≤ get_or ds i 0
digit_low_at ds i digits inside = digit_low (get_or ds i 0) (digit_at ds i digits inside)

pub value_more : (ds : List ℕ) (i value d : ℕ) → AreDigits ds → i < length ds → value ≡ digits_value 10 (take i ds)
    → d ≡ get_or ds i 0 - 48 → value * 10 + d ≡ digits_value 10 (take (i + 1) ds)
value_more ds i value d digits inside is digit =
    let byte = get_or ds i 0 in
    let one : d ≡ digit_value byte = digit ∙ sym (value_of_digit byte (digit_at ds i digits inside)) in
    ap (λ v. v * 10 + d) is ∙ ap (λ n. digits_value 10 (take i ds) * 10 + n) one ∙ sym (digits_value_more 10 ds i inside)

-- a front past some number makes the whole pass it
pub value_past : (ds : List ℕ) (i value d limit : ℕ) → AreDigits ds → i < length ds → value ≡ digits_value 10 (take i ds)
    → d ≡ get_or ds i 0 - 48 → limit ≤ value * 10 + d → limit ≤ digits_value 10 ds
value_past ds i value d limit digits inside is digit past =
    omega (arith, value_more ds i value d digits inside is digit, digits_value-take-le 10 ds (i + 1) (lit≤ tt), past)

-- ---- the same number

-- numerals are the same bytes exactly where they write one number
pub same_answer : (answer : Bool) (xs ys : List ℕ) (m n : ℕ) → answer ≡ bytes_eq xs ys → digits_value 10 xs ≡ m → digits_value 10 ys ≡ n
    → IsNumeral xs → IsNumeral ys → answer ≡ eqb m n
same_answer answer xs ys m n is m_is n_is is_x is_y =
    elim (eqb_tells m n) [
      | inl same ↦ is ∙ (bytes_eq-Decides xs ys).1 (one_numeral xs ys is_x is_y (m_is ∙ same.1 ∙ sym n_is)) ∙ sym same.0
      | inr other ↦ is ∙ never (bytes_eq xs ys)
          (λ e. other.1 (sym m_is ∙ ap (digits_value 10) ((bytes_eq-Decides xs ys).0 e) ∙ n_is)) ∙ sym other.0
    ]
