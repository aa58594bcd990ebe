-- Digits without a zero before them are the decimal of the number that they write.
use Rattle.std.proofs.Common.{◌≡◌, ℕ, ◌+◌, ◌-◌, ◌*◌, ◌^◌, ◌<◌, ◌≤◌, ◌⊎◌, inl, inr, true, not, ◌&&◌, ◌||◌, ◌==◌, List, Option, None, Some, length, take, get_or, ap, ◌∙◌, sym, arith, rules, lit≤}
use Rattle.std.specs.Prelude.{IfSome, IfNone}
use Rattle.std.specs.Char.{is_ascii_digit, digit_value}
use Rattle.std.specs.Fmt.{decimal}
use Rattle.std.specs.List.{list_all}
use Rattle.std.specs.Str.Parse.{digits_value}
use Rattle.std.proofs.lemmas.Bool.{and_parts, and_from, cases_lt}
use Rattle.std.proofs.lemmas.Bool.Decides.{nat_tests}
use Rattle.std.proofs.lemmas.Fmt.{decimal_digit, decimal_nonempty, decimal-digits_value, digits_decimal, digits_value-decimal, first_decimal}
use Rattle.std.proofs.lemmas.Int.Digits.{digits_value_more}
use Rattle.std.proofs.lemmas.Str.Parse.{IsNumeralModel, digit_at, digits_value-take-le, numerals_by_value}
use Rattle.json.specs.Print.{escape}
use Rattle.cdxj_line.specs.steps.Numerals.{is_numeral}
use Rattle.cdxj_line.proofs.Raw.{number_escape}

abbrev pub AreDigits : List ℕ → Type 0
AreDigits ds = list_all is_ascii_digit ds ≡ true

own : IsNumeralModel AreDigits (digits_value 10)
own = numerals_by_value AreDigits (search rules)

-- ---- one digit after the other

value_of_digit : (c : ℕ) → 48 ≤ c → c ≤ 57 → digit_value c ≡ c - 48
value_of_digit c from to = grind (arith, nat_tests)

pub value_more : (ds : List ℕ) (i value d : ℕ) → AreDigits ds → i < length ds → value ≡ digits_value 10 (take i ds) → d ≡ get_or ds i 0 - 48
    → value * 10 + d ≡ digits_value 10 (take (i + 1) ds)
value_more ds i value d digits inside is digit =
    let range = digit_at ds i (own.to ds digits) inside in
    let one : d ≡ digit_value (get_or ds i 0) = digit ∙ sym (value_of_digit (get_or ds i 0) range.0 range.1) in
    ap (λ v. v * 10 + d) is ∙ ap (λ n. digits_value 10 (take i ds) * 10 + n) one ∙ sym (digits_value_more 10 ds i inside)

-- a front past some number makes the whole pass it
pub value_past : (ds : List ℕ) (i value d limit : ℕ) → AreDigits ds → i < length ds → value ≡ digits_value 10 (take i ds) → d ≡ get_or ds i 0 - 48 → limit ≤ value * 10 + d
    → limit ≤ digits_value 10 ds
value_past ds i value d limit digits inside is digit past =
    omega (arith, value_more ds i value d digits inside is digit, digits_value-take-le 10 ds (i + 1) (lit≤ tt), past)

-- ---- numerals

some_there : (n : ℕ) → not (n == 0) ≡ true → 0 < n
some_there n e = grind (arith, e)

stands_alone : (n d : ℕ) → ((n == 1) || not (d == 48)) ≡ true → d ≡ 48 → n ≡ 1
stands_alone n d e zero_there = grind (arith, e, zero_there)

pub numeral_digits : (text : List ℕ) → is_numeral text ≡ true → AreDigits text
numeral_digits text is =
    (and_parts (not (length text == 0) && ((length text == 1) || not (get_or text 0 0 == 48))) (list_all is_ascii_digit text) is).1

numeral_decimal : (text : List ℕ) → is_numeral text ≡ true → digits_value 10 text < 2 ^ 64 → decimal (digits_value 10 text) ≡ text
numeral_decimal text is fits =
    let parts = and_parts (not (length text == 0) && ((length text == 1) || not (get_or text 0 0 == 48))) (list_all is_ascii_digit text) is in
    let front = and_parts (not (length text == 0)) ((length text == 1) || not (get_or text 0 0 == 48)) parts.0 in
    decimal-digits_value own text parts.1 (some_there (length text) front.0) (stands_alone (length text) (get_or text 0 0) front.1) fits

is_there : (n : ℕ) → 0 < n → not (n == 0) ≡ true
is_there n some = grind (arith, some)

no_zero : (n d : ℕ) → 48 < d → ((n == 1) || not (d == 48)) ≡ true
no_zero n d above = grind (arith, above)

pub decimal_numeral : (n : ℕ) → n < 2 ^ 64 → is_numeral (decimal n) ≡ true
decimal_numeral n fits = go (cases_lt 0 n) where
  go : (0 < n) ⊎ (n ≤ 0) → is_numeral (decimal n) ≡ true
  go (inl some) =
      and_from (not (length (decimal n) == 0) && ((length (decimal n) == 1) || not (get_or (decimal n) 0 0 == 48))) (list_all is_ascii_digit (decimal n))
      (and_from (not (length (decimal n) == 0)) ((length (decimal n) == 1) || not (get_or (decimal n) 0 0 == 48))
      (is_there (length (decimal n)) (decimal_nonempty n fits)) (no_zero (length (decimal n)) (get_or (decimal n) 0 0) (first_decimal n some fits)))
      (digits_decimal own n fits)
  go (inr none) =
      let zero_there : n ≡ 0 = omega (arith, none) in
      ap (λ m. is_numeral (decimal m)) zero_there ∙ ap is_numeral (decimal_digit 0 (omega arith))

-- ---- what a numeral tells

-- a number that was read of a numeral has its text
pub read_number_text : (r : Option ℕ) (text : List ℕ) → is_numeral text ≡ true → IfSome r (λ number. number < 2 ^ 64) → IfSome r (λ number. number ≡ digits_value 10 text)
    → IfSome r (λ number. text ≡ escape (decimal number))
read_number_text None text is fits value = tt
read_number_text (Some number) text is fits value =
    sym (numeral_decimal text is (omega (arith, fits, value))) ∙ ap decimal (sym value) ∙ sym (number_escape number fits)

-- and the number of a text is read
pub number_read : (r : Option ℕ) (text : List ℕ) (n : ℕ) → n < 2 ^ 64 → text ≡ decimal n → IfSome r (λ number. number ≡ digits_value 10 text) → IfNone r (2 ^ 64 ≤ digits_value 10 text)
    → r ≡ Some n
number_read None text n fits is value none =
    let told : digits_value 10 text ≡ n = ap (digits_value 10) is ∙ digits_value-decimal own n fits in
    absurd (omega (arith, none, told, fits))
number_read (Some number) text n fits is value none =
    let told : digits_value 10 text ≡ n = ap (digits_value 10) is ∙ digits_value-decimal own n fits in
    ap Some (value ∙ told)
