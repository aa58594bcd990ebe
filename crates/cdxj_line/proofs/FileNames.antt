-- A volume's number in the name of its file: six digits or more, written and read.
use Rattle.std.proofs.Common.{◌≡◌, ℕ, zero, suc, codes, List, [], ◌∷◌, ◌++◌, ◌-◌, ◌^◌, ◌<◌, ◌≤◌, length, true, Result, Ok, refl, ap, ◌∙◌, subst, sym, arith, length-append}
use Rattle.std.proofs.lemmas.Bool.{and_parts, and_from, ne_eqb, le-leb, lt-ltb}
use Rattle.std.proofs.lemmas.List.{append_assoc}
use Rattle.std.proofs.lemmas.Fmt.{decimal_is_IsNumeral, IsAscii-decimal}
use Rattle.std.proofs.lemmas.Str.{IsUtf8-append, IsUtf8-from_ascii}
use Rattle.std.proofs.lemmas.Str.Parse.{digit_from_value, IsNumeralModel, numerals_by_value, tells_digits, parse_gives}
use Rattle.std.specs.Prelude.{replicate}
use Rattle.std.specs.Fmt.{decimal}
use Rattle.std.specs.List.{list_all}
use Rattle.std.specs.Str.{IsUtf8}
use Rattle.std.specs.Str.Parse.{AllDigits, digits_value, ParsesUnsigned}
use Rattle.json.specs.Print.{quoted}
use Rattle.json.proofs.Printed.Utf8.{IsUtf8-are_ascii}
use Rattle.cdxj_line.specs.Lines.{six_digits, file_name}
use Rattle.cdxj_line.specs.steps.Written.{is_plain}
use Rattle.cdxj_line.proofs.Escapes.{plain_text}

-- ---- the name as a JSON string

all_plain : (xs ys : List ℕ) → list_all is_plain xs ≡ true → list_all is_plain ys ≡ true → list_all is_plain (xs ++ ys) ≡ true
all_plain [] ys p q = q
all_plain (x ∷ xs) ys p q =
    let parts = and_parts (is_plain x) (list_all is_plain xs) p in
    and_from (is_plain x) (list_all is_plain (xs ++ ys)) parts.0 (all_plain xs ys parts.1 q)

plain_zeros : (n : ℕ) → list_all is_plain (replicate n 48) ≡ true
plain_zeros zero = refl
plain_zeros (suc n) = plain_zeros n

plain_digit : (c : ℕ) → 48 ≤ c → c ≤ 57 → is_plain c ≡ true
plain_digit c from to = rw (ne_eqb c 34 (λ e. omega arith), ne_eqb c 92 (λ e. omega arith), le-leb 32 c (omega arith), lt-ltb c 128 (omega arith)) refl

pub plain_digits : (ds : List ℕ) → AllDigits 10 ds → list_all is_plain ds ≡ true
plain_digits [] all = refl
plain_digits (c ∷ cs) all =
    let digit = digit_from_value c all.0 in
    and_from (is_plain c) (list_all is_plain cs) (plain_digit c (omega (arith, digit.0)) (omega (arith, digit.1))) (plain_digits cs all.1)

pub plain_name : (volume : ℕ) → volume < 2 ^ 32 → list_all is_plain (file_name volume) ≡ true
plain_name volume fits =
    let numeral = decimal_is_IsNumeral volume (omega arith) in
    all_plain (codes "vol-" ++ six_digits volume) (codes ".warc")
    (all_plain (codes "vol-") (six_digits volume) refl
    (all_plain (replicate (6 - length (decimal volume)) 48) (decimal volume) (plain_zeros (6 - length (decimal volume))) (plain_digits (decimal volume) numeral.0.1)))
    refl

four_put : (a b c d o0 o1 o2 o3 o4 : List ℕ) → o1 ≡ o0 ++ a → o2 ≡ o1 ++ b → o3 ≡ o2 ++ c → o4 ≡ o3 ++ d → o4 ≡ o0 ++ (a ++ (b ++ (c ++ d)))
four_put a b c d o0 o1 o2 o3 o4 h1 h2 h3 h4 =
    h4 ∙ ap (λ t. t ++ d) (h3 ∙ ap (λ t. t ++ c) (h2 ∙ ap (λ t. t ++ b) h1)) ∙ simp append_assoc

flat_name : (v z d w q : List ℕ) → (v ++ (z ++ d) ++ w) ++ q ≡ v ++ (z ++ (d ++ (w ++ q)))
flat_name v z d w q = simp append_assoc

-- the pieces in which the name is put, as a JSON string
pub name_put : (volume : ℕ) (o0 o1 o2 o3 o4 zeros digits : List ℕ) → volume < 2 ^ 32 → digits ≡ decimal volume → zeros ≡ replicate (6 - length digits) 48
    → o1 ≡ o0 ++ codes "\"vol-" → o2 ≡ o1 ++ zeros → o3 ≡ o2 ++ digits → o4 ≡ o3 ++ codes ".warc\"" → o4 ≡ o0 ++ quoted (file_name volume)
name_put volume o0 o1 o2 o3 o4 zeros digits fits digits_are zeros_are h1 h2 h3 h4 =
    let z = replicate (6 - length (decimal volume)) 48 in
    let zeros_is : zeros ≡ z = zeros_are ∙ ap (λ (ds : List ℕ). replicate (6 - length ds) 48) digits_are in
    let flat : file_name volume ++ 34 ∷ [] ≡ codes "vol-" ++ (z ++ (decimal volume ++ (codes ".warc" ++ 34 ∷ []))) = flat_name (codes "vol-") z (decimal volume) (codes ".warc") (34 ∷ []) in
    let text : quoted (file_name volume) ≡ 34 ∷ (codes "vol-" ++ (z ++ (decimal volume ++ (codes ".warc" ++ 34 ∷ [])))) =
    ap (λ (t : List ℕ). 34 ∷ (t ++ 34 ∷ [])) (plain_text (file_name volume) (plain_name volume fits)) ∙ ap (λ (t : List ℕ). 34 ∷ t) flat in
    four_put (codes "\"vol-") z (decimal volume) (codes ".warc\"") o0 o1 o2 o3 o4 h1 (h2 ∙ ap (λ t. o1 ++ t) zeros_is) (h3 ∙ ap (λ t. o2 ++ t) digits_are) h4
    ∙ ap (λ t. o0 ++ t) (sym text)

-- ---- the number in it

AllDigits-zeros : (n : ℕ) (digits : List ℕ) → AllDigits 10 digits → AllDigits 10 (replicate n 48 ++ digits)
AllDigits-zeros zero digits all = all
AllDigits-zeros (suc n) digits all = (omega arith, AllDigits-zeros n digits all)

digits_value-zeros : (n : ℕ) (digits : List ℕ) → digits_value 10 (replicate n 48 ++ digits) ≡ digits_value 10 digits
digits_value-zeros zero digits = refl
digits_value-zeros (suc n) digits = digits_value-zeros n digits

-- the number that six digits or more tell
pub digits_value-six : (number : ℕ) → number < 2 ^ 32 → digits_value 10 (six_digits number) ≡ number
digits_value-six number fits = digits_value-zeros (6 - length (decimal number)) (decimal number) ∙ (decimal_is_IsNumeral number (omega arith)).1

own : IsNumeralModel (AllDigits 10) (digits_value 10)
own = numerals_by_value (AllDigits 10) tells_digits

-- the number that is parsed from six digits or more
pub six_digits_parsed : {E : Type 0} (number : ℕ) (text : List ℕ) (r : Result ℕ E) → number < 2 ^ 32 → text ≡ six_digits number → ParsesUnsigned 32 10 text r → r ≡ Ok number
six_digits_parsed number text r fits is parses =
    let zeros : ℕ = 6 - length (decimal number) in
    let numeral = decimal_is_IsNumeral number (omega arith) in
    let digits : AllDigits 10 text = subst (AllDigits 10) (sym is) (AllDigits-zeros zeros (decimal number) numeral.0.1) in
    let value : digits_value 10 text ≡ number = ap (digits_value 10) is ∙ digits_value-zeros zeros (decimal number) ∙ numeral.1 in
    let some : 0 < length text = omega (arith, ap length is, length-append (replicate zeros 48) (decimal number), numeral.0.0) in
    parse_gives own 32 text r parses digits some (omega arith) ∙ ap Ok value

-- they are of ASCII
zeros_text : (n : ℕ) → IsUtf8 (replicate n 48)
zeros_text zero = IsUtf8-are_ascii [] refl
zeros_text (suc n) = IsUtf8-append (48 ∷ []) (replicate n 48) (IsUtf8-are_ascii (48 ∷ []) refl) (zeros_text n)

pub six_digits_text : (number : ℕ) → number < 2 ^ 32 → IsUtf8 (six_digits number)
six_digits_text number fits =
    IsUtf8-append (replicate (6 - length (decimal number)) 48) (decimal number) (zeros_text (6 - length (decimal number)))
    (IsUtf8-from_ascii (decimal number) (IsAscii-decimal number (omega arith)))

-- and begin with their zeros
pub six_digits_front : (number found : ℕ) (digits written zeros : List ℕ) → digits ≡ six_digits number → found ≡ number → written ≡ decimal found → zeros ≡ replicate (6 - length written) 48
    → (digits ≡ zeros ++ decimal number) × (written ≡ decimal number)
six_digits_front number found digits written zeros is same written_is zeros_are =
    let text : written ≡ decimal number = written_is ∙ ap decimal same in
    (is ∙ ap (λ z. z ++ decimal number) (sym (zeros_are ∙ ap (λ (t : List ℕ). replicate (6 - length t) 48) text)), text)
