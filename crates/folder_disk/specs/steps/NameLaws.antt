-- Names of numbered files are apart.
use Rattle.std.proofs.Common.{◌≡◌, ◌≢◌, ◌<◌, ◌+◌, ◌-◌, ◌^◌, ℕ, zero, suc, List, [], ◌∷◌, ◌++◌, length, get_or, refl, sym, ap, ◌∙◌, inl, inr, arith, length-append}
use Rattle.std.specs.Prelude.{replicate, codes, decimal, Err, Option, Some, None, MatchOption}
use Rattle.std.specs.Borrow.{Bor}
use Rattle.std.specs.Str.{IsAscii, IsUtf8}
use Rattle.std.specs.Char.{digit_value}
use Rattle.std.proofs.Common.{subst}
use Rattle.std.proofs.lemmas.Str.{IsAscii-append, IsUtf8-from_ascii}
use Rattle.std.proofs.lemmas.Str.Ascii.{IsAscii-nil, IsAscii-cons}
use Rattle.std.proofs.lemmas.Str.Parse.{without_leading_plus_none}
use Rattle.std.proofs.lemmas.Fmt.{IsAscii-from_digits}
use Rattle.folder_disk.specs.NameTexts.{six_digits, ending_of, name_of}
use Rattle.std.specs.Str.Parse.{AllDigits, IsNumeral, ParsesUnsigned, digits_value, without_leading_plus}
use Rattle.std.proofs.lemmas.Fmt.{decimal_is_IsNumeral}
use Rattle.std.proofs.lemmas.List.{append_cancel_left, append_cancel_right, get_or-append-add}
use Rattle.disk_model.specs.declared.kind.Kind.{Kind}
use Rattle.disk_model.specs.declared.kind.Kind.TheVariants.{Warc, Cdxj}
use Rattle.folder_model.specs.Seen.{NamesApart}

-- zeros before digits change no value
zeros_before : (k : ℕ) (ds : List ℕ) → digits_value 10 (replicate k 48 ++ ds) ≡ digits_value 10 ds
zeros_before zero ds = refl
zeros_before (suc k) ds = zeros_before k ds

pub six_digits_value : (n : ℕ) → n < 2 ^ 64 → digits_value 10 (six_digits n) ≡ n
unfolding six_digits
six_digits_value n small = zeros_before (6 - length (decimal n)) (decimal n) ∙ (decimal_is_IsNumeral n small).1

same_digits : (n m : ℕ) → n < 2 ^ 32 → m < 2 ^ 32 → six_digits n ≡ six_digits m → n ≡ m
same_digits n m small few same =
    sym (six_digits_value n (omega (arith, small))) ∙ ap (digits_value 10) same ∙ six_digits_value m (omega (arith, few))

-- the last letter tells the kind
last_letter : Kind → ℕ
last_letter Warc = 99
last_letter Cdxj = 106

ends : (kind : Kind) → (length (ending_of kind) ≡ 5)
ends Warc = refl
ends Cdxj = refl

letter : (kind : Kind) → get_or (ending_of kind) 4 0 ≡ last_letter kind
unfolding last_letter
letter Warc = refl
letter Cdxj = refl

last_of : (xs : List ℕ) (kind : Kind) → get_or (xs ++ ending_of kind) (length (xs ++ ending_of kind) - 1) 0 ≡ last_letter kind
last_of xs kind =
    let at : length (xs ++ ending_of kind) - 1 ≡ length xs + 4 = omega (arith, length-append xs (ending_of kind), ends kind) in
    ap (λ (n : ℕ). get_or (xs ++ ending_of kind) n 0) at ∙ get_or-append-add xs (ending_of kind) 4 0 ∙ letter kind

same_letter : (xs ys : List ℕ) (kind k : Kind) → xs ++ ending_of kind ≡ ys ++ ending_of k → last_letter kind ≡ last_letter k
same_letter xs ys kind k same =
    sym (last_of xs kind) ∙ ap (λ (t : List ℕ). get_or t (length t - 1) 0) same ∙ last_of ys k

kind_of_letter : (kind k : Kind) → last_letter kind ≡ last_letter k → kind ≡ k
unfolding last_letter
kind_of_letter Warc Warc same = refl
kind_of_letter Warc Cdxj same = absurd (omega (arith, same))
kind_of_letter Cdxj Warc same = absurd (omega (arith, same))
kind_of_letter Cdxj Cdxj same = refl

pub names_apart : NamesApart name_of
unfolding name_of
names_apart kind file k f small few (inl other) same =
    other (kind_of_letter k kind (same_letter (codes "vol-" ++ six_digits f) (codes "vol-" ++ six_digits file) k kind same))
names_apart kind file k f small few (inr other) same =
    let kinds : k ≡ kind = kind_of_letter k kind (same_letter (codes "vol-" ++ six_digits f) (codes "vol-" ++ six_digits file) k kind same) in
    let fronts : codes "vol-" ++ six_digits f ≡ codes "vol-" ++ six_digits file =
    append_cancel_right (codes "vol-" ++ six_digits f) (codes "vol-" ++ six_digits file) (ending_of kind)
    (ap (λ (kk : Kind). (codes "vol-" ++ six_digits f) ++ ending_of kk) (sym kinds) ∙ same) in
    other (same_digits f file few small (append_cancel_left (codes "vol-") (six_digits f) (six_digits file) fronts))

-- ---- what a name is made of

-- zeros before digits are digits
zeros_are_digits : (k : ℕ) (ds : List ℕ) → AllDigits 10 ds → AllDigits 10 (replicate k 48 ++ ds)
zeros_are_digits zero ds all = all
zeros_are_digits (suc k) ds all = (omega arith, zeros_are_digits k ds all)

pub six_digits_numeral : (n : ℕ) → n < 2 ^ 64 → IsNumeral 10 (six_digits n)
unfolding six_digits
six_digits_numeral n small =
    let own = (decimal_is_IsNumeral n small).0 in (
      omega (arith, own.0, length-append (replicate (6 - length (decimal n)) 48) (decimal n)),
      zeros_are_digits (6 - length (decimal n)) (decimal n) own.1,
    )

pub six_digits_ascii : (n : ℕ) → n < 2 ^ 64 → IsAscii (six_digits n)
six_digits_ascii n small = IsAscii-from_digits (six_digits n) (six_digits_numeral n small).1

ending_ascii : (kind : Kind) → IsAscii (ending_of kind)
ending_ascii Warc = IsAscii-cons 46 (119 ∷ 97 ∷ 114 ∷ 99 ∷ []) (omega arith) (IsAscii-cons 119 (97 ∷ 114 ∷ 99 ∷ []) (omega arith) (IsAscii-cons 97 (114 ∷ 99 ∷ []) (omega arith) (IsAscii-cons 114 (99 ∷ []) (omega arith) (IsAscii-cons 99 [] (omega arith) IsAscii-nil))))
ending_ascii Cdxj = IsAscii-cons 46 (99 ∷ 100 ∷ 120 ∷ 106 ∷ []) (omega arith) (IsAscii-cons 99 (100 ∷ 120 ∷ 106 ∷ []) (omega arith) (IsAscii-cons 100 (120 ∷ 106 ∷ []) (omega arith) (IsAscii-cons 120 (106 ∷ []) (omega arith) (IsAscii-cons 106 [] (omega arith) IsAscii-nil))))

front_ascii : IsAscii (codes "vol-")
front_ascii = IsAscii-cons 118 (111 ∷ 108 ∷ 45 ∷ []) (omega arith) (IsAscii-cons 111 (108 ∷ 45 ∷ []) (omega arith) (IsAscii-cons 108 (45 ∷ []) (omega arith) (IsAscii-cons 45 [] (omega arith) IsAscii-nil)))

pub name_is_text : (kind : Kind) (file : ℕ) → file < 2 ^ 32 → IsUtf8 (name_of kind file)
unfolding name_of
name_is_text kind file small =
    IsUtf8-from_ascii (codes "vol-" ++ six_digits file ++ ending_of kind)
    (IsAscii-append (codes "vol-" ++ six_digits file) (ending_of kind)
    (IsAscii-append (codes "vol-") (six_digits file) front_ascii (six_digits_ascii file (omega (arith, small)))) (ending_ascii kind))

-- what stands between front and ending of a name are its digits
pub digits_between : (kind : Kind) (file : ℕ) (digits : List ℕ) → codes "vol-" ++ digits ++ ending_of kind ≡ name_of kind file → digits ≡ six_digits file
unfolding name_of
digits_between kind file digits same =
    append_cancel_left (codes "vol-") digits (six_digits file)
    (append_cancel_right (codes "vol-" ++ digits) (codes "vol-" ++ six_digits file) (ending_of kind) same)

-- no plus stands before them
no_digit : (x : ℕ) → x ≡ 43 → digit_value x < 10 → ⊥
no_digit x plus low = omega (arith, subst (λ (c : ℕ). digit_value c < 10) plus low)

without : (ds : List ℕ) → IsNumeral 10 ds → without_leading_plus ds ≡ ds
without [] numeral = absurd (omega (arith, numeral.0))
without (c ∷ cs) numeral = without_leading_plus_none (c ∷ cs) (λ plus. no_digit c plus numeral.1.0)

pub no_plus : (n : ℕ) → n < 2 ^ 64 → without_leading_plus (six_digits n) ≡ six_digits n
no_plus n small = without (six_digits n) (six_digits_numeral n small)

-- what a name is made of
pub name_made : (kind : Kind) (file : ℕ) → name_of kind file ≡ codes "vol-" ++ six_digits file ++ ending_of kind
unfolding name_of
name_made kind file = refl

-- what its digits are parsed as
digits_are : (n : ℕ) → n < 2 ^ 32 → digits_value 10 (without_leading_plus (six_digits n)) ≡ n
digits_are n small = ap (digits_value 10) (no_plus n (omega (arith, small))) ∙ six_digits_value n (omega (arith, small))

pub parsed_ok : (n x : ℕ) (digits : List ℕ) → n < 2 ^ 32 → digits ≡ six_digits n → x ≡ digits_value 10 (without_leading_plus digits) → x ≡ n
parsed_ok n x digits small is value = value ∙ ap (λ (ds : List ℕ). digits_value 10 (without_leading_plus ds)) is ∙ digits_are n small

pub parsed_err : {E : Type 0} (n : ℕ) (e : E) (digits : List ℕ) → n < 2 ^ 32 → digits ≡ six_digits n → ParsesUnsigned {E = E} 32 10 digits (Err e) → ⊥
parsed_err n e digits small is holds =
    let numeral : IsNumeral 10 (without_leading_plus digits) =
    subst (IsNumeral 10) (sym (ap without_leading_plus is ∙ no_plus n (omega (arith, small)))) (six_digits_numeral n (omega (arith, small))) in
    let value : digits_value 10 (without_leading_plus digits) ≡ n = ap (λ (ds : List ℕ). digits_value 10 (without_leading_plus ds)) is ∙ digits_are n small in
    holds (numeral, omega (arith, value, small))

-- what is left of a text between a front and an ending
pub stripped : (front ending text rest : List ℕ) (left : Option (Bor (List ℕ))) → text ≡ front ++ rest
    → MatchOption left ((part : List ℕ) → rest ≢ part ++ ending) (λ part. rest ≡ part.now ++ ending)
    → MatchOption left ((part : List ℕ) → text ≢ front ++ (part ++ ending)) (λ part. text ≡ front ++ (part.now ++ ending))
stripped front ending text rest None is lacks = λ part same. lacks part (append_cancel_left front rest (part ++ ending) (sym is ∙ same))
stripped front ending text rest (Some part) is has = is ∙ ap (λ (l : List ℕ). front ++ l) has
