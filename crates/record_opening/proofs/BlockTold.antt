-- A block tells itself, whatever follows it.
use Rattle.std.proofs.Common.{◌≡◌, ℕ, zero, suc, ◌^◌, ◌<◌, List, [], ◌∷◌, ◌++◌, length, drop, append_assoc, refl, sym, ap, ◌∙◌, arith}
use Rattle.std.specs.Prelude.{codes, decimal}
use Rattle.std.specs.Str.Parse.{AllDigits}
use Rattle.std.proofs.lemmas.Fmt.{decimal_injective, decimal_is_IsNumeral}
use Rattle.std.proofs.lemmas.Str.Parse.{digit_from_value}
use Rattle.warc_text.specs.Groups.{IsOneLine}
use Rattle.warc_text.specs.Lines.{field, length_lines, record_end, ended}
use Rattle.warc_text.proofs.Fronts.{fronts, field_front}
use Rattle.record_opening.specs.Blocks.{IsWord}
use Rattle.record_opening.proofs.Refusals.{IsTold}

digits_are_one_line : (ds : List ℕ) → AllDigits 10 ds → IsOneLine ds
digits_are_one_line [] digits k d lt = absurd (omega arith)
digits_are_one_line (c ∷ cs) digits zero d lt = let digit = digit_from_value c digits.0 in λ e. omega (arith, digit.0, e)
digits_are_one_line (c ∷ cs) digits (suc k) d lt = digits_are_one_line cs digits.1 k d (omega arith)

pub number_is_one_line : (n : ℕ) → n < 2 ^ 64 → IsOneLine (decimal n)
number_is_one_line n small = digits_are_one_line (decimal n) (decimal_is_IsNumeral n small).0.1

-- a length is told by its lines
pub length_told : (n : ℕ) → n < 2 ^ 64 → IsTold IsWord length_lines n
unfolding length_lines
length_told n small m x y small₂ e =
    let name = codes "Content-Length" in
    let apart : field name (decimal n) ++ (13 ∷ 10 ∷ x) ≡ field name (decimal m) ++ (13 ∷ 10 ∷ y) =
    sym (append_assoc (field name (decimal n)) (13 ∷ 10 ∷ []) x) ∙ e ∙ append_assoc (field name (decimal m)) (13 ∷ 10 ∷ []) y in
    let parts = field_front name (decimal n) (decimal m) (13 ∷ 10 ∷ x) (13 ∷ 10 ∷ y) (number_is_one_line n small) (number_is_one_line m small₂) apart in
    (decimal_injective n m small small₂ parts.0, ap (drop 2) parts.1)

spread : (a b c x : List ℕ) → (a ++ b ++ c) ++ x ≡ a ++ (b ++ (c ++ x))
spread a b c x = append_assoc (a ++ b) c x ∙ append_assoc a b (c ++ x)

-- blocks behind one opening
pub block_told : (b c x y : List ℕ) → length b < 2 ^ 64 → length c < 2 ^ 64 → ended b ++ x ≡ ended c ++ y → (b ≡ c) × (x ≡ y)
unfolding ended
block_told b c x y small small₂ e =
    let apart : length_lines (length b) ++ (b ++ (record_end ++ x)) ≡ length_lines (length c) ++ (c ++ (record_end ++ y)) =
    sym (spread (length_lines (length b)) b record_end x) ∙ e ∙ spread (length_lines (length c)) c record_end y in
    let lengths = length_told (length b) small (length c) (b ++ (record_end ++ x)) (c ++ (record_end ++ y)) small₂ apart in
    let blocks = fronts b c (record_end ++ x) (record_end ++ y) lengths.0 lengths.1 in
    (blocks.0, (fronts record_end record_end x y refl blocks.1).1)
