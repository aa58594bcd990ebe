-- What stands at the front of a text, whatever follows it.
use Rattle.std.proofs.Common.{◌≡◌, ℕ, zero, suc, ◌^◌, ◌<◌, List, [], ◌∷◌, ◌++◌, length, append_assoc, get_or, take, drop, refl, sym, ap, ◌∙◌, arith}
use Rattle.std.specs.Prelude.{decimal, codes}
use Rattle.std.proofs.lemmas.List.{take_at, drop_at}
use Rattle.std.proofs.lemmas.Fmt.{decimal_injective, decimal_is_IsNumeral}
use Rattle.std.proofs.lemmas.Str.Parse.{digit_from_value}
use Rattle.std.specs.Str.Parse.{AllDigits}
use Rattle.warc_text.specs.Lines.{field, target_line, refers_target_line, length_lines, record_end, ended}
use Rattle.warc_text.specs.Groups.{IsOneLine}

-- of two texts of one length
pub fronts : (p q x y : List ℕ) → length p ≡ length q → p ++ x ≡ q ++ y → (p ≡ q) × (x ≡ y)
fronts p q x y long e =
    (sym (take_at p x (length p) refl) ∙ ap (take (length p)) e ∙ take_at q y (length p) (sym long), sym (drop_at p x (length p) refl) ∙ ap (drop (length p)) e ∙ drop_at q y (length p) (sym long))

-- of two texts that end at a line's end
until_return : (u v x y : List ℕ) → IsOneLine u → IsOneLine v → u ++ (13 ∷ x) ≡ v ++ (13 ∷ y) → (u ≡ v) × (x ≡ y)
until_return [] [] x y p q e = (refl, ap (drop 1) e)
until_return [] (b ∷ v) x y p q e = absurd (q 0 0 (omega arith) (sym (ap (λ (l : List ℕ). get_or l 0 0) e)))
until_return (a ∷ u) [] x y p q e = absurd (p 0 0 (omega arith) (ap (λ (l : List ℕ). get_or l 0 0) e))
until_return (a ∷ u) (b ∷ v) x y p q e =
    let rest : (u ≡ v) × (x ≡ y) = until_return u v x y (λ k d lt. p (suc k) d (omega arith)) (λ k d lt. q (suc k) d (omega arith)) (ap (drop 1) e) in
    let first : a ≡ b = ap (λ (l : List ℕ). get_or l 0 0) e in
    let others : u ≡ v = rest.0 in
    let whole : (a ∷ u) ≡ (b ∷ v) = cc in
    (whole, rest.1)

pub field_apart : (name u x : List ℕ) → field name u ++ x ≡ (name ++ codes ": ") ++ (u ++ (13 ∷ (10 ∷ x)))
unfolding field
field_apart name u x = append_assoc (name ++ codes ": " ++ u) (13 ∷ 10 ∷ []) x ∙ append_assoc (name ++ codes ": ") u (13 ∷ 10 ∷ x)

-- the value of a field is told by its line
pub field_front : (name u v x y : List ℕ) → IsOneLine u → IsOneLine v → field name u ++ x ≡ field name v ++ y → (u ≡ v) × (x ≡ y)
field_front name u v x y p q e =
    let apart : (name ++ codes ": ") ++ (u ++ (13 ∷ (10 ∷ x))) ≡ (name ++ codes ": ") ++ (v ++ (13 ∷ (10 ∷ y))) = sym (field_apart name u x) ∙ e ∙ field_apart name v y in
    let values = fronts (name ++ codes ": ") (name ++ codes ": ") (u ++ (13 ∷ (10 ∷ x))) (v ++ (13 ∷ (10 ∷ y))) refl apart in
    let parts = until_return u v (10 ∷ x) (10 ∷ y) p q values.1 in
    (parts.0, ap (drop 1) parts.1)

one_line_digits : (ds : List ℕ) → AllDigits 10 ds → IsOneLine ds
one_line_digits [] digits k d lt = absurd (omega arith)
one_line_digits (c ∷ cs) digits zero d lt = let digit = digit_from_value c digits.0 in λ e. omega (arith, digit.0, e)
one_line_digits (c ∷ cs) digits (suc k) d lt = one_line_digits cs digits.1 k d (omega arith)

one_line_decimal : (n : ℕ) → n < 2 ^ 64 → IsOneLine (decimal n)
one_line_decimal n small = one_line_digits (decimal n) (decimal_is_IsNumeral n small).0.1

-- a length is told by its line
length_lines_front : (m n : ℕ) (x y : List ℕ) → m < 2 ^ 64 → n < 2 ^ 64 → length_lines m ++ x ≡ length_lines n ++ y → (m ≡ n) × (x ≡ y)
unfolding length_lines
length_lines_front m n x y small small₂ e =
    let name = codes "Content-Length" in
    let apart : field name (decimal m) ++ (13 ∷ 10 ∷ x) ≡ field name (decimal n) ++ (13 ∷ 10 ∷ y) =
    sym (append_assoc (field name (decimal m)) (13 ∷ 10 ∷ []) x) ∙ e ∙ append_assoc (field name (decimal n)) (13 ∷ 10 ∷ []) y in
    let parts = field_front name (decimal m) (decimal n) (13 ∷ 10 ∷ x) (13 ∷ 10 ∷ y) (one_line_decimal m small) (one_line_decimal n small₂) apart in
    (decimal_injective m n small small₂ parts.0, ap (drop 2) parts.1)

spread3 : (a b c x : List ℕ) → (a ++ b ++ c) ++ x ≡ a ++ (b ++ (c ++ x))
spread3 a b c x = append_assoc (a ++ b) c x ∙ append_assoc a b (c ++ x)

-- a block is told by its length
pub ended_front : (b c x y : List ℕ) → length b < 2 ^ 64 → length c < 2 ^ 64 → ended b ++ x ≡ ended c ++ y → (b ≡ c) × (x ≡ y)
unfolding ended
ended_front b c x y small small₂ e =
    let apart : length_lines (length b) ++ (b ++ (record_end ++ x)) ≡ length_lines (length c) ++ (c ++ (record_end ++ y)) =
    sym (spread3 (length_lines (length b)) b record_end x) ∙ e ∙ spread3 (length_lines (length c)) c record_end y in
    let lengths = length_lines_front (length b) (length c) (b ++ (record_end ++ x)) (c ++ (record_end ++ y)) small small₂ apart in
    let blocks = fronts b c (record_end ++ x) (record_end ++ y) lengths.0 lengths.1 in
    let ends = fronts record_end record_end x y refl blocks.1 in
    (blocks.0, ends.1)

pub target_front : (u v x y : List ℕ) → IsOneLine u → IsOneLine v → target_line u ++ x ≡ target_line v ++ y → (u ≡ v) × (x ≡ y)
unfolding target_line
target_front u v x y p q e = field_front (codes "WARC-Target-URI") u v x y p q e

pub refers_target_front : (u v x y : List ℕ) → IsOneLine u → IsOneLine v → refers_target_line u ++ x ≡ refers_target_line v ++ y → (u ≡ v) × (x ≡ y)
unfolding refers_target_line
refers_target_front u v x y p q e = field_front (codes "WARC-Refers-To-Target-URI") u v x y p q e
