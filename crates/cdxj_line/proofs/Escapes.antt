-- Bytes of JSON strings, and how they are escaped.
use Rattle.std.proofs.Common.{◌≡◌, ℕ, ◌/◌, ◌%◌, ◌<◌, ◌≤◌, true, not, ◌&&◌, ◌==◌, List, [], ◌∷◌, ◌++◌, refl, ap, ◌∙◌, arith}
use Rattle.std.specs.Prelude.{nat_le, nat_lt, IsAscii}
use Rattle.std.specs.Char.{digit_char}
use Rattle.std.specs.List.{list_all}
use Rattle.std.proofs.lemmas.Bool.{and_parts, lt-ltb, le-ltb, leb-true, ltb-true}
use Rattle.std.proofs.lemmas.Str.Ascii.{IsAscii-cons, IsAscii-nil}
use Rattle.json.specs.Print.{escape, escape_byte, escape_letter}
use Rattle.json.proofs.Printed.Strings.{escape_byte_plain}
use Rattle.cdxj_line.specs.steps.Written.{is_plain}

-- a byte with a short escape
pub short_escape : (x letter : ℕ) → letter ≡ escape_letter x → 0 < letter → escape_byte x ≡ 92 ∷ letter ∷ []
unfolding escape_byte
short_escape x letter e some = rw (e, lt-ltb 0 (escape_letter x) (omega (arith, e, some))) refl

-- a byte with a long one
pub long_escape : (x letter : ℕ) → letter ≡ escape_letter x → letter ≤ 0 → x < 32
    → escape_byte x ≡ 92 ∷ 117 ∷ 48 ∷ 48 ∷ digit_char (x / 16) ∷ digit_char (x % 16) ∷ []
unfolding escape_byte
long_escape x letter e none control = rw (le-ltb 0 (escape_letter x) (omega (arith, e, none)), lt-ltb x 32 control) refl

-- any other byte
pub no_escape : (x letter : ℕ) → letter ≡ escape_letter x → letter ≤ 0 → 32 ≤ x → escape_byte x ≡ x ∷ []
unfolding escape_byte
no_escape x letter e none visible = rw (le-ltb 0 (escape_letter x) (omega (arith, e, none)), le-ltb x 32 visible) refl

other : (a b : ℕ) → not (a == b) ≡ true → a ≡ b → ⊥
other a b e same = grind (arith, e, same)

plain_byte : (x : ℕ) → is_plain x ≡ true → escape_byte x ≡ x ∷ []
plain_byte x e =
    let parts = and_parts (not (x == 34) && not (x == 92) && nat_le 32 x) (nat_lt x 128) e in
    let visible = and_parts (not (x == 34) && not (x == 92)) (nat_le 32 x) parts.0 in
    let marks = and_parts (not (x == 34)) (not (x == 92)) visible.0 in
    escape_byte_plain x (other x 34 marks.0) (other x 92 marks.1) (leb-true 32 x visible.1)

-- it is of ASCII
pub plain_is_ascii : (text : List ℕ) → list_all is_plain text ≡ true → IsAscii text
plain_is_ascii [] e = IsAscii-nil
plain_is_ascii (x ∷ text) e =
    let parts = and_parts (is_plain x) (list_all is_plain text) e in
    let low = (and_parts (not (x == 34) && not (x == 92) && nat_le 32 x) (nat_lt x 128) parts.0).1 in
    IsAscii-cons x text (ltb-true x 128 low) (plain_is_ascii text parts.1)

-- a text in which every byte stands for itself
pub plain_text : (text : List ℕ) → list_all is_plain text ≡ true → escape text ≡ text
plain_text [] e = refl
plain_text (x ∷ text) e =
    let parts = and_parts (is_plain x) (list_all is_plain text) e in
    ap (λ front. front ++ escape text) (plain_byte x parts.0) ∙ ap (λ rest. x ∷ rest) (plain_text text parts.1)
