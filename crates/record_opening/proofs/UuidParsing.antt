-- What is parsed of the text of a UUID is one.
use Rattle.std.proofs.Common.{◌≡◌, ℕ, zero, suc, ◌+◌, ◌*◌, ◌<◌, Bool, true, false, ◌&&◌, ◌==◌, List, [], ◌∷◌, length, get_or, Option, Some, None, if◌then◌else◌, true≢false, is_some, unwrap_or, refl, sym, ap, subst, ◌∙◌, arith}
use Rattle.std.specs.List.{list_all}
use Rattle.std.proofs.lemmas.Bool.{and_parts, eqb-true}
use Rattle.std.proofs.lemmas.Bool.Decides.{nat_tests}
use Rattle.std.proofs.lemmas.List.Elements.{All-from_get_or}
use Rattle.uuid.specs.Text.{by_index, byte_of_digits, digits_of, has_hyphens, is_hex_digit, parsed, parsed_hyphenated, parsed_simple, value_of}
use Rattle.uuid.proofs.TextLemmas.{by_index_length, by_index_at}
use Rattle.warc_text.specs.Ids.{IsUuid}

value_small : (c : ℕ) → is_hex_digit c ≡ true → value_of c < 16
value_small c hex = grind (arith, nat_tests)

pair_small : (a b : ℕ) → a < 16 → b < 16 → a * 16 + b < 256
pair_small a b p q = omega arith

digit_at : (hex : List ℕ) (k : ℕ) → list_all is_hex_digit hex ≡ true → k < length hex → is_hex_digit (get_or hex k 0) ≡ true
digit_at [] k all inside = absurd (omega arith)
digit_at (c ∷ hex) zero all inside = (and_parts (is_hex_digit c) (list_all is_hex_digit hex) all).0
digit_at (c ∷ hex) (suc k) all inside = digit_at hex k (and_parts (is_hex_digit c) (list_all is_hex_digit hex) all).1 (omega arith)

some_when : (b : Bool) (x id : List ℕ) → Some id ≡ (if b then Some x else None) → (b ≡ true) × (id ≡ x)
some_when true x id e = (refl, ap (λ (o : Option (List ℕ)). unwrap_or o []) e)
some_when false x id e = absurd (true≢false (ap is_some e))

when_some : (b : Bool) (x : Option (List ℕ)) (id : List ℕ) → Some id ≡ (if b then x else None) → Some id ≡ x
when_some true x id e = e
when_some false x id e = absurd (true≢false (ap is_some e))

simple_is_uuid : (hex id : List ℕ) → Some id ≡ parsed_simple hex → IsUuid id
simple_is_uuid hex id e =
    let bytes = by_index 16 (byte_of_digits hex) in
    let some = some_when ((length hex == 32) && list_all is_hex_digit hex) bytes id e in
    let tests = and_parts (length hex == 32) (list_all is_hex_digit hex) some.0 in
    let long : length hex ≡ 32 = eqb-true (length hex) 32 tests.0 in
    let whole : length bytes ≡ 16 = by_index_length 16 (byte_of_digits hex) in
    let small : (i : ℕ) → i < 16 → byte_of_digits hex i < 256 = λ i low.
    pair_small (value_of (get_or hex (2 * i) 0)) (value_of (get_or hex (2 * i + 1) 0))
    (value_small (get_or hex (2 * i) 0) (digit_at hex (2 * i) tests.1 (omega (arith, low, long))))
    (value_small (get_or hex (2 * i + 1) 0) (digit_at hex (2 * i + 1) tests.1 (omega (arith, low, long)))) in
    let is : IsUuid bytes = record {
      length_is = whole;
      bytes = All-from_get_or (λ b. b < 256) bytes 0 (λ i inside.
          let low : i < 16 = omega (arith, inside, whole) in
          subst (λ b. b < 256) (sym (by_index_at 16 (byte_of_digits hex) i 0 low)) (small i low));
    } in
    subst IsUuid (sym some.1) is

parsed_at_36 : (text : List ℕ) → length text ≡ 36 → parsed text ≡ parsed_hyphenated text
parsed_at_36 text long = rw long refl

pub parsed_is_uuid : (text id : List ℕ) → length text ≡ 36 → Some id ≡ parsed text → IsUuid id
parsed_is_uuid text id long e =
    simple_is_uuid (digits_of text) id
    (when_some ((length text == 36) && has_hyphens text) (parsed_simple (digits_of text)) id (e ∙ parsed_at_36 text long))
