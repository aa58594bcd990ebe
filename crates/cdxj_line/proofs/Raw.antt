-- Values of members, as they stand between the quotes of their strings: nothing in them is escaped.
use Rattle.std.proofs.Common.{◌≡◌, ℕ, ◌^◌, ◌<◌, ◌≤◌, ◌⊎◌, inl, inr, true, List, refl, arith}
use Rattle.std.specs.Prelude.{Contains}
use Rattle.std.specs.Fmt.{decimal}
use Rattle.std.proofs.lemmas.Bool.{ne_eqb, le-leb, lt-ltb}
use Rattle.std.proofs.lemmas.Fmt.{decimal_is_IsNumeral}
use Rattle.std.proofs.lemmas.List.Elements.{All-weaker}
use Rattle.std.proofs.lemmas.List.Sums.{list_all-from_AllPass}
use Rattle.digest32.specs.Base32.{alphabet, base32, IsDigest, IsDigestText}
use Rattle.digest32.proofs.Alphabet.{alphabet_ranges}
use Rattle.digest32.proofs.Texts.{is_digest_text}
use Rattle.json.specs.Print.{escape}
use Rattle.cdxj_line.specs.Lines.{file_name}
use Rattle.cdxj_line.specs.steps.Written.{is_plain}
use Rattle.cdxj_line.proofs.Escapes.{plain_text}
use Rattle.cdxj_line.proofs.FileNames.{plain_digits, plain_name}

plain_visible : (b : ℕ) → 32 ≤ b → b < 128 → (b ≡ 34 → ⊥) → (b ≡ 92 → ⊥) → is_plain b ≡ true
plain_visible b visible low quote slash = rw (ne_eqb b 34 quote, ne_eqb b 92 slash, le-leb 32 b visible, lt-ltb b 128 low) refl

plain_letter : (byte : ℕ) → Contains alphabet byte → is_plain byte ≡ true
plain_letter byte among = go (alphabet_ranges byte among) where
  go : ((65 ≤ byte) × (byte ≤ 90)) ⊎ ((50 ≤ byte) × (byte ≤ 55)) → is_plain byte ≡ true
  go (inl letter) = plain_visible byte (omega (arith, letter.0)) (omega (arith, letter.1)) (λ e. omega (arith, letter.0, e)) (λ e. omega (arith, letter.1, e))
  go (inr digit) = plain_visible byte (omega (arith, digit.0)) (omega (arith, digit.1)) (λ e. omega (arith, digit.0, e)) (λ e. omega (arith, digit.1, e))

pub digest_text_escape : (text : List ℕ) → IsDigestText text → escape text ≡ text
digest_text_escape text is =
    plain_text text (list_all-from_AllPass is_plain text (All-weaker (Contains alphabet) (λ b. is_plain b ≡ true) plain_letter text is.in_alphabet))

pub digest_escape : (digest : List ℕ) → IsDigest digest → escape (base32 digest) ≡ base32 digest
digest_escape digest is = digest_text_escape (base32 digest) (is_digest_text digest (base32 digest) is refl)

pub number_escape : (number : ℕ) → number < 2 ^ 64 → escape (decimal number) ≡ decimal number
number_escape number fits = plain_text (decimal number) (plain_digits (decimal number) (decimal_is_IsNumeral number fits).0.1)

pub name_escape : (volume : ℕ) → volume < 2 ^ 32 → escape (file_name volume) ≡ file_name volume
name_escape volume fits = plain_text (file_name volume) (plain_name volume fits)
