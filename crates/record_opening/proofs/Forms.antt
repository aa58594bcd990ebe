-- Values of a form, of which fewer bytes have come.
use Rattle.std.proofs.Common.{◌≡◌, ◌⊎◌, ℕ, ◌+◌, ◌<◌, ◌≤◌, inl, inr, Bool, true, false, List, ◌++◌, length, get_or, if◌then◌else◌, refl, sym, ap, subst, ◌∙◌, arith}
use Rattle.std.specs.Prelude.{IsTrue}
use Rattle.std.proofs.Math.ListN.{get_or-append}
use Rattle.std.proofs.lemmas.Bool.Decides.{nat_tests}
use Rattle.uuid.specs.Text.{by_index, digit_place, hex_digit, is_hyphen_place, lower, nibble}
use Rattle.uuid.proofs.TextLemmas.{by_index_at, nibble_small}
use Rattle.digest32.specs.Base32.{IsDigestText}
use Rattle.digest32.proofs.Alphabet.{alphabet_ranges}
use Rattle.warc_text.specs.Ids.{uuid_text}
use Rattle.record_opening.specs.Stops.{IsFormStop, NoValueStands}
use Rattle.record_opening.specs.Forms.{IsPartOfForm, digest_form, fits, uuid_form}
use Rattle.record_opening.specs.declared.stop.Stop.{Stop}
use Rattle.record_opening.specs.declared.stop.Stop.TheVariants.{Open, Until, Wrong, Memory}
use Rattle.record_opening.proofs.Refusals.{wrong_is_not_open}

-- at its first places a text has the bytes of one with which it begins
pub front_byte : (bytes after text other : List ℕ) (k : ℕ) → k < length bytes → k < length text → bytes ++ after ≡ text ++ other
    → get_or text k 0 ≡ get_or bytes k 0
front_byte bytes after text other k here there e =
    sym (get_or-append text other 0 k there) ∙ sym (ap (λ (l : List ℕ). get_or l k 0) e) ∙ get_or-append bytes after 0 k here

-- the bytes of a text fit a form, all but its last one
abbrev pub AllFit : List ℕ → List ℕ → Type 0
AllFit form text = (k : ℕ) → k + 1 < length text → IsTrue (fits (get_or form k 0) (get_or text k 0))

module _ {V : Type 0} (Is : V → Type 0) (text : V → List ℕ) (form bytes : List ℕ) (each : (v : V) → Is v → AllFit form (text v)) where
  -- each value that may stand goes on behind the bytes
  abbrev pub AllGoOn : Type 0
  AllGoOn = (v : V) (after other : List ℕ) → Is v → bytes ++ after ≡ text v ++ other → length bytes < length (text v)

  is_part : (v : V) → Is v → (after other : List ℕ) → length bytes < length form → length bytes < length (text v) → bytes ++ after ≡ text v ++ other → IsPartOfForm form bytes
  is_part v is after other short more e = record {
    short = short;
    each = λ k lt. subst (λ b. IsTrue (fits (get_or form k 0) b)) (front_byte bytes after (text v) other k lt (omega arith) e) (each v is k (omega arith));
  }

  -- so none of them stands
  pub form_stop : (stop : Stop) (v : V) → Is v → 0 < length (text v) → length bytes < length form → AllGoOn → IsFormStop form bytes stop
      → NoValueStands Is text (IsPartOfForm form) stop bytes
  form_stop Open v is some short more part = record {
    refuses = λ w was after other e. more w after other was e;
    line = tt;
    ends = λ is_open. (v, is, inr (part, some));
  }
  form_stop (Until n) v is some short more none = absurd none
  form_stop Wrong v is some short more none = record {
    refuses = λ w was after other e. none (is_part w was after other short (more w after other was e) e);
    line = tt;
    ends = λ is_open. absurd (wrong_is_not_open Wrong Open refl refl is_open);
  }
  form_stop Memory v is some short more none = absurd none

-- ---- a UUID

hex_fits : (d : ℕ) → d < 16 → fits 102 (hex_digit lower d) ≡ true
hex_fits d small = grind (arith, nat_tests)

digit_or_hyphen : (hyphen : Bool) (d : ℕ) → d < 16 → IsTrue (fits (if hyphen then 45 else 102) (if hyphen then 45 else hex_digit lower d))
digit_or_hyphen true d small = refl
digit_or_hyphen false d small = hex_fits d small

form_at : (k : ℕ) → k < 36 → get_or uuid_form k 0 ≡ (if is_hyphen_place k then 45 else 102)
unfolding by_index
form_at k small = by_index_at 36 (λ j. if is_hyphen_place j then 45 else 102) k 0 small

text_at : (id : List ℕ) (k : ℕ) → k < 36 → get_or (uuid_text id) k 0 ≡ (if is_hyphen_place k then 45 else hex_digit lower (nibble id (digit_place k)))
unfolding uuid_text
text_at id k small = by_index_at 36 (λ j. if is_hyphen_place j then 45 else hex_digit lower (nibble id (digit_place j))) k 0 small

pub uuid_fits : (id : List ℕ) (k : ℕ) → k < 36 → IsTrue (fits (get_or uuid_form k 0) (get_or (uuid_text id) k 0))
uuid_fits id k small =
    rw (form_at k small, text_at id k small) (digit_or_hyphen (is_hyphen_place k) (nibble id (digit_place k)) (nibble_small id (digit_place k)))

-- ---- a digest

digest_form_at : (k : ℕ) → k < 32 → get_or digest_form k 0 ≡ 55
unfolding by_index
digest_form_at k small = by_index_at 32 (λ j. 55) k 0 small

base32_fits : (byte : ℕ) → ((65 ≤ byte) × (byte ≤ 90)) ⊎ ((50 ≤ byte) × (byte ≤ 55)) → fits 55 byte ≡ true
base32_fits byte (inl letter) = let low = letter.0 in let high = letter.1 in grind (arith, nat_tests)
base32_fits byte (inr digit) = let low = digit.0 in let high = digit.1 in grind (arith, nat_tests)

pub digest_fits : (text : List ℕ) → IsDigestText text → (k : ℕ) → k < 32 → IsTrue (fits (get_or digest_form k 0) (get_or text k 0))
digest_fits text is k small = rw (digest_form_at k small) (base32_fits (get_or text k 0) (alphabet_ranges (get_or text k 0) (is.in_alphabet k 0 (omega (arith, small, is.length_is)))))
