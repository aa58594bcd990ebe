-- Where a JSON string ends, and what it tells.
use Rattle.std.proofs.Common.{◌≡◌, ◌≢◌, ℕ, suc, ◌/◌, ◌%◌, ◌+◌, ◌<◌, ◌≤◌, true, false, ◌⊎◌, inl, inr, List, [], ◌∷◌, ◌++◌, Some, length, length-append, take, drop, cond, refl, ap, ◌∙◌, sym, arith}
use Rattle.std.specs.Char.{digit_char}
use Rattle.std.specs.List.{list_all, prefix_len}
use Rattle.std.proofs.lemmas.Bool.{cases_lt, lt-ltb, le-ltb, ne_eqb}
use Rattle.std.proofs.lemmas.Bool.Decides.{eqb_tells}
use Rattle.std.proofs.lemmas.List.{append_assoc, take_at, drop_at}
use Rattle.json.specs.Print.{escape, escape_byte, escape_letter}
use Rattle.json.specs.Text.{content, plain}
use Rattle.json.proofs.Printed.Strings.{content-escape}
use Rattle.cdxj_line.specs.steps.Strings.{is_unmarked, string_len}
use Rattle.cdxj_line.specs.steps.Written.{is_plain}
use Rattle.cdxj_line.proofs.Escapes.{short_escape, long_escape, no_escape, plain_text}

-- ---- strings are told by what stands between their quotes

pub escape_injective : (a b : List ℕ) → escape a ≡ escape b → a ≡ b
escape_injective a b e =
    let both : Some a ≡ Some b = sym (content-escape a []) ∙ ap (λ (t : List ℕ). content plain (t ++ 34 ∷ [])) e ∙ content-escape b [] in
    cc

-- ---- and end at their closing quote

other_byte : (b : ℕ) (bs : List ℕ) → b ≢ 34 → b ≢ 92 → string_len false (b ∷ bs) ≡ suc (string_len false bs)
other_byte b bs q s = rw (ne_eqb b 34 q, ne_eqb b 92 s) refl

hex_is_other : (d : ℕ) → (digit_char d ≢ 34) × (digit_char d ≢ 92)
hex_is_other d = go (cases_lt d 10) where
  go : (d < 10) ⊎ (10 ≤ d) → (digit_char d ≢ 34) × (digit_char d ≢ 92)
  go (inl low) = rw (lt-ltb d 10 low) (λ e. omega (arith, e), λ e. omega (arith, low, e))
  go (inr high) = rw (le-ltb d 10 high) (λ e. omega (arith, high, e), λ e. omega (arith, high, e))

one_len : (b : ℕ) (rest : List ℕ) → b ≢ 34 → b ≢ 92 → string_len false (b ∷ rest) ≡ 1 + string_len false rest
one_len b rest q s = omega (arith, other_byte b rest q s)

short_len : (letter : ℕ) (rest : List ℕ) → string_len false (92 ∷ letter ∷ rest) ≡ 2 + string_len false rest
short_len letter rest =
    let escaped : string_len false (92 ∷ letter ∷ rest) ≡ suc (suc (string_len false rest)) = refl in
    omega (arith, escaped)

long_len : (a b : ℕ) (rest : List ℕ) → a ≢ 34 → a ≢ 92 → b ≢ 34 → b ≢ 92 → string_len false (92 ∷ 117 ∷ 48 ∷ 48 ∷ a ∷ b ∷ rest) ≡ 6 + string_len false rest
long_len a b rest a1 a2 b1 b2 =
    let front : string_len false (92 ∷ 117 ∷ 48 ∷ 48 ∷ a ∷ b ∷ rest) ≡ suc (suc (suc (suc (string_len false (a ∷ b ∷ rest))))) = refl in
    omega (arith, front, one_len a (b ∷ rest) a1 a2, one_len b rest b1 b2)

marks_have_letters : (x : ℕ) → escape_letter x ≤ 0 → (x ≢ 34) × (x ≢ 92)
marks_have_letters x none = (λ e. grind (arith, none, e), λ e. grind (arith, none, e))

byte_len : (x : ℕ) (rest : List ℕ) → string_len false (escape_byte x ++ rest) ≡ length (escape_byte x) + string_len false rest
byte_len x rest = go (cases_lt 0 (escape_letter x)) (cases_lt x 32) where
  go : (0 < escape_letter x) ⊎ (escape_letter x ≤ 0) → (x < 32) ⊎ (32 ≤ x) → string_len false (escape_byte x ++ rest) ≡ length (escape_byte x) + string_len false rest
  go (inl some) c = rw (short_escape x (escape_letter x) refl some) (short_len (escape_letter x) rest)
  go (inr none) (inl control) =
      rw (long_escape x (escape_letter x) refl none control)
      (long_len (digit_char (x / 16)) (digit_char (x % 16)) rest (hex_is_other (x / 16)).0 (hex_is_other (x / 16)).1 (hex_is_other (x % 16)).0 (hex_is_other (x % 16)).1)
  go (inr none) (inr visible) =
      let marks = marks_have_letters x none in
      rw (no_escape x (escape_letter x) refl none visible) (one_len x rest marks.0 marks.1)

pub escape_len : (text rest : List ℕ) → string_len false (escape text ++ 34 ∷ rest) ≡ length (escape text)
escape_len [] rest = refl
escape_len (x ∷ text) rest =
    ap (string_len false) (append_assoc (escape_byte x) (escape text) (34 ∷ rest)) ∙ byte_len x (escape text ++ 34 ∷ rest)
    ∙ ap (λ n. length (escape_byte x) + n) (escape_len text rest) ∙ sym (length-append (escape_byte x) (escape text))

-- so it is cut there
pub string_cut : (text value rest front back : List ℕ) (n : ℕ) → text ≡ escape value ++ 34 ∷ rest → n ≡ string_len false text → front ≡ take n text → back ≡ drop n text
    → (front ≡ escape value) × (back ≡ 34 ∷ rest)
string_cut text value rest front back n is len front_is back_is =
    let long : length (escape value) ≡ n = sym (len ∙ ap (string_len false) is ∙ escape_len value rest) in
    (front_is ∙ ap (take n) is ∙ take_at (escape value) (34 ∷ rest) n long, back_is ∙ ap (drop n) is ∙ drop_at (escape value) (34 ∷ rest) n long)

-- ---- what a string without an escape tells

pub plain_is_told : (raw text : List ℕ) → list_all is_plain raw ≡ true → raw ≡ escape text → raw ≡ text
plain_is_told raw text plain_raw is = escape_injective raw text (plain_text raw plain_raw ∙ is)

-- ---- what stands before the first quote or backslash

marked_front : (b n : ℕ) (text : List ℕ) → is_unmarked b ≡ false
    → cond (is_unmarked b) (1 + n) 0 + string_len false (drop (cond (is_unmarked b) (1 + n) 0) (b ∷ text)) ≡ string_len false (b ∷ text)
marked_front b n text is = rw is (omega arith)

unmarked_front : (b n : ℕ) (text : List ℕ) → b ≢ 34 → b ≢ 92 → is_unmarked b ≡ true → n + string_len false (drop n text) ≡ string_len false text
    → cond (is_unmarked b) (1 + n) 0 + string_len false (drop (cond (is_unmarked b) (1 + n) 0) (b ∷ text)) ≡ string_len false (b ∷ text)
unmarked_front b n text quote slash is behind =
    let more : 1 + n ≡ suc n = omega arith in
    rw (is, more) (omega (arith, other_byte b text quote slash, behind))

string_front : (text : List ℕ) → prefix_len is_unmarked text + string_len false (drop (prefix_len is_unmarked text) text) ≡ string_len false text
string_front [] = refl
string_front (b ∷ text) =
    elim (eqb_tells b 34) [
      | inl quote ↦ marked_front b (prefix_len is_unmarked text) text (rw quote.0 refl)
      | inr other ↦ elim (eqb_tells b 92) [
        | inl slash ↦ marked_front b (prefix_len is_unmarked text) text (rw (other.0, slash.0) refl)
        | inr plain_byte ↦ unmarked_front b (prefix_len is_unmarked text) text other.1 plain_byte.1 (rw (other.0, plain_byte.0) refl) (string_front text)
      ]
    ]

pub string_len_behind : (text rest : List ℕ) (front more : ℕ) → front ≡ prefix_len is_unmarked text → rest ≡ drop front text → more ≡ string_len false rest → front + more ≡ string_len false text
string_len_behind text rest front more front_is rest_is more_is =
    ap (λ n. front + n) (more_is ∙ ap (string_len false) rest_is) ∙ ap (λ n. n + string_len false (drop n text)) front_is ∙ string_front text
