-- The decimal of a number of 64 bits, at the front of bytes.
use Rattle.std.proofs.Common.{◌≡◌, ◌⊎◌, ℕ, suc, true, false, eqb, ◌+◌, ◌/◌, ◌%◌, ◌^◌, ◌<◌, ◌≤◌, inl, inr, List, [], ◌∷◌, ◌++◌, length, length-append, drop, get_or, append_assoc, refl, sym, ap, ◌∙◌, arith}
use Rattle.std.specs.Prelude.{decimal, nat_eq}
use Rattle.std.specs.Cmp.Lexicographic.{pointwise}
use Rattle.std.proofs.lemmas.Bool.{eq-eqb, eqb-false, eqb-true}
use Rattle.std.proofs.lemmas.List.{nil_from_length}
use Rattle.std.proofs.lemmas.Fmt.{decimal_by_steps, decimal_digit, decimal_injective, decimal_step}
use Rattle.httparse.specs.Ascii.{crlf_bytes}
use Rattle.warc_text.specs.Groups.{IsOneLine}
use Rattle.warc_text.specs.Lines.{field}
use Rattle.warc_text.proofs.Fronts.{field_front}
use Rattle.record_opening.specs.Blocks.{IsWord}
use Rattle.record_opening.specs.steps.SplitLines.{IsSplitLine}
use Rattle.record_opening.specs.OpenValues.{IsPartOfNumber}
use Rattle.record_opening.specs.Stops.{Differs, NoValueStands}
use Rattle.record_opening.specs.declared.stop.Stop.{Stop}
use Rattle.record_opening.specs.declared.stop.Stop.TheVariants.{Open, Wrong}
use Rattle.record_opening.proofs.BlockTold.{number_is_one_line}
use Rattle.record_opening.proofs.LineValues.{ended_line, open_line, other_end, other_line}
use Rattle.record_opening.proofs.Refusals.{IsTold, wrong_is_not_open}

-- equal texts are found equal
pub equal_texts : (a b : List ℕ) → a ≡ b → pointwise eqb a b ≡ true
equal_texts [] [] e = refl
equal_texts [] (c ∷ b) e = absurd (cc)
equal_texts (c ∷ a) [] e = absurd (cc)
equal_texts (c ∷ a) (d ∷ b) e =
    let head : c ≡ d = cc in
    let tail : a ≡ b = cc in
    rw (eq-eqb c d head) (equal_texts a b tail)

-- a number's line
abbrev pub number_line : ℕ → List ℕ
number_line n = decimal n ++ crlf_bytes

-- ---- no line's end has come

pub no_bytes : (bytes : List ℕ) → nat_eq (length bytes) 0 ≡ true → bytes ≡ []
no_bytes bytes e = nil_from_length bytes (eqb-true (length bytes) 0 e)

pub some_bytes : (bytes : List ℕ) → nat_eq (length bytes) 0 ≡ false → 0 < length bytes
some_bytes bytes e = omega (arith, eqb-false (length bytes) 0 e)

nothing_of : (a b : List ℕ) → [] ≡ a ++ b → a ≡ []
nothing_of a b e = let len : 0 ≡ length (a ++ b) = ap length e in nil_from_length a (omega (arith, len, length-append a b))

one_byte : (x : ℕ) (a b : List ℕ) → x ∷ [] ≡ a ++ b → 0 < length a → a ≡ x ∷ []
one_byte x [] b e some = absurd (omega arith)
one_byte x (c ∷ a) b e some =
    let empty : a ≡ [] = nothing_of a b (ap (drop 1) e) in
    let first : x ≡ c = ap (λ (l : List ℕ). get_or l 0 0) e in
    cc

-- what begins a text and one byte more is all of that, or begins the text
front_of_more : (text a b : List ℕ) (x : ℕ) → text ++ x ∷ [] ≡ a ++ b → 0 < length a → (a ≡ text ++ x ∷ []) ⊎ ((behind : List ℕ) × (text ≡ a ++ behind))
front_of_more text [] b x e some = absurd (omega arith)
front_of_more [] (c ∷ a) b x e some = inl (one_byte x (c ∷ a) b e some)
front_of_more (d ∷ text) (c ∷ []) b x e some =
    let first : d ≡ c = ap (λ (l : List ℕ). get_or l 0 0) e in
    inr (text, cc)
front_of_more (d ∷ text) (c ∷ k ∷ a) b x e some =
    let first : d ≡ c = ap (λ (l : List ℕ). get_or l 0 0) e in
    elim (front_of_more text (k ∷ a) b x (ap (drop 1) e) (omega arith)) [
      | inl whole ↦ inl (cc)
      | inr front ↦ inr (front.0, let rest : text ≡ (k ∷ a) ++ front.0 = front.1 in cc)
    ]

-- each front of a number's digits is a number's
abbrev HasFronts : ℕ → List ℕ → Type 0
HasFronts n digits = n < 2 ^ 64 → (digits ≡ decimal n) × ((a b : List ℕ) → digits ≡ a ++ b → 0 < length a → (m : ℕ) × (m < 2 ^ 64) × (a ≡ decimal m))

one_digit : (n : ℕ) → n < 10 → HasFronts n ((48 + n) ∷ [])
one_digit n small fits =
    (sym (decimal_digit n small), λ a b e some. (n, fits, one_byte (48 + n) a b e some ∙ sym (decimal_digit n small)))

more_digits : (n : ℕ) (digits : List ℕ) → 10 ≤ n → HasFronts (n / 10) digits → HasFronts n (digits ++ ((48 + n % 10) ∷ []))
more_digits n digits large front fits =
    let here = front (omega arith) in
    let whole : digits ++ ((48 + n % 10) ∷ []) ≡ decimal n = ap (λ t. t ++ ((48 + n % 10) ∷ [])) here.0 ∙ sym (decimal_step n large fits) in (
      whole,
      λ a b e some. elim (front_of_more digits a b (48 + n % 10) e some) [
        | inl all ↦ (n, fits, all ∙ whole)
        | inr part ↦ here.1 a part.0 part.1 some
      ],
    )

pub digits_front : (n : ℕ) (a b : List ℕ) → n < 2 ^ 64 → decimal n ≡ a ++ b → 0 < length a → (m : ℕ) × (m < 2 ^ 64) × (a ≡ decimal m)
digits_front n a b small e some = (decimal_by_steps HasFronts one_digit more_digits n small small).1 a b e some

-- what came is nothing, or a number
pub open_number : (bytes : List ℕ) → IsPartOfNumber bytes → IsOneLine bytes → NoValueStands IsWord number_line IsPartOfNumber Open bytes
open_number bytes part one = open_line IsWord decimal IsPartOfNumber number_is_one_line bytes 0 (omega arith) one part

-- bytes without a line's end are the front of the line with which they go on
front_of_line : (bytes line after other : List ℕ) → IsOneLine bytes → bytes ++ after ≡ line ++ (13 ∷ other) → (behind : List ℕ) × (line ≡ bytes ++ behind)
front_of_line [] line after other one e = (line, refl)
front_of_line (b ∷ bytes) [] after other one e = absurd (one 0 0 (omega arith) (ap (λ (l : List ℕ). get_or l 0 0) e))
front_of_line (b ∷ bytes) (c ∷ line) after other one e =
    let rest = front_of_line bytes line after other (λ k d lt. one (suc k) d (omega arith)) (ap (drop 1) e) in
    let first : b ≡ c = ap (λ (l : List ℕ). get_or l 0 0) e in
    (rest.0, let same : line ≡ bytes ++ rest.0 = rest.1 in cc)

-- something came, and it is none
pub no_digits : (bytes : List ℕ) → 0 < length bytes → IsOneLine bytes → ((n : ℕ) → IsWord n → ¬ (bytes ≡ decimal n)) → NoValueStands IsWord number_line IsPartOfNumber Wrong bytes
no_digits bytes some one other = record {
  refuses = λ n small after rest e.
      let front = front_of_line bytes (decimal n) after (10 ∷ rest) one (e ∙ ended_line (decimal n) rest) in
      let number = digits_front n bytes front.0 small front.1 some in
      other number.0 number.1 number.2;
  line = tt;
  ends = λ is. absurd (wrong_is_not_open Wrong Open refl refl is);
}

-- a line that is no number's
pub no_number : (bytes line behind : List ℕ) → IsSplitLine bytes line behind → ((n : ℕ) → IsWord n → ¬ (line ≡ decimal n)) → NoValueStands IsWord number_line IsPartOfNumber Wrong bytes
no_number bytes line behind split other = other_line IsWord decimal IsPartOfNumber number_is_one_line bytes line behind split other

-- a number with another line's end
pub number_ends : (stop : Stop) (bytes line behind : List ℕ) (n : ℕ) → IsWord n → line ≡ decimal n → IsSplitLine bytes line behind → Differs stop behind crlf_bytes
    → NoValueStands IsWord number_line IsPartOfNumber stop bytes
number_ends stop bytes line behind n small e split d = other_end IsWord decimal IsPartOfNumber number_is_one_line bytes stop line behind n small e split d

-- a number that stands
pub number_stands : (bytes line behind rest : List ℕ) (n : ℕ) → line ≡ decimal n → IsSplitLine bytes line behind → behind ≡ crlf_bytes ++ rest
    → bytes ≡ number_line n ++ rest
number_stands bytes line behind rest n e split ends =
    split.composed ∙ ap (λ t. t ++ behind) e ∙ ap (λ t. decimal n ++ t) ends ∙ sym (append_assoc (decimal n) crlf_bytes rest)

-- a number is told by its line: behind a colon it is a field's value
pub number_told : (n : ℕ) → n < 2 ^ 64 → IsTold IsWord number_line n
unfolding field
number_told n small m x y small₂ e =
    let fields : field [] (decimal n) ++ x ≡ field [] (decimal m) ++ y = ap (λ t. 58 ∷ 32 ∷ t) e in
    let parts = field_front [] (decimal n) (decimal m) x y (number_is_one_line n small) (number_is_one_line m small₂) fields in
    (decimal_injective n m small small₂ parts.0, parts.1)
