-- A byte is told by its escape, so a text is told from left to right.
use Rattle.std.proofs.Common.{◌≡◌, ◌≢◌, ℕ, zero, suc, ◌<◌, ◌≤◌, ◌⊎◌, inl, inr, Bool, true, false, cond, ◌==◌, ◌↔◌, Option, None, Some, List, [], ◌∷◌, ◌++◌, length, length-append, refl, ap, ◌∙◌, sym, subst, arith, ◌/◌, ◌%◌}
use Rattle.std.specs.Prelude.{nat_lt, ⊤, IsAscii, IsSome, IfSome}
use Rattle.std.specs.Char.{digit_char}
use Rattle.std.proofs.lemmas.Bool.{cases_eq, cases_lt, eqb-true, false≢true, ne_eqb}
use Rattle.std.proofs.lemmas.List.{append-nil, append_assoc, append_cancel_left}
use Rattle.json.specs.Print.{escape, escape_byte, escape_letter}
use Rattle.json.proofs.Printed.Strings.{escape_byte_plain}
use Rattle.cdxj_line.specs.steps.Unescaped.{byte_told}

-- ---- one byte

abbrev IsTold : ℕ → Type 0
IsTold x = (rest : List ℕ) → byte_told (escape_byte x ++ rest) ≡ x

-- all numbers below n are told, counted down from the top
abbrev AreTold : ℕ → Type 0
AreTold zero = ⊤
AreTold (suc n) = IsTold n × AreTold n

told_below : (n : ℕ) → AreTold n → (x : ℕ) → x < n → IsTold x
told_below zero all x less = absurd (omega arith)
told_below (suc n) all x less = go (told_below n all.1 x) (cases_eq x n) where
  go : (x < n → IsTold x) → (x ≡ n) ⊎ (x ≡ n → ⊥) → IsTold x
  go below (inl same) = subst IsTold (sym same) all.0
  go below (inr other) = below (omega arith)

controls : AreTold 32
unfolding escape_byte
controls = ((λ r. refl), ((λ r. refl), ((λ r. refl), ((λ r. refl), ((λ r. refl), ((λ r. refl), ((λ r. refl), ((λ r. refl), ((λ r. refl), ((λ r. refl), ((λ r. refl), ((λ r. refl), ((λ r. refl), ((λ r. refl), ((λ r. refl), ((λ r. refl), ((λ r. refl), ((λ r. refl), ((λ r. refl), ((λ r. refl), ((λ r. refl), ((λ r. refl), ((λ r. refl), ((λ r. refl), ((λ r. refl), ((λ r. refl), ((λ r. refl), ((λ r. refl), ((λ r. refl), ((λ r. refl), ((λ r. refl), ((λ r. refl), tt))))))))))))))))))))))))))))))))

quote_told : IsTold 34
unfolding escape_byte
quote_told rest = refl

backslash_told : IsTold 92
unfolding escape_byte
backslash_told rest = refl

plain_told : (x : ℕ) → x ≢ 34 → x ≢ 92 → 32 ≤ x → IsTold x
plain_told x quote slash visible rest = ap (λ (t : List ℕ). byte_told (t ++ rest)) (escape_byte_plain x quote slash visible) ∙ rw (ne_eqb x 92 slash) refl

pub told_escape : (x : ℕ) → IsTold x
told_escape x = go (cases_eq x 34) (cases_eq x 92) (cases_lt x 32) where
  go : (x ≡ 34) ⊎ (x ≡ 34 → ⊥) → (x ≡ 92) ⊎ (x ≡ 92 → ⊥) → (x < 32) ⊎ (32 ≤ x) → IsTold x
  go (inl same) b c = subst IsTold (sym same) quote_told
  go (inr quote) (inl same) c = subst IsTold (sym same) backslash_told
  go (inr quote) (inr slash) (inl control) = told_below 32 controls x control
  go (inr quote) (inr slash) (inr visible) = plain_told x quote slash visible

escape_some : (x : ℕ) → 0 < length (escape_byte x)
unfolding escape_byte
escape_some x = go (nat_lt 0 (escape_letter x)) (nat_lt x 32) where
  go : (short long : Bool) → 0 < length (cond short (92 ∷ escape_letter x ∷ []) (cond long (92 ∷ 117 ∷ 48 ∷ 48 ∷ digit_char (x / 16) ∷ digit_char (x % 16) ∷ []) (x ∷ [])))
  go true long = omega arith
  go false true = omega arith
  go false false = omega arith

pub behind_shorter : (x : ℕ) (text rest : List ℕ) → text ≡ escape_byte x ++ rest → length rest < length text
behind_shorter x text rest is = omega (arith, ap length is, length-append (escape_byte x) rest, escape_some x)

-- ---- a whole text

escape_more : (text : List ℕ) (x : ℕ) → escape (text ++ x ∷ []) ≡ escape text ++ escape_byte x
escape_more [] x = append-nil (escape_byte x)
escape_more (t ∷ text) x = ap (λ rest. escape_byte t ++ rest) (escape_more text x) ∙ sym (append_assoc (escape_byte t) (escape text) (escape_byte x))

-- one byte more
pub told_more : (raw text longer rest behind : List ℕ) (x : ℕ) → raw ≡ escape text ++ rest → rest ≡ escape_byte x ++ behind → longer ≡ text ++ x ∷ [] → raw ≡ escape longer ++ behind
told_more raw text longer rest behind x is rest_is longer_is =
    is ∙ ap (λ r. escape text ++ r) rest_is ∙ sym (append_assoc (escape text) (escape_byte x) behind)
    ∙ ap (λ front. front ++ behind) (sym (escape_more text x) ∙ ap escape (sym longer_is))

-- where what is left begins with no escaped byte the whole is no escaped text
stuck : (text bytes rest : List ℕ) → escape bytes ≡ escape text ++ rest → 0 < length rest → ((behind : List ℕ) → rest ≡ escape_byte (byte_told rest) ++ behind → ⊥) → ⊥
stuck [] [] rest e some none = omega (arith, ap length e, some)
stuck [] (b ∷ bytes) rest e some none =
    let told : b ≡ byte_told rest = sym (told_escape b (escape bytes)) ∙ ap byte_told e in
    none (escape bytes) (sym e ∙ ap (λ x. escape_byte x ++ escape bytes) told)
stuck (t ∷ text) [] rest e some none = omega (arith, ap length e, length-append (escape_byte t ++ escape text) rest, some)
stuck (t ∷ text) (b ∷ bytes) rest e some none =
    let whole : escape_byte b ++ escape bytes ≡ escape_byte t ++ (escape text ++ rest) = e ∙ append_assoc (escape_byte t) (escape text) rest in
    let same : b ≡ t = sym (told_escape b (escape bytes)) ∙ ap byte_told whole ∙ told_escape t (escape text ++ rest) in
    let behind : escape bytes ≡ escape text ++ rest =
    append_cancel_left (escape_byte t) (escape bytes) (escape text ++ rest) (ap (λ x. escape_byte x ++ escape bytes) (sym same) ∙ whole) in
    stuck text bytes rest behind some none

pub no_escaped_text : (raw text bytes rest : List ℕ) (x : ℕ) → raw ≡ escape text ++ rest → raw ≡ escape bytes → 0 < length rest → x ≡ byte_told rest
    → ((behind : List ℕ) → rest ≡ escape_byte x ++ behind → ⊥) → ⊥
no_escaped_text raw text bytes rest x is told some told_is none =
    stuck text bytes rest (sym told ∙ is) some (λ behind e. none behind (e ∙ ap (λ b. escape_byte b ++ behind) (sym told_is)))

pub all_told : (raw text rest : List ℕ) → raw ≡ escape text ++ rest → length rest ≡ 0 → raw ≡ escape text
all_told raw text [] is none = is ∙ append-nil (escape text)
all_told raw text (r ∷ rest) is none = absurd (omega (arith, none))

pub some_if : (n : ℕ) (empty : Bool) → empty ≡ (n == 0) → empty ≡ false → 0 < n
some_if zero empty is told = cc
some_if (suc n) empty is told = omega arith

pub none_if : (n : ℕ) (empty : Bool) → empty ≡ (n == 0) → empty ≡ true → n ≡ 0
none_if n empty is told = eqb-true n 0 (sym is ∙ told)

-- ---- as a text of ASCII

pub told_text : (read : Option (List ℕ)) (raw items : List ℕ) → raw ≡ escape items → IfSome read (λ text. text ≡ items) → IfSome read (λ text. raw ≡ escape text)
told_text None raw items is read_is = tt
told_text (Some text) raw items is read_is = is ∙ ap escape (sym read_is)

pub text_found : (read : Option (List ℕ)) (items text : List ℕ) → IsSome read ↔ IsAscii items → IfSome read (λ told. told ≡ items) → items ≡ text → IsAscii text → read ≡ Some text
text_found None items text some read_is same ascii = absurd (false≢true (some.1 (subst IsAscii (sym same) ascii)))
text_found (Some told) items text some read_is same ascii = ap Some (read_is ∙ same)
