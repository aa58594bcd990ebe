-- How long the text of an entry is.
use Rattle.std.proofs.Common.{◌≡◌, ℕ, suc, ◌+◌, ◌-◌, ◌^◌, ◌<◌, Bool, true, false, List, [], ◌∷◌, ◌++◌, length, length-append, codes, refl, sym, ap, ◌∙◌, subst, inl, inr, arith}
use Rattle.std.specs.Prelude.{All, min, if◌then◌else◌}
use Rattle.std.proofs.lemmas.Bool.{cases_Bool, cases_eq, cond-true, cond-false}
use Rattle.index_entry.specs.Facts.{Facts}
use Rattle.index_entry.specs.OfLine.{line_at}
use Rattle.cdxj_line.specs.Lengths.{capped}
use Rattle.cdxj_line.specs.Lines.{line_text, object_text}
use Rattle.cdxj_line.specs.steps.Written.{first_members, further_member, last_members, member_text, number_members}
use Rattle.cdxj_line.specs.declared.line.Line.{Line}
use Rattle.cdxj_line.proofs.Objects.{object_pieces}
use Rattle.json.specs.Print.{escape, escape_byte, quoted}
use Rattle.json.proofs.Printed.Strings.{escape_byte_plain}
use Rattle.surt_key.specs.Spaces.{HoldsNoSpace}
use Rattle.time_text.specs.Bytes.{IsDigit}
use Rattle.time_text.specs.Texts.{time_digits}
use Rattle.cdx_query.specs.Answers.{item_text}
use Rattle.cdx_query.specs.Passing.{is_mark, marks}

-- the bytes that stand for one
marked : (b : ℕ) → is_mark b ≡ true → length (escape_byte b) ≡ 2
unfolding escape_byte
marked b e =
    elim (cases_eq b 34) [
      | inl quote ↦ ap (λ x. length (escape_byte x)) quote
      | inr other ↦ elim (cases_eq b 92) [
        | inl slash ↦ ap (λ x. length (escape_byte x)) slash
        | inr another ↦ absurd (grind (arith, e, other, another))
      ]
    ]

unmarked : (b : ℕ) → 32 < b → is_mark b ≡ false → escape_byte b ≡ b ∷ []
unmarked b visible e =
    escape_byte_plain b (λ same. grind (arith, e, same)) (λ same. grind (arith, e, same)) (omega (arith, visible))

byte_length : (b : ℕ) → 32 < b → length (escape_byte b) ≡ (if is_mark b then 1 else 0) + 1
byte_length b visible =
    elim (cases_Bool (is_mark b)) [
      | inl mark ↦ marked b mark ∙ sym (ap (λ n. n + 1) (cond-true (is_mark b) 1 0 mark))
      | inr plain ↦ ap length (unmarked b visible plain) ∙ sym (ap (λ n. n + 1) (cond-false (is_mark b) 1 0 plain))
    ]

escaped_length : (text : List ℕ) → All (λ b. 32 < b) text → length (escape text) ≡ length text + marks text
escaped_length [] h = refl
escaped_length (b ∷ text) h =
    let here : 32 < b = h 0 b (omega arith) in
    let rest = escaped_length text (λ k d below. h (suc k) d (omega (arith, below))) in
    let both = length-append (escape_byte b) (escape text) in
    omega (arith, both, rest, byte_length b here)

from_zero : (n : ℕ) → 0 + n ≡ n
from_zero n = omega arith

no_marks : (text : List ℕ) → All IsDigit text → marks text ≡ 0
no_marks [] h = refl
no_marks (b ∷ text) h =
    let here : IsDigit b = h 0 b (omega arith) in
    let rest = no_marks text (λ k d below. h (suc k) d (omega (arith, below))) in
    elim (cases_Bool (is_mark b)) [
      | inl mark ↦ absurd (grind (arith, mark, here))
      | inr plain ↦ ap (λ n. n + marks text) (cond-false (is_mark b) 1 0 plain) ∙ from_zero (marks text) ∙ rest
    ]

digits_length : (text : List ℕ) → All IsDigit text → length (escape text) ≡ length text
digits_length text h =
    let whole = escaped_length text (λ k d below. let digit = h k d below in omega (arith, digit.0)) in
    omega (arith, whole, no_marks text h)

-- ---- a line, and an object with two more members

sum4 : (a b c d : List ℕ) → length (a ++ b ++ c ++ d) ≡ length a + length b + length c + length d
sum4 a b c d = omega (arith, length-append (a ++ b ++ c) d, length-append (a ++ b) c, length-append a b)

member_length : (n : ℕ) (front value : List ℕ) → length front ≡ n → length (member_text front value) ≡ n + (length (escape value) + 2)
unfolding member_text
member_length n front value e =
    let end : length (escape value ++ 34 ∷ []) ≡ length (escape value) + 1 = length-append (escape value) (34 ∷ []) in
    let both : length (front ++ quoted value) ≡ length front + length (quoted value) = length-append front (quoted value) in
    omega (arith, both, end, e)

last_plain : (line : Line) → length (last_members false line) ≡ 10 + length (escape line.url)
unfolding last_members further_member
last_plain line =
    omega (arith, sum4 [] (member_text (codes ",\"url\":") line.url) [] (codes "}"), member_length 7 (codes ",\"url\":") line.url refl)

last_further : (line : Line) → length (last_members true line) ≡ 37 + length (escape (time_digits line.date)) + length (escape line.url) + length (escape line.key)
unfolding last_members further_member
last_further line =
    omega (
      arith,
      sum4 (member_text (codes ",\"timestamp\":") (time_digits line.date)) (member_text (codes ",\"url\":") line.url) (member_text (codes ",\"urlkey\":") line.key) (codes "}"),
      member_length 13 (codes ",\"timestamp\":") (time_digits line.date) refl,
      member_length 7 (codes ",\"url\":") line.url refl,
      member_length 10 (codes ",\"urlkey\":") line.key refl,
    )

object_length : (further : Bool) (line : Line) → length (object_text further line) ≡ length (first_members line) + (length (number_members line) + length (last_members further line))
object_length further line =
    ap length (sym (object_pieces further line)) ∙ length-append (first_members line) (number_members line ++ last_members further line)
    ∙ ap (λ n. length (first_members line) + n) (length-append (number_members line) (last_members further line))

line_length : (line : Line) → length (line_text line) ≡ length line.key + length (time_digits line.date) + length (object_text false line) + 3
unfolding line_text
line_length line =
    let date = time_digits line.date in
    let object = object_text false line in
    omega (
      arith,
      length-append (line.key ++ codes " " ++ date ++ codes " " ++ object) (codes "\n"),
      length-append (line.key ++ codes " " ++ date ++ codes " ") object,
      length-append (line.key ++ codes " " ++ date) (codes " "),
      length-append (line.key ++ codes " ") date,
      length-append line.key (codes " "),
    )

further_length : (line : Line) → All IsDigit (time_digits line.date) → HoldsNoSpace line.key → length (object_text true line ++ codes "\n") ≡ length (line_text line) + (25 + marks line.key)
further_length line digits key =
    let both : length (object_text true line ++ codes "\n") ≡ length (object_text true line) + 1 = length-append (object_text true line) (codes "\n") in
    omega (
      arith,
      both,
      object_length true line,
      object_length false line,
      line_length line,
      last_plain line,
      last_further line,
      digits_length (time_digits line.date) digits,
      escaped_length line.key key,
    )

pub plain_item : (json : Bool) (entry : Facts) (line : Line) (len : ℕ) → json ≡ false → line ≡ line_at entry (codes "GET") → len ≡ capped (length (line_text line)) → len ≡ capped (length (item_text json entry))
unfolding item_text
plain_item json entry line len plain is e =
    e ∙ ap (λ (l : Line). capped (length (line_text l))) is ∙ sym (ap (λ (j : Bool). capped (length (item_text j entry))) plain)

pub json_item : (json : Bool) (entry : Facts) (line : Line) (len extra sum count : ℕ) (key : List ℕ) → json ≡ true → line ≡ line_at entry (codes "GET")
    → len ≡ capped (length (line_text line)) → count ≡ marks key → key ≡ entry.key → extra ≡ min (25 + count) (2 ^ 64 - 1) → sum ≡ min (len + extra) (2 ^ 64 - 1)
    → All IsDigit (time_digits line.date) → HoldsNoSpace key → sum ≡ capped (length (item_text json entry))
unfolding item_text
json_item json entry line len extra sum count key is_json is len_is count_is key_is extra_is sum_is digits no_space =
    let same : key ≡ line.key = key_is ∙ sym (ap (λ (l : Line). l.key) is) in
    let marks_are : count ≡ marks line.key = count_is ∙ ap marks same in
    let long = further_length line digits (subst HoldsNoSpace same no_space) in
    let told : sum ≡ capped (length (object_text true line ++ codes "\n")) = omega (arith, long, marks_are, len_is, extra_is, sum_is) in
    told ∙ ap (λ (l : Line). capped (length (object_text true l ++ codes "\n"))) is ∙ sym (ap (λ (j : Bool). capped (length (item_text j entry))) is_json)
