-- The lengths of texts of lines.
use Rattle.std.proofs.Common.{◌≡◌, ℕ, ◌+◌, ◌-◌, ◌^◌, ◌<◌, false, List, [], ◌∷◌, ◌++◌, length, length-append, codes, refl, sym, ap, ◌∙◌, arith}
use Rattle.std.specs.Prelude.{max, min, replicate}
use Rattle.std.specs.Fmt.{decimal}
use Rattle.std.proofs.lemmas.List.{length-replicate}
use Rattle.digest32.specs.Base32.{base32}
use Rattle.json.specs.Print.{escape, quoted}
use Rattle.time_text.specs.Texts.{time_digits}
use Rattle.cdxj_line.specs.Lengths.{capped}
use Rattle.cdxj_line.specs.Lines.{six_digits, file_name, line_text, object_text}
use Rattle.cdxj_line.specs.steps.Written.{first_members, further_member, last_members, member_text, number_members}
use Rattle.cdxj_line.specs.declared.line.Line.{Line}
use Rattle.cdxj_line.proofs.Escapes.{plain_text}
use Rattle.cdxj_line.proofs.FileNames.{plain_name}
use Rattle.cdxj_line.proofs.Objects.{object_pieces}

-- ---- sums that stop at the greatest number

pub more : (n a x sum : ℕ) → a ≡ capped n → sum ≡ min (a + x) (2 ^ 64 - 1) → sum ≡ capped (n + x)
more n a x sum e f = omega (arith, e, f)

-- ---- what a value takes

pub quoted_length : (n : ℕ) (text : List ℕ) (escaped : ℕ) → escaped ≡ capped ((n + 2) + length (escape text)) → escaped ≡ capped (n + length (quoted text))
quoted_length n text escaped e =
    let both : length (escape text ++ 34 ∷ []) ≡ length (escape text) + 1 = length-append (escape text) (34 ∷ []) in
    e ∙ ap capped (omega (arith, both))

six_length : (number : ℕ) → length (six_digits number) ≡ max 6 (length (decimal number))
six_length number =
    let zero : ℕ = 48 in
    let zeros : length (replicate (6 - length (decimal number)) zero) ≡ 6 - length (decimal number) = length-replicate (6 - length (decimal number)) zero in
    omega (arith, length-append (replicate (6 - length (decimal number)) zero) (decimal number), zeros)

pub name_length : (volume : ℕ) → volume < 2 ^ 32 → length (quoted (file_name volume)) ≡ 11 + max 6 (length (decimal volume))
name_length volume fits =
    let plain : length (escape (file_name volume) ++ 34 ∷ []) ≡ length (file_name volume) + 1 =
    length-append (escape (file_name volume)) (34 ∷ []) ∙ ap (λ (t : List ℕ). length t + 1) (plain_text (file_name volume) (plain_name volume fits)) in
    let name : length (file_name volume) ≡ 4 + length (six_digits volume) + 5 =
    length-append (codes "vol-" ++ six_digits volume) (codes ".warc") ∙ ap (λ n. n + 5) (length-append (codes "vol-") (six_digits volume)) in
    omega (arith, plain, name, six_length volume)

-- ---- a whole line

sum3 : (a b c : List ℕ) → length (a ++ b ++ c) ≡ length a + length b + length c
sum3 a b c = omega (arith, length-append (a ++ b) c, length-append a b)

sum4 : (a b c d : List ℕ) → length (a ++ b ++ c ++ d) ≡ length a + length b + length c + length d
sum4 a b c d = omega (arith, length-append (a ++ b ++ c) d, sum3 a b c)

sum5 : (a b c d e : List ℕ) → length (a ++ b ++ c ++ d ++ e) ≡ length a + length b + length c + length d + length e
sum5 a b c d e = omega (arith, length-append (a ++ b ++ c ++ d) e, sum4 a b c d)

sum6 : (a b c d e f : List ℕ) → length (a ++ b ++ c ++ d ++ e ++ f) ≡ length a + length b + length c + length d + length e + length f
sum6 a b c d e f = omega (arith, length-append (a ++ b ++ c ++ d ++ e) f, sum5 a b c d e)

member_length : (n : ℕ) (front value : List ℕ) → length front ≡ n → length (member_text front value) ≡ n + length (quoted value)
unfolding member_text
member_length n front value e = length-append front (quoted value) ∙ ap (λ k. k + length (quoted value)) e

first_length : (line : Line) → length (first_members line)
    ≡ 50 + (length (quoted (base32 line.digest)) + length (quoted (file_name line.volume)) + length (quoted (decimal line.length)) + length (quoted line.method) + length (quoted line.mime))
unfolding first_members
first_length line =
    omega (
      arith,
      sum5 (member_text (codes "{\"digest\":") (base32 line.digest)) (member_text (codes ",\"filename\":") (file_name line.volume)) (member_text (codes ",\"length\":") (decimal line.length)) (member_text (codes ",\"method\":") line.method) (member_text (codes ",\"mime\":") line.mime),
      member_length 10 (codes "{\"digest\":") (base32 line.digest) refl,
      member_length 12 (codes ",\"filename\":") (file_name line.volume) refl,
      member_length 10 (codes ",\"length\":") (decimal line.length) refl,
      member_length 10 (codes ",\"method\":") line.method refl,
      member_length 8 (codes ",\"mime\":") line.mime refl,
    )

number_length : (line : Line) → length (number_members line) ≡ 30 + (length (quoted (decimal line.number)) + length (quoted (decimal line.offset)) + length (quoted (decimal line.status)))
unfolding number_members
number_length line =
    omega (
      arith,
      sum3 (member_text (codes ",\"number\":") (decimal line.number)) (member_text (codes ",\"offset\":") (decimal line.offset)) (member_text (codes ",\"status\":") (decimal line.status)),
      member_length 10 (codes ",\"number\":") (decimal line.number) refl,
      member_length 10 (codes ",\"offset\":") (decimal line.offset) refl,
      member_length 10 (codes ",\"status\":") (decimal line.status) refl,
    )

last_length : (line : Line) → length (last_members false line) ≡ 8 + length (quoted line.url)
unfolding last_members further_member
last_length line = omega (arith, sum4 [] (member_text (codes ",\"url\":") line.url) [] (codes "}"), member_length 7 (codes ",\"url\":") line.url refl)

object_length : (line : Line) → length (object_text false line)
    ≡ 88 + (length (quoted (base32 line.digest)) + length (quoted (file_name line.volume)) + length (quoted (decimal line.length)) + length (quoted line.method) + length (quoted line.mime)
    + length (quoted (decimal line.number)) + length (quoted (decimal line.offset)) + length (quoted (decimal line.status)) + length (quoted line.url))
object_length line =
    let whole : length (object_text false line) ≡ length (first_members line) + (length (number_members line) + length (last_members false line)) =
    ap length (sym (object_pieces false line)) ∙ length-append (first_members line) (number_members line ++ last_members false line)
    ∙ ap (λ n. length (first_members line) + n) (length-append (number_members line) (last_members false line)) in
    omega (arith, whole, first_length line, number_length line, last_length line)

pub line_length : (line : Line) → length (line_text line)
    ≡ 91 + length line.key + length (time_digits line.date) + length (quoted (base32 line.digest)) + length (quoted (file_name line.volume)) + length (quoted (decimal line.length)) + length (quoted line.method)
    + length (quoted line.mime) + length (quoted (decimal line.number)) + length (quoted (decimal line.offset)) + length (quoted (decimal line.status)) + length (quoted line.url)
unfolding line_text
line_length line =
    omega (arith, sum6 line.key (codes " ") (time_digits line.date) (codes " ") (object_text false line) (codes "\n"), object_length line)

-- the sum, by what each call told
abbrev total : Line → ℕ → List ℕ → ℕ → ℕ → ℕ
total line date digest number status =
    91 + length line.key + date + length (quoted digest) + length (quoted (file_name line.volume)) + length (quoted (decimal line.length)) + length (quoted line.method)
    + length (quoted line.mime) + length (quoted (decimal number)) + length (quoted (decimal line.offset)) + length (quoted (decimal status)) + length (quoted line.url)

pub line_total : (line : Line) (len date number status : ℕ) (digest : List ℕ) → date ≡ length (time_digits line.date) → digest ≡ base32 line.digest → number ≡ line.number → status ≡ line.status
    → len ≡ capped (total line date digest number status) → len ≡ capped (length (line_text line))
line_total line len date number status digest date_is digest_is number_is status_is e =
    let sum : total line date digest number status ≡ length (line_text line) =
    ap (λ d. total line d digest number status) date_is ∙ ap (λ t. total line (length (time_digits line.date)) t number status) digest_is
    ∙ ap (λ n. total line (length (time_digits line.date)) (base32 line.digest) n status) number_is
    ∙ ap (λ s. total line (length (time_digits line.date)) (base32 line.digest) line.number s) status_is ∙ sym (line_length line) in
    e ∙ ap capped sum
