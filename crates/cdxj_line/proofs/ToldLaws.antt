-- What the texts of lines tell.
use Rattle.std.proofs.Common.{◌≡◌, ◌≢◌, ℕ, zero, suc, ◌/◌, ◌%◌, ◌+◌, ◌^◌, ◌<◌, ◌≤◌, Bool, true, false, not, ◌&&◌, ◌==◌, ◌⊎◌, inl, inr, List, [], ◌∷◌, ◌++◌, Some, cond, codes, drop, get_or, refl, ap, ◌∙◌, sym, subst, arith}
use Rattle.std.specs.Prelude.{All}
use Rattle.std.specs.Char.{digit_char}
use Rattle.std.specs.List.{list_all}
use Rattle.std.specs.Str.Parse.{digits_value}
use Rattle.std.proofs.lemmas.Bool.{and_parts, and_from, cases_eq, cases_lt, lt-ltb, le-ltb, ne_eqb}
use Rattle.std.proofs.lemmas.Fmt.{decimal_injective}
use Rattle.std.proofs.lemmas.List.{append_assoc, append_cancel_right}
use Rattle.std.proofs.lemmas.List.Elements.{All-weaker, All-append}
use Rattle.std.proofs.lemmas.List.Sums.{AllPass-from_list_all}
use Rattle.digest32.proofs.Texts.{digest_injective}
use Rattle.json.specs.Print.{escape, escape_byte, escape_letter, quoted}
use Rattle.serde_json.specs.Data.{Data, null, boolean, number, string, array, object, Members, no_members, member}
use Rattle.serde_json.specs.Read.{read}
use Rattle.serde_json.specs.Written.{comma_if, members_text}
use Rattle.time_text.specs.Bytes.{IsDigit}
use Rattle.time_text.specs.Texts.{time_digits}
use Rattle.time_text.proofs.DateLaws.{time_is_digits, time_digits_front}
use Rattle.surt_key.proofs.SpacelessKeys.{keys_hold_no_space}
use Rattle.cdxj_line.specs.Lines.{six_digits, file_name, strings, members_of, object_of, object_text, line_text, IsLine}
use Rattle.cdxj_line.specs.Told.{LinesAreToldByTheirTexts, LinesEndAtTheirLineFeed, LinesEndWhereTheyEnd}
use Rattle.cdxj_line.specs.declared.line.Line.{Line}
use Rattle.cdxj_line.proofs.Escapes.{short_escape, long_escape, no_escape}
use Rattle.cdxj_line.proofs.FileNames.{digits_value-six}
use Rattle.cdxj_line.proofs.Objects.{read-object_text}
use Rattle.cdxj_line.proofs.Whole.{key_has_no_blank}

-- ---- JSON escapes line feeds

abbrev is_free : ℕ → Bool
is_free b = not (b == 10)

free : (b : ℕ) → b ≢ 10 → is_free b ≡ true
free b other = rw (ne_eqb b 10 other) refl

rest_free : (b1 b2 b3 b4 b5 : Bool) → is_free (cond b1 98 (cond b2 102 (cond b3 110 (cond b4 114 (cond b5 116 0))))) ≡ true
rest_free true b2 b3 b4 b5 = refl
rest_free false true b3 b4 b5 = refl
rest_free false false true b4 b5 = refl
rest_free false false false true b5 = refl
rest_free false false false false true = refl
rest_free false false false false false = refl

letter_free : (x : ℕ) → is_free (escape_letter x) ≡ true
letter_free x = go (cases_eq x 34) (cases_eq x 92) where
  go : (x ≡ 34) ⊎ (x ≡ 34 → ⊥) → (x ≡ 92) ⊎ (x ≡ 92 → ⊥) → is_free (escape_letter x) ≡ true
  go (inl e) b = subst (λ (y : ℕ). is_free (escape_letter y) ≡ true) (sym e) refl
  go (inr q) (inl e) = subst (λ (y : ℕ). is_free (escape_letter y) ≡ true) (sym e) refl
  go (inr q) (inr b) = rw (ne_eqb x 34 q, ne_eqb x 92 b) (rest_free (x == 8) (x == 12) (x == 10) (x == 13) (x == 9))

digit_free : (d : ℕ) → is_free (digit_char d) ≡ true
digit_free d = go (cases_lt d 10) where
  go : (d < 10) ⊎ (10 ≤ d) → is_free (digit_char d) ≡ true
  go (inl low) = rw (lt-ltb d 10 low) (free (48 + d) (λ e. omega (arith, e)))
  go (inr high) = rw (le-ltb d 10 high) (free (87 + d) (λ e. omega (arith, e)))

free_byte : (x : ℕ) → list_all is_free (escape_byte x) ≡ true
free_byte x = go (cases_lt 0 (escape_letter x)) (cases_lt x 32) where
  go : (0 < escape_letter x) ⊎ (escape_letter x ≤ 0) → (x < 32) ⊎ (32 ≤ x) → list_all is_free (escape_byte x) ≡ true
  go (inl some) c = rw (short_escape x (escape_letter x) refl some) (and_from (is_free (escape_letter x)) true (letter_free x) refl)
  go (inr none) (inl control) =
      rw (long_escape x (escape_letter x) refl none control) (and_from (is_free (digit_char (x / 16))) (is_free (digit_char (x % 16)) && true) (digit_free (x / 16)) (and_from (is_free (digit_char (x % 16))) true (digit_free (x % 16)) refl))
  go (inr none) (inr visible) = rw (no_escape x (escape_letter x) refl none visible) (and_from (is_free x) true (free x (λ e. omega (arith, visible, e))) refl)

both_free : (xs ys : List ℕ) → list_all is_free xs ≡ true → list_all is_free ys ≡ true → list_all is_free (xs ++ ys) ≡ true
both_free [] ys p q = q
both_free (x ∷ xs) ys p q =
    let parts = and_parts (is_free x) (list_all is_free xs) p in
    and_from (is_free x) (list_all is_free (xs ++ ys)) parts.0 (both_free xs ys parts.1 q)

free_text : (text : List ℕ) → list_all is_free (escape text) ≡ true
free_text [] = refl
free_text (x ∷ text) = both_free (escape_byte x) (escape text) (free_byte x) (free_text text)

free_quoted : (text : List ℕ) → list_all is_free (quoted text) ≡ true
free_quoted text = both_free (escape text) (34 ∷ []) (free_text text) refl

free_comma : (later : Bool) → list_all is_free (comma_if later) ≡ true
free_comma true = refl
free_comma false = refl

free_members : (later : Bool) (pairs : List (List ℕ × List ℕ)) → list_all is_free (members_text later (strings pairs)) ≡ true
free_members later [] = refl
free_members later (pair ∷ pairs) =
    let rest = quoted pair.1 ++ members_text true (strings pairs) in
    both_free (comma_if later) (quoted pair.0 ++ 58 ∷ rest) (free_comma later)
    (both_free (quoted pair.0) (58 ∷ rest) (free_quoted pair.0) (both_free (quoted pair.1) (members_text true (strings pairs)) (free_quoted pair.1) (free_members true pairs)))

free_object : (further : Bool) (line : Line) → list_all is_free (object_text further line) ≡ true
unfolding object_text
free_object further line = free_members false (members_of further line)

-- ---- so a line has one, at its end

abbrev IsFree : ℕ → Type 0
IsFree b = b ≢ 10

told_free : (b : ℕ) → is_free b ≡ true → b ≢ 10
told_free b e same = grind (arith, e, same)

object_is_free : (line : Line) → All IsFree (object_text false line)
object_is_free line =
    All-weaker (λ b. is_free b ≡ true) IsFree told_free (object_text false line) (AllPass-from_list_all is_free (object_text false line) (free_object false line))

visible_free : (b : ℕ) → 32 < b → b ≢ 10
visible_free b visible e = omega (arith, visible, e)

digit_is_free : (b : ℕ) → IsDigit b → b ≢ 10
digit_is_free b digit e = omega (arith, digit.0, e)

key_is_free : (line : Line) → IsLine line → All IsFree line.key
key_is_free line is = All-weaker (λ b. 32 < b) IsFree visible_free line.key (keys_hold_no_space line.url line.key is.writable.key)

date_is_free : (line : Line) → IsLine line → All IsFree (time_digits line.date)
date_is_free line is = All-weaker IsDigit IsFree digit_is_free (time_digits line.date) (time_is_digits line.date is.writable.date)

blank_is_free : All IsFree (codes " ")
blank_is_free = All-weaker (λ b. is_free b ≡ true) IsFree told_free (codes " ") (AllPass-from_list_all is_free (codes " ") refl)

five_free : (a b c d e : List ℕ) → All IsFree a → All IsFree b → All IsFree c → All IsFree d → All IsFree e → All IsFree (a ++ (b ++ (c ++ (d ++ e))))
five_free a b c d e p q r s t =
    All-append IsFree a (b ++ (c ++ (d ++ e))) p (All-append IsFree b (c ++ (d ++ e)) q (All-append IsFree c (d ++ e) r (All-append IsFree d e s t)))

flat_line : (key blank date members end : List ℕ) → key ++ blank ++ date ++ blank ++ members ++ end ≡ (key ++ (blank ++ (date ++ (blank ++ members)))) ++ end
flat_line key blank date members end = simp append_assoc

pub lines_end_at_their_line_feed : LinesEndAtTheirLineFeed
unfolding line_text
lines_end_at_their_line_feed line is = record {
  body = line.key ++ (codes " " ++ (time_digits line.date ++ (codes " " ++ object_text false line)));
  ended = flat_line line.key (codes " ") (time_digits line.date) (object_text false line) (codes "\n");
  only = five_free line.key (codes " ") (time_digits line.date) (codes " ") (object_text false line) (key_is_free line is) blank_is_free (date_is_free line is) blank_is_free (object_is_free line);
}

-- ---- and is told by its text

-- of two texts that end at the first such byte
until : (stop : ℕ) (u v x y : List ℕ) → All (λ b. b ≢ stop) u → All (λ b. b ≢ stop) v → u ++ (stop ∷ x) ≡ v ++ (stop ∷ y) → (u ≡ v) × (x ≡ y)
until stop [] [] x y p q e = (refl, ap (drop 1) e)
until stop [] (b ∷ v) x y p q e = absurd (q 0 0 (omega arith) (sym (ap (λ (l : List ℕ). get_or l 0 0) e)))
until stop (a ∷ u) [] x y p q e = absurd (p 0 0 (omega arith) (ap (λ (l : List ℕ). get_or l 0 0) e))
until stop (a ∷ u) (b ∷ v) x y p q e =
    let rest : (u ≡ v) × (x ≡ y) = until stop u v x y (λ k d lt. p (suc k) d (omega arith)) (λ k d lt. q (suc k) d (omega arith)) (ap (drop 1) e) in
    let first : a ≡ b = ap (λ (l : List ℕ). get_or l 0 0) e in
    let others : u ≡ v = rest.0 in
    let whole : (a ∷ u) ≡ (b ∷ v) = cc in
    (whole, rest.1)

-- the text of a member
abbrev text_of : Data → List ℕ
text_of null = []
text_of (boolean b) = []
text_of (number n) = []
text_of (string s) = s
text_of (array ds) = []
text_of (object ms) = []

abbrev nth : ℕ → Members → List ℕ
nth n no_members = []
nth zero (member k d ms) = text_of d
nth (suc n) (member k d ms) = nth n ms

abbrev nth_of : ℕ → Data → List ℕ
nth_of n null = []
nth_of n (boolean b) = []
nth_of n (number m) = []
nth_of n (string s) = []
nth_of n (array ds) = []
nth_of n (object ms) = nth n ms

same_object : (a b : Line) → object_text false a ≡ object_text false b → object_of false a ≡ object_of false b
same_object a b e =
    let both : Some (object_of false a) ≡ Some (object_of false b) = sym (read-object_text a) ∙ ap read e ∙ read-object_text b in
    cc

same_volume : (m n : ℕ) → m < 2 ^ 32 → n < 2 ^ 32 → file_name m ≡ file_name n → m ≡ n
same_volume m n p q e =
    let digits : six_digits m ≡ six_digits n = append_cancel_right (six_digits m) (six_digits n) (codes ".warc") (ap (drop 4) e) in
    sym (digits_value-six m p) ∙ ap (digits_value 10) digits ∙ digits_value-six n q

same_line : (a b : Line) → IsLine a → IsLine b → a.key ≡ b.key → a.date ≡ b.date → object_of false a ≡ object_of false b → a ≡ b
same_line a b p q key date e =
    let digest = digest_injective a.digest b.digest p.typed.digest q.typed.digest (ap (nth_of 0) e) in
    let volume = same_volume a.volume b.volume p.typed.volume q.typed.volume (ap (nth_of 1) e) in
    let length = decimal_injective a.length b.length p.typed.length q.typed.length (ap (nth_of 2) e) in
    let number = decimal_injective a.number b.number (omega (arith, p.typed.number)) (omega (arith, q.typed.number)) (ap (nth_of 5) e) in
    let offset = decimal_injective a.offset b.offset p.typed.offset q.typed.offset (ap (nth_of 6) e) in
    let status = decimal_injective a.status b.status (omega (arith, p.writable.status_to)) (omega (arith, q.writable.status_to)) (ap (nth_of 7) e) in
    let method : a.method ≡ b.method = ap (nth_of 3) e in
    let mime : a.mime ≡ b.mime = ap (nth_of 4) e in
    let url : a.url ≡ b.url = ap (nth_of 8) e in
    λ i. record { key = key i; date = date i; digest = digest i; volume = volume i; length = length i; method = method i; mime = mime i; number = number i; offset = offset i; status = status i; url = url i }

-- a line before another text
flat_front : (key date members rest : List ℕ) → (key ++ codes " " ++ date ++ codes " " ++ members ++ codes "\n") ++ rest ≡ key ++ 32 ∷ (date ++ 32 ∷ (members ++ 10 ∷ rest))
flat_front key date members rest = simp append_assoc

pub lines_end_where_they_end : LinesEndWhereTheyEnd
unfolding line_text
lines_end_where_they_end a b x y p q e =
    let apart : a.key ++ 32 ∷ (time_digits a.date ++ 32 ∷ (object_text false a ++ 10 ∷ x)) ≡ b.key ++ 32 ∷ (time_digits b.date ++ 32 ∷ (object_text false b ++ 10 ∷ y)) =
    sym (flat_front a.key (time_digits a.date) (object_text false a) x) ∙ e ∙ flat_front b.key (time_digits b.date) (object_text false b) y in
    let keys = until 32 a.key b.key _ _ (key_has_no_blank a.url a.key p.writable.key) (key_has_no_blank b.url b.key q.writable.key) apart in
    let dates = time_digits_front a.date b.date 32 (object_text false a ++ 10 ∷ x) (object_text false b ++ 10 ∷ y) (omega arith) keys.1 in
    let objects = until 10 (object_text false a) (object_text false b) x y (object_is_free a) (object_is_free b) dates.1 in
    (same_line a b p q keys.0 dates.0 (same_object a b objects.0), objects.1)

pub lines_are_told_by_their_texts : LinesAreToldByTheirTexts
lines_are_told_by_their_texts a b p q e = (lines_end_where_they_end a b [] [] p q (ap (λ (t : List ℕ). t ++ []) e)).0
