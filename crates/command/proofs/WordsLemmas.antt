-- Lists of one word, of two, of three, of four, and of other lengths, and what is read of a namespace and of a number.
use Rattle.std.proofs.Common.{◌≡◌, ℕ, ◌^◌, ◌<◌, ◌≤◌, Bool, true, false, ◌&&◌, nat_le, List, [], ◌∷◌, length, map, decimal, get_or, arith, refl, sym, ap, subst, ◌∙◌, Option, Some, None, Bor, if◌then◌else◌}
use Rattle.std.proofs.lemmas.Bool.{leb-true, le-leb}
use Rattle.std.proofs.lemmas.Fmt.{decimal_is_IsNumeral}
use Rattle.std.proofs.lemmas.Slice.Eq.{bytes_eq-Decides}
use Rattle.std.specs.Str.{bytes_eq}
use Rattle.std.specs.Str.Parse.{digits_value}
use Rattle.uuid.proofs.TextLemmas.{by_index_length}
use Rattle.uuid.specs.Text.{hyphenated_text, lower, parsed}
use Rattle.record_opening.proofs.UuidParsing.{parsed_is_uuid}
use Rattle.warc_text.specs.Ids.{IsUuid}
use Rattle.command.specs.Words.{command_of, command_of_four, command_of_one, command_of_three, command_of_two, number_of}

pub command_of-one : (words : List (Bor (List ℕ))) (d : Bor (List ℕ)) → length words ≡ 1
    → command_of (map (λ word. word.now) words) ≡ command_of_one (get_or words 0 d).now
command_of-one [] d h = absurd (omega arith)
command_of-one (a ∷ []) d h = refl
command_of-one (a ∷ b ∷ words) d h = absurd (omega arith)

pub command_of-two : (words : List (Bor (List ℕ))) (d e : Bor (List ℕ)) → length words ≡ 2
    → command_of (map (λ word. word.now) words) ≡ command_of_two (get_or words 0 d).now (get_or words 1 e).now
command_of-two [] d e h = absurd (omega arith)
command_of-two (a ∷ []) d e h = absurd (omega arith)
command_of-two (a ∷ b ∷ []) d e h = refl
command_of-two (a ∷ b ∷ c ∷ words) d e h = absurd (omega arith)

pub command_of-three : (words : List (Bor (List ℕ))) (d e f : Bor (List ℕ)) → length words ≡ 3
    → command_of (map (λ word. word.now) words) ≡ command_of_three (get_or words 0 d).now (get_or words 1 e).now (get_or words 2 f).now
command_of-three [] d e f h = absurd (omega arith)
command_of-three (a ∷ []) d e f h = absurd (omega arith)
command_of-three (a ∷ b ∷ []) d e f h = absurd (omega arith)
command_of-three (a ∷ b ∷ c ∷ []) d e f h = refl
command_of-three (a ∷ b ∷ c ∷ x ∷ words) d e f h = absurd (omega arith)

pub command_of-four : (words : List (Bor (List ℕ))) (d e f : Bor (List ℕ)) → length words ≡ 4
    → command_of (map (λ word. word.now) words) ≡ command_of_four (get_or words 0 d).now (get_or words 1 e).now (get_or words 3 f).now
command_of-four [] d e f h = absurd (omega arith)
command_of-four (a ∷ []) d e f h = absurd (omega arith)
command_of-four (a ∷ b ∷ []) d e f h = absurd (omega arith)
command_of-four (a ∷ b ∷ c ∷ []) d e f h = absurd (omega arith)
command_of-four (a ∷ b ∷ c ∷ x ∷ []) d e f h = refl
command_of-four (a ∷ b ∷ c ∷ x ∷ y ∷ words) d e f h = absurd (omega arith)

pub command_of-other : (words : List (Bor (List ℕ))) → (length words ≡ 1 → ⊥) → (length words ≡ 2 → ⊥) → (length words ≡ 3 → ⊥) → (length words ≡ 4 → ⊥)
    → command_of (map (λ word. word.now) words) ≡ None
command_of-other [] g h i j = refl
command_of-other (a ∷ []) g h i j = absurd (g refl)
command_of-other (a ∷ b ∷ []) g h i j = absurd (h refl)
command_of-other (a ∷ b ∷ c ∷ []) g h i j = absurd (i refl)
command_of-other (a ∷ b ∷ c ∷ x ∷ []) g h i j = absurd (j refl)
command_of-other (a ∷ b ∷ c ∷ x ∷ y ∷ words) g h i j = refl

-- what no value is in is None
pub None-unless : {A : Type 0} (o : Option A) → ((x : A) × (o ≡ Some x) → ⊥) → o ≡ None
None-unless None h = refl
None-unless (Some x) h = absurd (h (x, refl))

-- what is read of a text that has hyphens is a UUID
pub namespace_is_uuid : (text id : List ℕ) → hyphenated_text lower id ≡ text → Some id ≡ parsed text → IsUuid id
namespace_is_uuid text id written read =
    let long : length (hyphenated_text lower id) ≡ 36 = by_index_length 36 _ in
    parsed_is_uuid text id (sym (ap length written) ∙ long) read

if_true : {A : Type 0} (t : Bool) (x y : A) → t ≡ true → (if t then x else y) ≡ x
if_true true x y e = refl
if_true false x y e = cc e

if_not : {A : Type 0} (t : Bool) (x y : A) → (t ≡ true → ⊥) → (if t then x else y) ≡ y
if_not true x y fails = absurd (fails refl)
if_not false x y fails = refl

both : (s t : Bool) → (s && t) ≡ true → (s ≡ true) × (t ≡ true)
both true true e = (refl, refl)
both true false e = cc e
both false t e = cc e

all : (s t : Bool) → s ≡ true → t ≡ true → (s && t) ≡ true
all true true e f = refl
all true false e f = f
all false t e f = e

-- the text is the decimal of no number up to the greatest
pub number_of-none : (most : ℕ) (text : List ℕ) → ((n : ℕ) → n ≤ most → text ≡ decimal n → ⊥) → number_of most text ≡ None
number_of-none most text fails =
    if_not _ _ _ (λ test. let t = both _ _ test in
    fails (digits_value 10 text) (leb-true _ _ t.1) (sym ((bytes_eq-Decides (decimal (digits_value 10 text)) text).0 t.0)))

-- the text is the decimal of this number
pub number_of-some : (most n : ℕ) (text : List ℕ) → n < 2 ^ 64 → n ≤ most → decimal n ≡ text → number_of most text ≡ Some n
number_of-some most n text fits within written =
    let value : digits_value 10 text ≡ n = ap (λ t. digits_value 10 t) (sym written) ∙ (decimal_is_IsNumeral n fits).1 in
    let same : bytes_eq (decimal (digits_value 10 text)) text ≡ true =
    (bytes_eq-Decides (decimal (digits_value 10 text)) text).1 (ap (λ m. decimal m) value ∙ written) in
    let less : nat_le (digits_value 10 text) most ≡ true = subst (λ m. nat_le m most ≡ true) (sym value) (le-leb n most within) in
    if_true _ _ _ (all _ _ same less) ∙ ap (λ (m : ℕ). Some m) value
