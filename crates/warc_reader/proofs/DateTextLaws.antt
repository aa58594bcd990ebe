-- A WARC-Date of other tools is one date.
use Rattle.std.proofs.Common.{◌≡◌, ℕ, ◌+◌, ◌%◌, ◌<◌, List, [], ◌∷◌, ◌++◌, length, take, drop, inl, inr, refl, sym, ap, subst, ◌∙◌, arith, append_assoc, length-append}
use Rattle.std.specs.Prelude.{codes}
use Rattle.std.proofs.lemmas.Bool.Decides.{eqb_tells}
use Rattle.std.proofs.lemmas.List.{take-append-drop}
use Rattle.time_text.specs.Texts.{InRange, warc_date}
use Rattle.time_text.proofs.WarcLemmas.{length-warc_date_whole, length-warc_date_fraction}
use Rattle.warc_reader.specs.Dates.{IsDateText, IsFraction, IsSecond, milliseconds, print_fraction}
use Rattle.warc_reader.proofs.RecordLaws.{same_front}

-- the text of a date that has no fraction is a whole second's
whole_by_length : (second : ℕ) → length (warc_date second) ≡ 20 → second % 1000 ≡ 0
whole_by_length second len =
    elim (eqb_tells (second % 1000) 0) [
      | inl h ↦ h.1
      | inr h ↦ absurd (omega (arith, len, length-warc_date_fraction second h.1))
    ]

pub second_read : (front text : List ℕ) (second : ℕ) → length front ≡ 19 → text ≡ front ++ 90 ∷ [] → InRange second → text ≡ warc_date second
    → IsSecond front second
second_read front text second len is in_range told = record {
  in_range = in_range;
  whole = whole_by_length second (omega (arith, ap length told, ap length is, length-append front (90 ∷ []), len));
  text_is = sym told ∙ is;
}

pub no_second : (front text : List ℕ) → text ≡ front ++ 90 ∷ [] → ((date : ℕ) → InRange date → ¬ (text ≡ warc_date date)) → (second : ℕ)
    → IsSecond front second → ⊥
no_second front text is refused second of = refused second of.in_range (is ∙ sym of.text_is)

-- the front of a second has 19 bytes
pub front_len : (front : List ℕ) (second : ℕ) → IsSecond front second → length front ≡ 19
front_len front second is =
    omega (arith, ap length is.text_is, length-warc_date_whole second is.whole, length-append front (90 ∷ []))

-- where a text was split, its date's parts are
pub split_date : (text front behind : List ℕ) → text ≡ front ++ behind → length front ≡ 19 → (date : ℕ) (is : IsDateText text date)
    → (front ≡ is.front) × (behind ≡ print_fraction is.digits ++ codes "Z")
split_date text front behind split len date is =
    same_front front is.front behind (print_fraction is.digits ++ codes "Z") (len ∙ sym (front_len is.front is.second is.is_second))
    (sym split ∙ is.text_is ∙ append_assoc is.front (print_fraction is.digits) (codes "Z"))

pub too_short : (text : List ℕ) → length text < 19 → (date : ℕ) → IsDateText text date → ⊥
too_short text short date is =
    absurd (omega (
      arith,
      short,
      ap length is.text_is,
      length-append (is.front ++ print_fraction is.digits) (codes "Z"),
      length-append is.front (print_fraction is.digits),
      front_len is.front is.second is.is_second,
    ))

pub split_whole : (text front behind : List ℕ) (at : ℕ) → front ≡ take at text → behind ≡ drop at text → text ≡ front ++ behind
split_whole text front behind at is rest =
    sym (take-append-drop at text) ∙ ap (λ f. f ++ drop at text) (sym is) ∙ ap (λ b. front ++ b) (sym rest)

pub no_date_without_second : (text front behind : List ℕ) → text ≡ front ++ behind → length front ≡ 19
    → ((second : ℕ) → ¬ (IsSecond front second)) → (date : ℕ) → IsDateText text date → ⊥
no_date_without_second text front behind split len none date is =
    let at = split_date text front behind split len date is in
    none is.second (subst (λ f. IsSecond f is.second) (sym at.0) is.is_second)

pub no_date_without_fraction : (text front behind : List ℕ) → text ≡ front ++ behind → length front ≡ 19
    → ((digits : List ℕ) → IsFraction digits → ¬ (behind ≡ print_fraction digits ++ codes "Z")) → (date : ℕ) → IsDateText text date → ⊥
no_date_without_fraction text front behind split len none date is =
    let at = split_date text front behind split len date is in
    none is.digits is.is_fraction at.1

pub date_holds : (text front behind digits : List ℕ) (second date : ℕ) → text ≡ front ++ behind → IsSecond front second → IsFraction digits
    → behind ≡ print_fraction digits ++ codes "Z" → date ≡ second + milliseconds digits → IsDateText text date
date_holds text front behind digits second date split is_second is_fraction told is = record {
  front = front;
  second = second;
  digits = digits;
  is_second = is_second;
  is_fraction = is_fraction;
  text_is = split ∙ ap (λ b. front ++ b) told ∙ sym (append_assoc front (print_fraction digits) (codes "Z"));
  date_is = is;
}

-- ---- the fraction

one_byte : (xs : List ℕ) → length xs ≡ 1 → (b : ℕ) × (xs ≡ b ∷ [])
one_byte [] e = absurd cc
one_byte (b ∷ []) e = (b, refl)
one_byte (b ∷ c ∷ xs) e = absurd (omega (arith, e))

pub ends_with_z : (behind fraction last : List ℕ) → behind ≡ fraction ++ last → length last ≡ 1 → (digits : List ℕ)
    → behind ≡ print_fraction digits ++ codes "Z" → (fraction ≡ print_fraction digits) × (last ≡ codes "Z")
ends_with_z behind fraction last split one digits is =
    let lens = length-append fraction last in
    let others = length-append (print_fraction digits) (codes "Z") in
    same_front fraction (print_fraction digits) last (codes "Z")
    (omega (arith, ap length split, ap length is, lens, others, one)) (sym split ∙ is)

pub empty_has_no_z : (behind : List ℕ) → length behind ≡ 0 → (digits : List ℕ) → behind ≡ print_fraction digits ++ codes "Z" → ⊥
empty_has_no_z behind none digits is =
    absurd (omega (arith, none, ap length is, length-append (print_fraction digits) (codes "Z")))

-- a fraction with a byte is a point and digits
pub begun_fraction : (fraction rest : List ℕ) (first : ℕ) → fraction ≡ first ∷ rest → (digits : List ℕ) → fraction ≡ print_fraction digits
    → (first ≡ 46) × (rest ≡ digits) × (0 < length digits)
begun_fraction fraction rest first split [] is = absurd (omega (arith, ap length split, ap length is))
begun_fraction fraction rest first split (d ∷ digits) is =
    let e : first ∷ rest ≡ 46 ∷ d ∷ digits = sym split ∙ is in
    (cc, cc, omega arith)

pub print_some : (digits : List ℕ) → 0 < length digits → 46 ∷ digits ≡ print_fraction digits
print_some [] some = absurd (omega (arith, some))
print_some (d ∷ digits) some = refl
