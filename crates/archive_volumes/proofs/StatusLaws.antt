-- A status has three digits.
use Rattle.std.proofs.Common.{ℕ, ◌^◌, ◌<◌, ◌≤◌, List, [], ◌∷◌, subst, arith}
use Rattle.std.specs.Prelude.{IsTrue, All, nat_le}
use Rattle.std.proofs.lemmas.Bool.{and_parts, leb-true}
use Rattle.std.proofs.lemmas.Int.Digits.{digits_value-lt}
use Rattle.std.proofs.lemmas.List.Elements.{All-head, All-tail}
use Rattle.std.proofs.lemmas.Str.{digit_value_digit}
use Rattle.std.specs.Char.{is_ascii_digit}
use Rattle.std.specs.Str.Parse.{AllDigits, digits_value}
use Rattle.httparse.specs.Grammar as grammar
use Rattle.httparse.specs.Grammar.{status_code}
use Rattle.capture.specs.Message.{IsResponseHeadText}

all_digits : (digits : List ℕ) → All (λ b. IsTrue (is_ascii_digit b)) digits → AllDigits 10 digits
all_digits [] all = tt
all_digits (c ∷ cs) all =
    let parts = and_parts (nat_le 48 c) (nat_le c 57) (All-head (λ b. IsTrue (is_ascii_digit b)) c cs all) in
    let from : 48 ≤ c = leb-true 48 c parts.0 in
    let to : c ≤ 57 = leb-true c 57 parts.1 in
    let value = digit_value_digit c (from, to) in
    (omega (arith, value, to), all_digits cs (All-tail (λ b. IsTrue (is_ascii_digit b)) c cs all))

pub status_to : (text : List ℕ) (h : grammar.ResponseHead) → IsResponseHeadText text h → status_code h ≤ 999
status_to text h is =
    let digits = is.reads.0.digits in
    let less : digits_value 10 h.digits < 10 ^ 3 = subst (λ (n : ℕ). digits_value 10 h.digits < 10 ^ n) digits.0 (digits_value-lt 10 h.digits (all_digits h.digits digits.1)) in
    omega (arith, less)
