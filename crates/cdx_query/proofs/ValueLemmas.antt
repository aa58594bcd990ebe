-- What the values of a query can't be.
use Rattle.std.proofs.Common.{◌≡◌, ℕ, ◌^◌, ◌<◌, List, length, take, sym, ◌∙◌, subst, arith}
use Rattle.std.specs.Prelude.{All, IsAscii}
use Rattle.std.proofs.lemmas.Fmt.{decimal_injective}
use Rattle.replay_url.specs.Forms.{IsNumber}
use Rattle.replay_url.proofs.AsciiLemmas.{digits_are_ascii}
use Rattle.time_text.specs.Bytes.{IsDigit}
use Rattle.time_text.specs.Texts.{InRange, all_digits}
use Rattle.cdx_query.specs.Reading.{IsCount, NamesTime}

-- a count is a number
pub count_number : (text : List ℕ) (count : ℕ) → IsCount text count → IsNumber text count
count_number text count is = record { fits = omega (arith, is.to); digits = is.digits }

-- and no other one
pub same_count : (text : List ℕ) (number count : ℕ) → IsNumber text number → IsCount text count → number ≡ count
same_count text number count read is =
    let fits : number < 2 ^ 64 = omega (arith, read.fits) in
    let small : count < 2 ^ 64 = omega (arith, is.to) in
    decimal_injective number count fits small (sym read.digits ∙ is.digits)

-- the digits of a time are of ASCII
pub time_ascii : (digits : List ℕ) → ((date n : ℕ) → InRange date → All IsDigit (take n (all_digits date))) → NamesTime digits → IsAscii digits
time_ascii digits law names =
    let named = names.1 in
    digits_are_ascii digits (subst (λ (t : List ℕ). All IsDigit t) (sym named.front) (law names.0 (length digits) named.in_range))
