-- What a run of bytes without a LF makes of a body that stands inside a line.
use Rattle.std.proofs.Common.{◌≡◌, ◌≢◌, ℕ, zero, suc, ◌+◌, ◌<◌, ◌≤◌, List, length, take, drop, get_or, refl, sym, ap, subst, ◌∙◌, arith, length-take-le}
use Rattle.std.proofs.lemmas.Bool.{ne_eqb}
use Rattle.std.proofs.lemmas.List.{get_or-drop, get_or-take}
use Rattle.capture.specs.declared.limits.TheConstants.{BODY_LIMIT, HEAD_LIMIT, SIZE_LINE_LIMIT}
use Rattle.body_reader.specs.steps.ChunkPlaces.{InLineAt, InTrailerAt}
use Rattle.body_reader.specs.steps.TrailerPlaces.{next_place}
use Rattle.body_reader.specs.declared.trailer.TrailerPlace.TheVariants.{InLine, Ended}
use Rattle.body_reader.proofs.ChunkTrailerSteps.{goes_on_at}
use Rattle.body_reader.proofs.LineSteps.{line_goes_on_at}

-- no byte of the run is a LF
abbrev pub HasNoLf : List ℕ → ℕ → ℕ → Type 0
HasNoLf text at n = (k : ℕ) → k < n → get_or text (at + k) 0 ≢ 10

-- the run, as it stands in the text
pub none_in_text : (text within rest : List ℕ) (most at n : ℕ) → within ≡ take most text → rest ≡ drop at within → n ≤ length rest
    → ((k : ℕ) → k < n → get_or rest k 0 ≢ 10) → at ≤ most → length rest + at ≤ most → HasNoLf text at n
none_in_text text within rest most at n front back fits none low room k h lf =
    let there : get_or rest k 0 ≡ get_or text (at + k) 0 =
    ap (λ r. get_or r k 0) back ∙ get_or-drop at within k 0 ∙ ap (λ w. get_or w (at + k) 0) front
    ∙ get_or-take most text (at + k) 0 (omega (arith, h, fits, room)) in
    none k h (there ∙ lf)

-- ---- a size line

line_run : (text : List ℕ) (at start n : ℕ) → at + n ≤ length text → at + n ≤ BODY_LIMIT → at + n ≤ start + SIZE_LINE_LIMIT
    → InLineAt start (take at text) → HasNoLf text at n → InLineAt start (take (at + n) text)
line_run text at start zero inside room short stands none =
    let same : at + 0 ≡ at = omega arith in subst (λ m. InLineAt start (take m text)) (sym same) stands
line_run text at start (suc n) inside room short stands none =
    let before = line_run text at start n (omega (arith, inside)) (omega (arith, room)) (omega (arith, short)) stands
    (λ k h. none k (omega (arith, h))) in
    let same : (at + n) + 1 ≡ at + suc n = omega arith in
    subst (λ m. InLineAt start (take m text)) same
    (line_goes_on_at text (at + n) start (omega (arith, inside)) before (omega (arith, room)) (omega (arith, short))
    (none n (omega arith)))

pub size_line_run : (text : List ℕ) (at start n : ℕ) → InLineAt start (take at text) → HasNoLf text at n → at + n ≤ length text
    → at + n ≤ BODY_LIMIT → at + n ≤ start + SIZE_LINE_LIMIT → InLineAt start (take (at + n) text)
size_line_run text at start n stands none inside room short = line_run text at start n inside room short stands none

-- ---- a line of the trailer section

in_line : (b : ℕ) → b ≢ 10 → next_place InLine b ≡ InLine
in_line b other = rw (ne_eqb b 10 other) refl

line_goes_on : InLine ≢ Ended
line_goes_on e = cc

pub trailer_line_run : (text : List ℕ) (at start n : ℕ) → InTrailerAt start InLine (take at text) → HasNoLf text at n → at + n ≤ length text
    → at + n ≤ BODY_LIMIT → at + n ≤ start + HEAD_LIMIT → InTrailerAt start InLine (take (at + n) text)
trailer_line_run text at start zero stands none inside room short =
    let same : at + 0 ≡ at = omega arith in subst (λ m. InTrailerAt start InLine (take m text)) (sym same) stands
trailer_line_run text at start (suc n) stands none inside room short =
    let before = trailer_line_run text at start n stands (λ k h. none k (omega (arith, h))) (omega (arith, inside)) (omega (arith, room))
    (omega (arith, short)) in
    let same : (at + n) + 1 ≡ at + suc n = omega arith in
    let other : get_or text (at + n) 0 ≢ 10 = none n (omega arith) in
    let still : next_place InLine (get_or text (at + n) 0) ≡ InLine = in_line (get_or text (at + n) 0) other in
    let low : start ≤ at + n = omega (arith, before.start_is, length-take-le (at + n) text (omega (arith, inside))) in
    subst (λ m. InTrailerAt start InLine (take m text)) same
    (subst (λ p. InTrailerAt start p (take ((at + n) + 1) text)) still
    (goes_on_at text (at + n) start InLine (record { inside = omega (arith, inside); stands = before }) (omega (arith, short, low))
    (λ e. line_goes_on (sym still ∙ e)) (λ full. absurd (omega (arith, room, full)))))
