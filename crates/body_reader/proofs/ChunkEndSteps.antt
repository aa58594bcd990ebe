-- What data and a byte behind them make of a body, read from the text in which they stand.
use Rattle.std.proofs.Common.{◌≡◌, ◌≢◌, ℕ, ◌+◌, ◌-◌, ◌<◌, ◌≤◌, List, [], ◌∷◌, ◌++◌, length, take, drop, get_or, refl, sym, ap, subst, ◌∙◌, arith, length-take-le, length-drop}
use Rattle.std.proofs.Math.Seq.{take-add}
use Rattle.capture.specs.FirstChunks.{RefusesChunked}
use Rattle.capture.specs.declared.framing.MessageFault.TheVariants.{Malformed, BodyTooLong}
use Rattle.capture.specs.declared.limits.TheConstants.{BODY_LIMIT}
use Rattle.body_reader.specs.steps.ChunkPlaces.{InLineAt, InDataAt, InLineEndAt}
use Rattle.body_reader.proofs.ChunkEndLaws.{data_goes_on, data_ends, some_left, line_end_fits, line_end_over, no_cr, no_lf, cr_comes, lf_comes}
use Rattle.body_reader.proofs.LineSteps.{at_byte, len_at}

room_at : (text : List ℕ) (at : ℕ) (bytes : List ℕ) → at < length text → InLineEndAt bytes (take at text) → at ≢ BODY_LIMIT
    → length (take at text) < BODY_LIMIT
room_at text at bytes inside stands other =
    let len = len_at text at inside in
    omega (arith, len, other, line_end_fits bytes (take at text) stands)

pub over_at : (text : List ℕ) (at : ℕ) (bytes : List ℕ) → at < length text → InLineEndAt bytes (take at text) → at ≡ BODY_LIMIT
    → RefusesChunked (take (at + 1) text) BodyTooLong
over_at text at bytes inside stands full =
    at_byte (λ t. RefusesChunked t BodyTooLong) text at (get_or text at 0) inside refl
    (line_end_over bytes (take at text) (get_or text at 0) stands (len_at text at inside ∙ full))

pub no_cr_at : (text : List ℕ) (at : ℕ) → at < length text → InLineEndAt [] (take at text) → at ≢ BODY_LIMIT
    → get_or text at 0 ≢ 13 → RefusesChunked (take (at + 1) text) Malformed
no_cr_at text at inside stands room other =
    at_byte (λ t. RefusesChunked t Malformed) text at (get_or text at 0) inside refl
    (no_cr (take at text) (get_or text at 0) stands (room_at text at [] inside stands room) other)

pub no_lf_at : (text : List ℕ) (at : ℕ) → at < length text → InLineEndAt (13 ∷ []) (take at text) → at ≢ BODY_LIMIT
    → get_or text at 0 ≢ 10 → RefusesChunked (take (at + 1) text) Malformed
no_lf_at text at inside stands room other =
    at_byte (λ t. RefusesChunked t Malformed) text at (get_or text at 0) inside refl
    (no_lf (take at text) (get_or text at 0) stands (room_at text at (13 ∷ []) inside stands room) other)

pub cr_at : (text : List ℕ) (at : ℕ) → at < length text → InLineEndAt [] (take at text) → at ≢ BODY_LIMIT
    → get_or text at 0 ≡ 13 → InLineEndAt (13 ∷ []) (take (at + 1) text)
cr_at text at inside stands room is =
    at_byte (InLineEndAt (13 ∷ [])) text at 13 inside is (cr_comes (take at text) stands (room_at text at [] inside stands room))

pub lf_at : (text : List ℕ) (at : ℕ) → at < length text → InLineEndAt (13 ∷ []) (take at text) → at ≢ BODY_LIMIT
    → get_or text at 0 ≡ 10 → InLineAt (at + 1) (take (at + 1) text)
lf_at text at inside stands room is =
    subst (λ n. InLineAt (n + 1) (take (at + 1) text)) (len_at text at inside)
    (at_byte (InLineAt (length (take at text) + 1)) text at 10 inside is
    (lf_comes (take at text) stands (room_at text at (13 ∷ []) inside stands room)))

-- ---- data

-- so many bytes from there on
run_len : (text : List ℕ) (at k : ℕ) → at + k ≤ length text → length (take k (drop at text)) ≡ k
run_len text at k fits = length-take-le k (drop at text) (omega (arith, fits, length-drop at text))

pub data_goes_on_at : (text : List ℕ) (at left : ℕ) → at < length text → InDataAt left (take at text) → length text - at < left
    → InDataAt (left - (length text - at)) (take (length text) text)
data_goes_on_at text at left inside stands few =
    let k = length text - at in
    let end : at + k ≡ length text = omega (arith, inside) in
    let len = run_len text at k (omega (arith, end)) in
    let grown : take at text ++ take k (drop at text) ≡ take (length text) text =
    sym (take-add at k text) ∙ ap (λ n. take n text) end in
    subst (λ n. InDataAt (left - n) (take (length text) text)) len
    (subst (InDataAt (left - length (take k (drop at text)))) grown
    (data_goes_on left (take at text) (take k (drop at text)) stands (omega (arith, len, few))))

pub data_ends_at : (text : List ℕ) (at left : ℕ) → at + left ≤ length text → InDataAt left (take at text)
    → InLineEndAt [] (take (at + left) text)
data_ends_at text at left fits stands =
    subst (InLineEndAt []) (sym (take-add at left text))
    (data_ends left (take at text) (take left (drop at text)) stands (run_len text at left fits))

pub some_left_at : (text : List ℕ) (at left : ℕ) → InDataAt left (take at text) → 0 < left
some_left_at text at left stands = some_left left (take at text) stands
