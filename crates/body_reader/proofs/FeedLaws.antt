-- What is taken of a text that grew by a piece.
use Rattle.std.proofs.Common.{◌≡◌, ℕ, ◌+◌, ◌-◌, ◌<◌, ◌≤◌, List, ◌++◌, length, take, sym, ap, subst, ◌∙◌, arith}
use Rattle.std.proofs.Math.Seq.{take-append-add}
use Rattle.capture.specs.Body.{IsCutWire}
use Rattle.capture.specs.declared.framing.Framing.TheVariants.{Chunked}

-- the first bytes are what was there, and some of the piece
pub taken_of_piece : (old piece : List ℕ) (from at : ℕ) → from ≡ length old → from ≤ at
    → take at (old ++ piece) ≡ old ++ take (at - from) piece
taken_of_piece old piece from at len low =
    let e : length old + (at - from) ≡ at = omega (arith, len, low) in
    ap (λ n. take n (old ++ piece)) (sym e) ∙ take-append-add old piece (at - from)

pub taken_to : (old piece grown new : List ℕ) (from at : ℕ) → from ≡ length old → from ≤ at → grown ≡ old ++ piece → new ≡ take at grown
    → new ≡ old ++ take (at - from) piece
taken_to old piece grown new from at len low grows is =
    is ∙ ap (take at) grows ∙ taken_of_piece old piece from at len low

-- what was cut before the last byte
pub cut_before : (old piece text : List ℕ) (from at : ℕ) → from ≡ length old → from < at → text ≡ old ++ piece
    → IsCutWire Chunked (take (at - 1) text) → IsCutWire Chunked (old ++ take (at - from - 1) piece)
cut_before old piece text from at len low grows is =
    let e : at - 1 - from ≡ at - from - 1 = omega (arith, low) in
    subst (IsCutWire Chunked)
    (ap (take (at - 1)) grows ∙ taken_of_piece old piece from (at - 1) len (omega (arith, low))
    ∙ ap (λ n. old ++ take n piece) e) is
