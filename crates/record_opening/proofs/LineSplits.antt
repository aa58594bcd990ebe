-- A line that is split off the front of bytes.
use Rattle.std.proofs.Common.{◌≡◌, ◌≢◌, ℕ, suc, ◌<◌, ◌≤◌, List, ◌∷◌, ◌++◌, length, take, drop, get_or, sym, ap, subst, ◌∙◌, arith}
use Rattle.std.proofs.lemmas.Bool.{eq-eqb, eqb-true}
use Rattle.std.proofs.lemmas.List.{take-append-drop, length-take-le}
use Rattle.std.proofs.lemmas.List.Elements.{All-from_get_or}
use Rattle.std.proofs.Math.Seq.{drop-cons, get_or-take}
use Rattle.memchr.specs.Find.{Nowhere, NoneBefore, Passes, is_byte}
use Rattle.warc_text.specs.Groups.{IsOneLine}
use Rattle.record_opening.specs.steps.SplitLines.{IsSplitLine}

-- no line's end stands in the bytes
pub without_return : (bytes : List ℕ) → Nowhere (Passes (is_byte 13) bytes) 0 (length bytes) → IsOneLine bytes
without_return bytes none =
    All-from_get_or (λ b. b ≢ 13) bytes 0 (λ k inside cr. none k (omega arith) inside (eq-eqb (get_or bytes k 0) 13 cr))

-- nor before the first one
before_return : (bytes : List ℕ) (k : ℕ) → NoneBefore (Passes (is_byte 13) bytes) 0 (length bytes) k → IsOneLine (take k bytes)
before_return bytes k before =
    let fits : k ≤ length bytes = omega (arith, before.high) in
    All-from_get_or (λ b. b ≢ 13) (take k bytes) 0 (λ i inside cr.
    let low : i < k = omega (arith, inside, length-take-le k bytes fits) in
    before.before i (omega arith) low (eq-eqb (get_or bytes i 0) 13 (sym (get_or-take k bytes i 0 low) ∙ cr)))

-- what stands before it, and from it on
pub line_found : (bytes front back : List ℕ) (k : ℕ) → front ≡ take k bytes → back ≡ drop k bytes
    → NoneBefore (Passes (is_byte 13) bytes) 0 (length bytes) k → Passes (is_byte 13) bytes k → IsSplitLine bytes front back
line_found bytes front back k e₁ e₂ before there = record {
  rest = drop (suc k) bytes;
  one = subst IsOneLine (sym e₁) (before_return bytes k before);
  ends = e₂ ∙ drop-cons bytes k 0 before.high ∙ ap (λ (b : ℕ). b ∷ drop (suc k) bytes) (eqb-true (get_or bytes k 0) 13 there);
  composed = sym (take-append-drop k bytes) ∙ ap (λ t. t ++ drop k bytes) (sym e₁) ∙ ap (λ t. front ++ t) (sym e₂);
}
