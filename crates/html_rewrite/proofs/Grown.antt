-- A text that grows by pieces, as far as its limit allows.
use Rattle.std.proofs.Common.{◌≡◌, ℕ, true, false, nat_le, List, [], ◌++◌, length, take, refl, ◌∙◌, ap, arith, Option, Some, None}
use Rattle.std.proofs.lemmas.Bool.{leb-false, leb-true}
use Rattle.std.proofs.lemmas.List.{append_assoc, append-nil, length-append}
use Rattle.html_rewrite.specs.declared.rewriter.Rewriter.{Rewriter}
use Rattle.html_rewrite.specs.Rewritten.{within}
use Rattle.html_rewrite.specs.steps.Reading.{done, grown, text_of}

-- a text beyond the limit stays so
beyond : (limit : ℕ) (u b : List ℕ) → nat_le (length u) limit ≡ false → nat_le (length (u ++ b)) limit ≡ false
beyond limit u b e =
    elim (nat_le (length (u ++ b)) limit) as (λ v. nat_le (length (u ++ b)) limit ≡ v → v ≡ false) [
      | true ↦ λ f. absurd (omega (arith, leb-false (length u) limit e, leb-true (length (u ++ b)) limit f, length-append u b))
      | false ↦ λ f. refl
    ]
    refl

grown_within : (limit : ℕ) (u b : List ℕ) → grown limit (within limit u) b ≡ within limit (u ++ b)
grown_within limit u b =
    elim (nat_le (length u) limit) as (λ v. nat_le (length u) limit ≡ v → grown limit (within limit u) b ≡ within limit (u ++ b)) [
      | true ↦ λ e. rw e refl
      | false ↦ λ e. rw (e, beyond limit u b e) refl
    ]
    refl

-- two pieces are one
pub grown_twice : (limit : ℕ) (x : Option (List ℕ)) (a b : List ℕ) → grown limit (grown limit x a) b ≡ grown limit x (a ++ b)
grown_twice limit None a b = refl
grown_twice limit (Some t) a b = grown_within limit (t ++ a) b ∙ ap (within limit) (append_assoc t a b)

-- four pieces are one
pub grown_four_times : (limit : ℕ) (x : Option (List ℕ)) (a b c d : List ℕ) → grown limit (grown limit (grown limit (grown limit x a) b) c) d ≡ grown limit x (a ++ (b ++ (c ++ d)))
grown_four_times limit x a b c d =
    grown_twice limit (grown limit (grown limit x a) b) c d
    ∙ grown_twice limit (grown limit x a) b (c ++ d)
    ∙ grown_twice limit x a (b ++ (c ++ d))

-- an empty piece leaves what was done
pub done_still : (limit : ℕ) (rewriter : Rewriter) → grown limit (done limit rewriter) [] ≡ done limit rewriter
done_still limit rewriter =
    let text = take rewriter.read rewriter.run.now in
    grown_twice limit (text_of rewriter.written) text [] ∙ ap (grown limit (text_of rewriter.written)) (append-nil text)

-- what is beyond the limit stays so
pub grown_none : (limit : ℕ) (x : Option (List ℕ)) (piece : List ℕ) → x ≡ None → grown limit x piece ≡ None
grown_none limit x piece e = ap (λ y. grown limit y piece) e
