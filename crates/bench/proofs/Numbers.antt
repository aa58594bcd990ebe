-- The numbers of captures in a table of digests.
use Rattle.std.proofs.Common.{ℕ, ◌<◌, ◌+◌, List, [], ◌∷◌, ◌++◌, arith}
use Rattle.std.specs.Prelude.{All}
use Rattle.std.proofs.lemmas.List.Elements.{All-push, All-weaker}

-- with one more, all are below the number behind it
pub below_next : (kept : List (List ℕ × ℕ)) (digest : List ℕ) (number : ℕ) → All (λ (entry : List ℕ × ℕ). entry.1 < number) kept
    → All (λ (entry : List ℕ × ℕ). entry.1 < number + 1) (kept ++ (digest, number) ∷ [])
below_next kept digest number below =
    All-push (λ (entry : List ℕ × ℕ). entry.1 < number + 1) kept (digest, number)
    (All-weaker (λ (entry : List ℕ × ℕ). entry.1 < number) (λ (entry : List ℕ × ℕ). entry.1 < number + 1) (λ entry less. omega (arith, less)) kept below)
    (omega (arith))
