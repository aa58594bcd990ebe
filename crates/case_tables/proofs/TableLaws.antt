-- The numbers of a table's captures stay below the number that is kept beside it.
use Rattle.std.proofs.Common.{◌≡◌, ℕ, ◌+◌, ◌<◌, ◌≤◌, true, not, List, [], ◌∷◌, ◌++◌, arith}
use Rattle.std.specs.Prelude.{◌==◌}
use Rattle.std.specs.List.{All}
use Rattle.std.proofs.lemmas.Bool.Decides.{nat_tests}
use Rattle.std.proofs.lemmas.List.Elements.{All-weaker, All-push, All-filter, filter_passes}
use Rattle.revisit_table.specs.Table.{without}

abbrev Below : ℕ → List (List ℕ × ℕ) → Type 0
Below n kept = All (λ entry. entry.1 < n) kept

-- a greater number does as well
pub below_later : (n m : ℕ) (kept : List (List ℕ × ℕ)) → n ≤ m → Below n kept → Below m kept
below_later n m kept later below =
    All-weaker (λ entry. entry.1 < n) (λ entry. entry.1 < m) (λ entry less. omega arith) kept below

-- one of this number is added
pub below_added : (n : ℕ) (digest : List ℕ) (kept : List (List ℕ × ℕ)) → Below n kept → Below (n + 1) (kept ++ (digest, n) ∷ [])
below_added n digest kept below =
    All-push (λ entry. entry.1 < n + 1) kept (digest, n) (below_later n (n + 1) kept (omega arith) below) (omega arith)

-- one is taken back
pub below_without : (n number : ℕ) (kept : List (List ℕ × ℕ)) → Below n kept → Below n (without number kept)
below_without n number kept below =
    All-filter (λ entry. not (entry.1 == number)) (λ entry. entry.1 < n) kept below

one_less : (m number : ℕ) → m < number + 1 → not (m == number) ≡ true → m < number
one_less m number below other = grind (arith, nat_tests)

-- the one that is taken back had the greatest number
pub below_last : (n number : ℕ) (kept : List (List ℕ × ℕ)) → number + 1 ≡ n → Below n kept → Below number (without number kept)
below_last n number kept last below =
    let less = below_without n number kept below in
    let others = filter_passes (λ entry. not (entry.1 == number)) kept in
    λ k d within. one_less _ number (rw last (less k d within)) (others k d within)
