-- How many of the first ones have no P.
use Rattle.std.proofs.Common.{◌≡◌, ◌⊎◌, ℕ, zero, suc, ◌+◌, ◌<◌, ◌≤◌, refl, sym, subst, inl, inr, ⊎_elim, arith}
use Rattle.std.proofs.lemmas.Bool.{cases_lt}
use Rattle.archive_settling.specs.Settling.{HasWithout}

-- the last of them has P, or is one of those that haven't
pub by_last : (P : ℕ → Type 0) (k n : ℕ) → HasWithout P (suc k) n
    → (P k × HasWithout P k n) ⊎ ((P k → ⊥) × ((m : ℕ) × (n ≡ suc m) × HasWithout P k m))
by_last P k zero has = inl has
by_last P k (suc n) has = ⊎_elim (λ one. inl one) (λ none. inr (none.0, (n, refl, none.1))) has

-- each has P
pub none_without : (P : ℕ → Type 0) (k : ℕ) → ((j : ℕ) → j < k → P j) → HasWithout P k 0
none_without P zero all = refl
none_without P (suc k) all = (all k (omega arith), none_without P k (λ j less. all j (omega (arith, less))))

-- one more has P
pub without_one : (P : ℕ → Type 0) (k n : ℕ) → P k → HasWithout P k n → HasWithout P (suc k) n
without_one P k zero is has = (is, has)
without_one P k (suc n) is has = inl (is, has)

pub without_more : (P : ℕ → Type 0) (k n : ℕ) → (P k → ⊥) → HasWithout P k n → HasWithout P (suc k) (suc n)
without_more P k n not has = inr (not, has)

-- where each that has P has Q, no more have no Q
pub fewer : (P Q : ℕ → Type 0) (k m n : ℕ) → ((j : ℕ) → j < k → P j → Q j) → HasWithout P k m → HasWithout Q k n → n ≤ m
fewer P Q zero m n to has other = omega (arith, has, other)
fewer P Q (suc k) m n to has other = ⊎_elim
    (λ is. ⊎_elim
    (λ too. fewer P Q k m n below is.1 too.1)
    (λ not. absurd (not.0 (to k (omega arith) is.0)))
    (by_last Q k n other))
    (λ not. ⊎_elim
    (λ too. omega (arith, not.1.1, fewer P Q k not.1.0 n below not.1.2 too.1))
    (λ both. omega (arith, not.1.1, both.1.1, fewer P Q k not.1.0 both.1.0 below not.1.2 both.1.2))
    (by_last Q k n other))
    (by_last P k m has)
  where
    below : (j : ℕ) → j < k → P j → Q j
    below j less is = to j (omega (arith, less)) is

-- the same of those that have Q instead
pub same_without : (P Q : ℕ → Type 0) (k n : ℕ) → ((j : ℕ) → j < k → P j → Q j) → ((j : ℕ) → j < k → Q j → P j)
    → HasWithout P k n → HasWithout Q k n
same_without P Q zero n to back has = has
same_without P Q (suc k) n to back has = ⊎_elim
    (λ is. without_one Q k n (to k (omega arith) is.0) (same_without P Q k n (λ j less. to j (omega (arith, less))) (λ j less. back j (omega (arith, less))) is.1))
    (λ not. subst (λ (x : ℕ). HasWithout Q (suc k) x) (sym not.1.1)
    (without_more Q k not.1.0 (λ is. not.0 (back k (omega arith) is))
    (same_without P Q k not.1.0 (λ j less. to j (omega (arith, less))) (λ j less. back j (omega (arith, less))) not.1.2)))
    (by_last P k n has)

-- how many of fewer have none
pub record IsCutTo (P : ℕ → Type 0) (less k n : ℕ) : Type 0 where
  pub without : ℕ
  pub has : HasWithout P less without
  pub most : without ≤ n
  pub near : n + less ≤ without + k
  pub all : ((j : ℕ) → less ≤ j → P j → ⊥) → n + less ≡ without + k

-- all of them
cut_here : (P : ℕ → Type 0) (less k n : ℕ) → less ≡ k → HasWithout P k n → IsCutTo P less k n
cut_here P less k n is has = record {
  without = n;
  has = subst (λ (x : ℕ). HasWithout P x n) (sym is) has;
  most = omega arith;
  near = omega (arith, is);
  all = λ none. omega (arith, is);
}

-- or all but the last
cut_further : (P : ℕ → Type 0) (less k n : ℕ) → less ≤ k → ((m : ℕ) → HasWithout P k m → IsCutTo P less k m) → HasWithout P (suc k) n
    → IsCutTo P less (suc k) n
cut_further P less k n le cut has = ⊎_elim
    (λ is.
    let rest = cut n is.1 in record {
      without = rest.without;
      has = rest.has;
      most = rest.most;
      near = omega (arith, rest.near);
      all = λ none. absurd (none k le is.0);
    })
    (λ not.
    let rest = cut not.1.0 not.1.2 in record {
      without = rest.without;
      has = rest.has;
      most = omega (arith, rest.most, not.1.1);
      near = omega (arith, rest.near, not.1.1);
      all = λ none. omega (arith, rest.all none, not.1.1);
    })
    (by_last P k n has)

pub cut_to : (P : ℕ → Type 0) (less k n : ℕ) → less ≤ k → HasWithout P k n → IsCutTo P less k n
cut_to P less zero n le has = cut_here P less zero n (omega (arith, le)) has
cut_to P less (suc k) n le has = ⊎_elim
    (λ (lt : less < suc k). cut_further P less k n (omega (arith, lt)) (λ m rest. cut_to P less k m (omega (arith, lt)) rest) has)
    (λ (ge : suc k ≤ less). cut_here P less (suc k) n (omega (arith, le, ge)) has)
    (cases_lt less (suc k))
