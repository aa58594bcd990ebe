-- Sums over lists, one element of which was changed.
use Rattle.std.proofs.Common.{◌≡◌, ◌≢◌, ℕ, zero, suc, ◌+◌, List, [], ◌∷◌, ◌++◌, set, sym, refl, ap, arith, take, drop}
use Rattle.std.specs.List.{sum_by}
use Rattle.std.proofs.lemmas.List.Sums.{sum_by-append, sum_by-cons}
use mathlib.Core.Option.{some, some-injective, some-ne-none}
use lib.ListN.{get_elem?}

module _ {A : Type 0} (f : A → ℕ) where
  -- the sum changes by what the one element's does
  pub sum_set : (xs : List A) (i : ℕ) (x y : A) → get_elem? xs i ≡ some x → sum_by f (set xs i y) + f x ≡ sum_by f xs + f y
  sum_set [] i x y e = absurd (some-ne-none x (sym e))
  sum_set (a ∷ xs) zero x y e =
      let q : f a ≡ f x = ap f (some-injective a x e) in
      omega (arith, q, sum_by-cons f y xs, sum_by-cons f a xs)
  sum_set (a ∷ xs) (suc i) x y e = let r = sum_set xs i x y e in omega (arith, r, sum_by-cons f a (set xs i y), sum_by-cons f a xs)

  -- the sum with one more at the end
  pub sum_end : (xs : List A) (x : A) → sum_by f (xs ++ x ∷ []) ≡ sum_by f xs + f x
  sum_end xs x = omega (arith, sum_by-append f xs (x ∷ []), sum_by-cons f x [])

  -- the first element and the others
  pub sum_first : (xs : List A) → sum_by f (take 1 xs) + sum_by f (drop 1 xs) ≡ sum_by f xs
  sum_first [] = refl
  sum_first (x ∷ xs) = omega (arith, sum_by-cons f x [], sum_by-cons f x xs)

  -- where every element counts for nothing, so does the list
  pub sum_none : (xs : List A) → ((i : ℕ) (x : A) → get_elem? xs i ≡ some x → f x ≡ 0) → sum_by f xs ≡ 0
  sum_none [] none = refl
  sum_none (x ∷ xs) none = let a = none 0 x refl in let r = sum_none xs (λ i. none (suc i)) in omega (arith, a, r, sum_by-cons f x xs)

  -- where every other element counts for nothing, the list counts as the one does
  pub sum_one : (xs : List A) (i : ℕ) (x : A) → get_elem? xs i ≡ some x → ((j : ℕ) (y : A) → j ≢ i → get_elem? xs j ≡ some y → f y ≡ 0) → sum_by f xs ≡ f x
  sum_one [] i x e none = absurd (some-ne-none x (sym e))
  sum_one (a ∷ xs) zero x e none =
      let q : f a ≡ f x = ap f (some-injective a x e) in
      let r = sum_none xs (λ j y h. none (suc j) y (λ z. omega (arith, z)) h) in
      omega (arith, q, r, sum_by-cons f a xs)
  sum_one (a ∷ xs) (suc i) x e none =
      let q = none 0 a (λ z. omega (arith, z)) refl in
      let r = sum_one xs i x e (λ j y ne h. none (suc j) y (λ z. ne (omega (arith, z))) h) in
      omega (arith, q, r, sum_by-cons f a xs)
