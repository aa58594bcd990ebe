-- The views of a table, where one more is put at the end, or two are changed.
use Rattle.std.proofs.Common.{◌≡◌, ◌≢◌, ◌⊎◌, ℕ, zero, suc, length, List, [], ◌∷◌, ◌++◌, set, sym, refl, ap, subst, ⊎_elim, inl, inr, arith}
use mathlib.Core.Option.{some, some-injective, some-ne-none}
use lib.ListN.{get_elem?}
use Rattle.history_lock.specs.Seen.{All}
use Rattle.history_lock.specs.declared.view.View.{View}
use Rattle.history_lock.specs.Rule.{ticket_of, one_of, count_tickets}

module _ {A : Type 0} where
  -- what is in the longer list is in the list, or is the last
  pub at_end : (vs : List A) (a b : A) (j : ℕ) → get_elem? (vs ++ a ∷ []) j ≡ some b → (get_elem? vs j ≡ some b) ⊎ ((j ≡ length vs) × (a ≡ b))
  at_end [] a b zero e = inr (refl, some-injective a b e)
  at_end [] a b (suc j) e = absurd (some-ne-none b (sym e))
  at_end (x ∷ xs) a b zero e = inl e
  at_end (x ∷ xs) a b (suc j) e = ⊎_elim (λ h. inl h) (λ t. inr (omega (arith, t.0), t.1)) (at_end xs a b j e)

  -- a fact of each view stays, where it holds of the last
  pub each_end : (K : ℕ → A → Type 0) (vs : List A) (a : A) → K (length vs) a → ((j : ℕ) (u : A) → get_elem? vs j ≡ some u → K j u)
      → (j : ℕ) (u : A) → get_elem? (vs ++ a ∷ []) j ≡ some u → K j u
  each_end K vs a last old j u e = ⊎_elim (λ h. old j u h)
      (λ (t : (j ≡ length vs) × (a ≡ u)). subst (λ (x : ℕ × A). K x.0 x.1) (λ i. (sym t.0 i, t.1 i)) last) (at_end vs a u j e)

  -- a fact of each two views stays, where it holds of the last and each other, either way
  pub pairs_end : (R : A → A → Type 0) (vs : List A) (a : A) → ((j : ℕ) (u : A) → get_elem? vs j ≡ some u → R a u × R u a)
      → ((j k : ℕ) (u x : A) → j ≢ k → get_elem? vs j ≡ some u → get_elem? vs k ≡ some x → R u x)
      → (j k : ℕ) (u x : A) → j ≢ k → get_elem? (vs ++ a ∷ []) j ≡ some u → get_elem? (vs ++ a ∷ []) k ≡ some x → R u x
  pairs_end R vs a beside old j k u x ne p q = ⊎_elim
      (λ (hj : get_elem? vs j ≡ some u). ⊎_elim
      (λ (hk : get_elem? vs k ≡ some x). old j k u x ne hj hk)
      (λ (tk : (k ≡ length vs) × (a ≡ x)). subst (λ (z : A). R u z) tk.1 (beside j u hj).1)
      (at_end vs a x k q))
      (λ (tj : (j ≡ length vs) × (a ≡ u)). ⊎_elim
      (λ (hk : get_elem? vs k ≡ some x). subst (λ (z : A). R z x) tj.1 (beside k x hk).0)
      (λ (tk : (k ≡ length vs) × (a ≡ x)). absurd (ne (omega (arith, tj.0, tk.0))))
      (at_end vs a x k q))
      (at_end vs a u j p)

  -- two places can be changed in either order
  pub set_turned : (vs : List A) (i j : ℕ) (a b : A) → j ≢ i → set (set vs i a) j b ≡ set (set vs j b) i a
  set_turned [] i j a b ne = refl
  set_turned (x ∷ xs) zero zero a b ne = absurd (ne refl)
  set_turned (x ∷ xs) zero (suc j) a b ne = refl
  set_turned (x ∷ xs) (suc i) zero a b ne = refl
  set_turned (x ∷ xs) (suc i) (suc j) a b ne = ap (λ (ys : List A). x ∷ ys) (set_turned xs i j a b (λ e. ne (ap suc e)))

  -- a fact follows from another, of each element
  pub all_then : (P Q : A → Type 0) → ((x : A) → P x → Q x) → (xs : List A) → All P xs → All Q xs
  all_then P Q f [] a = tt
  all_then P Q f (x ∷ xs) a = (f x a.0, all_then P Q f xs a.1)

  -- a fact follows from two others, of each element
  pub all_both : (P Q R : A → Type 0) → ((x : A) → P x → Q x → R x) → (xs : List A) → All P xs → All Q xs → All R xs
  all_both P Q R f [] a b = tt
  all_both P Q R f (x ∷ xs) a b = (f x a.0 b.0, all_both P Q R f xs a.1 b.1)

  -- a fact of the elements of two lists
  pub all_join : (P : A → Type 0) (xs ys : List A) → All P xs → All P ys → All P (xs ++ ys)
  all_join P [] ys a b = b
  all_join P (x ∷ xs) ys a b = (a.0, all_join P xs ys a.1 b)

  -- what is true of everything
  pub all_true : (P : A → Type 0) → ((x : A) → P x) → (xs : List A) → All P xs
  all_true P f [] = tt
  all_true P f (x ∷ xs) = (f x, all_true P f xs)

module _ {E : Type 0} where
  -- a view without a ticket at the end counts for nothing
  pub count_end : (vs : List (View E)) (w : View E) → one_of (ticket_of w.stage) ≡ 0 → count_tickets (vs ++ w ∷ []) ≡ count_tickets vs
  count_end [] w none = omega (arith, none)
  count_end (v ∷ vs) w none = let r = count_end vs w none in omega (arith, r)
