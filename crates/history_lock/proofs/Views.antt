-- The views of a table, where one of them was changed.
use Rattle.std.proofs.Common.{◌≡◌, ◌≢◌, ℕ, zero, suc, ◌+◌, ◌<◌, ◌≤◌, length, true, List, [], ◌∷◌, set, sym, ap, ◌∙◌, subst, ⊎_elim, arith, Option, Some, None}
use mathlib.Core.Logic.{dite}
use mathlib.Core.Option.{some, some-injective, some-ne-none}
use native.Mathlib.Decide.{ℕ_discrete}
use lib.ListN.{get_elem?}
use Rattle.atomic_table.proofs.Lists.{at_set, set_else}
use Rattle.history_lock.specs.declared.view.View.{View}
use Rattle.history_lock.specs.Rule.{ticket_of, one_of, count_tickets, has_turn, IsTaken}

-- a fact of each view stays, where it holds of the new one
pub each_set : {A : Type 0} (K : ℕ → A → Type 0) (vs : List A) (id : ℕ) (w : A) → K id w → ((j : ℕ) (u : A) → j ≢ id → get_elem? vs j ≡ some u → K j u)
    → (j : ℕ) (u : A) → get_elem? (set vs id w) j ≡ some u → K j u
each_set {A} K vs id w mine others j u e = ⊎_elim (λ (t : (j ≡ id) × (w ≡ u)). subst (λ (x : ℕ × A). K x.0 x.1) (λ i. (sym t.0 i, t.1 i)) mine)
    (λ (t : (j ≢ id) × (get_elem? vs j ≡ some u)). others j u t.0 t.1) (at_set vs id j w u e)

-- a fact of each two views stays, where it holds of the new one and each other, either way
pub pairs_set : {A : Type 0} (R : A → A → Type 0) (vs : List A) (id : ℕ) (w : A) → ((j : ℕ) (u : A) → j ≢ id → get_elem? vs j ≡ some u → R w u × R u w)
    → ((j k : ℕ) (u x : A) → j ≢ k → get_elem? vs j ≡ some u → get_elem? vs k ≡ some x → R u x)
    → (j k : ℕ) (u x : A) → j ≢ k → get_elem? (set vs id w) j ≡ some u → get_elem? (set vs id w) k ≡ some x → R u x
pairs_set {A} R vs id w beside old j k u x ne a b = ⊎_elim
    (λ (tj : (j ≡ id) × (w ≡ u)). ⊎_elim
    (λ (tk : (k ≡ id) × (w ≡ x)). absurd (ne (tj.0 ∙ sym tk.0)))
    (λ (tk : (k ≢ id) × (get_elem? vs k ≡ some x)). subst (λ (z : A). R z x) tj.1 (beside k x tk.0 tk.1).0)
    (at_set vs id k w x b))
    (λ (tj : (j ≢ id) × (get_elem? vs j ≡ some u)). ⊎_elim
    (λ (tk : (k ≡ id) × (w ≡ x)). subst (λ (z : A). R u z) tk.1 (beside j u tj.0 tj.1).1)
    (λ (tk : (k ≢ id) × (get_elem? vs k ≡ some x)). old j k u x ne tj.1 tk.1)
    (at_set vs id k w x b))
    (at_set vs id j w u a)

-- a place that has an element is in the list
pub is_inside : {A : Type 0} (vs : List A) (id : ℕ) (v : A) → get_elem? vs id ≡ some v → id < length vs
is_inside [] id v e = absurd (some-ne-none v (sym e))
is_inside (x ∷ xs) zero v e = omega arith
is_inside (x ∷ xs) (suc id) v e = let r = is_inside xs id v e in omega arith

one_at_most : (t : Option ℕ) → one_of t ≤ 1
one_at_most (Some t) = omega arith
one_at_most None = omega arith

module _ {E : Type 0} where
  -- no more tickets than views
  pub count_bound : (vs : List (View E)) → count_tickets vs ≤ length vs
  count_bound [] = omega arith
  count_bound (v ∷ vs) = let r = count_bound vs in let o = one_at_most (ticket_of v.stage) in omega arith

  -- the number of tickets changes by what the one view's does
  pub count_set : (vs : List (View E)) (id : ℕ) (v w : View E) → get_elem? vs id ≡ some v
      → count_tickets (set vs id w) + one_of (ticket_of v.stage) ≡ count_tickets vs + one_of (ticket_of w.stage)
  count_set [] id v w e = absurd (some-ne-none v (sym e))
  count_set (x ∷ xs) zero v w e = let q : one_of (ticket_of x.stage) ≡ one_of (ticket_of v.stage) = ap (λ (u : View E). one_of (ticket_of u.stage)) (some-injective x v e) in omega arith
  count_set (x ∷ xs) (suc id) v w e = let r = count_set xs id v w e in omega arith

  -- the turn stays taken, where the changed view hadn't it
  pub taken_stays : (vs : List (View E)) (id : ℕ) (v w : View E) → get_elem? vs id ≡ some v → has_turn v.stage ≢ true → IsTaken vs → IsTaken (set vs id w)
  taken_stays vs id v w at none t = dite (ℕ_discrete t.seat id)
      (λ same. absurd (none (ap (λ (u : View E). has_turn u.stage) (some-injective v t.view (sym at ∙ (ap (get_elem? vs) (sym same) ∙ t.sits))) ∙ t.takes)))
      (λ ne. record { seat = t.seat; view = t.view; sits = set_else vs id t.seat w ne ∙ t.sits; takes = t.takes })
