-- The passes made so far.
use Rattle.std.proofs.Common.{◌≡◌, ℕ, zero, suc, ◌+◌, All, Option, Some, None, List, [], ◌∷◌, ◌++◌, length, slice_get, IfSome, sym, refl, ap, ◌∙◌, subst, arith, length-append}
use Rattle.history_lock.specs.Known.{LockId, Known, newcomer}

-- a fact of each element and its place stays, where it holds of one more at the end
get_end : {A : Type 0} (P : ℕ → A → Type 0) (xs : List A) (a : A) → ((k : ℕ) → IfSome (slice_get xs k) (P k)) → P (length xs) a → (k : ℕ) → IfSome (slice_get (xs ++ a ∷ []) k) (P k)
get_end P [] a each last zero = last
get_end P [] a each last (suc k) = tt
get_end P (x ∷ xs) a each last zero = each 0
get_end P (x ∷ xs) a each last (suc k) = get_end (λ i y. P (suc i) y) xs a (λ i. each (suc i)) last k

-- the passes up to this number were made, in order
pub record Made {E : Type 0} (lock : LockId) (first : List E) (passes number : ℕ) (items : List (Known E)) : Type 0 where
  pub count : length items + 1 ≡ number
  pub each : (k : ℕ) → IfSome (slice_get items k) (λ p. p ≡ newcomer lock passes (k + 1) first)

module _ {E : Type 0} (lock : LockId) (first : List E) (passes : ℕ) where
  pub none_made : (items : List (Known E)) → items ≡ [] → Made lock first passes 1 items
  none_made items none = subst (Made lock first passes 1) (sym none) (record { count = refl; each = λ k. tt })

  pub one_made : (number : ℕ) (items after : List (Known E)) (p : Known E) → Made lock first passes number items → p ≡ newcomer lock passes number first → after ≡ items ++ p ∷ [] → Made lock first passes (number + 1) after
  one_made number items after p m is more = subst (Made lock first passes (number + 1)) (sym more) (record {
    count = omega (arith, length-append items (p ∷ []), m.count);
    each = get_end (λ k q. q ≡ newcomer lock passes (k + 1) first) items p m.each (is ∙ ap (λ n. newcomer lock passes n first) (sym m.count));
  })

  lock_stands : (k : ℕ) (o : Option (Known E)) → IfSome o (λ p. p ≡ newcomer lock passes (k + 1) first) → IfSome o (λ p. p.lock ≡ lock)
  lock_stands k (Some p) is = ap (λ q. q.lock) is
  lock_stands k None is = tt

all_from_get : {A : Type 0} (P : A → Type 0) (xs : List A) → ((k : ℕ) → IfSome (slice_get xs k) P) → All P xs
all_from_get P [] each k d lt = absurd (omega arith)
all_from_get P (x ∷ xs) each zero d lt = each 0
all_from_get P (x ∷ xs) each (suc k) d lt = all_from_get P xs (λ i. each (suc i)) k d (omega arith)

-- the passes made are the lock's
pub of_lock : {E : Type 0} (lock : LockId) (first : List E) (passes : ℕ) (items : List (Known E)) → ((k : ℕ) → IfSome (slice_get items k) (λ p. p ≡ newcomer lock passes (k + 1) first)) → All (λ p. p.lock ≡ lock) items
of_lock lock first passes items each = all_from_get (λ p. p.lock ≡ lock) items (λ k. lock_stands lock first passes k (slice_get items k) (each k))
