-- The fronts of a path, by how many slashes they have.
use Rattle.std.proofs.Common.{◌≡◌, ℕ, zero, suc, ◌+◌, ◌<◌, ◌≤◌, true, false, cond, ◌==◌, List, [], ◌∷◌, ◌++◌, length, take, Option, Some, None, refl, sym, ap, subst, inl, inr, ◌⊎◌, arith}
use Rattle.std.specs.Prelude.{codes}
use Rattle.std.specs.List.{repeat}
use Rattle.std.proofs.lemmas.Bool.{cond-true, true≢false}
use Rattle.url.specs.Input.{rsplit_once, rsplit_step}
use Rattle.html_rewrite.specs.Bytes.{begins, slash}
use Rattle.html_rewrite.specs.steps.Paths.{slashes, front_with}

pub front_all : (n : ℕ) (p : List ℕ) → slashes p ≡ n → front_with n p ≡ p
front_all n [] e = refl
front_all zero (b ∷ p) e =
    elim (b == slash) as (λ v. cond v 1 0 + slashes p ≡ 0 → cond v [] (b ∷ front_with 0 p) ≡ b ∷ p)
    [ true ↦ λ h. absurd (omega (arith, h)) | false ↦ λ h. ap (λ t. b ∷ t) (front_all 0 p (omega (arith, h))) ] e
front_all (suc n) (b ∷ p) e =
    elim (b == slash) as (λ v. cond v 1 0 + slashes p ≡ suc n → cond v (b ∷ front_with n p) (b ∷ front_with (suc n) p) ≡ b ∷ p)
    [ true ↦ λ h. ap (λ t. b ∷ t) (front_all n p (omega (arith, h))) | false ↦ λ h. ap (λ t. b ∷ t) (front_all (suc n) p (omega (arith, h))) ] e

-- a path that begins with a slash has nothing before it
pub front_none : (p : List ℕ) → begins (λ b. b == slash) p ≡ true → front_with 0 p ≡ []
front_none [] e = refl
front_none (b ∷ p) e = cond-true _ _ _ e

-- it has a slash
pub some_slash : (p : List ℕ) → begins (λ b. b == slash) p ≡ true → 0 < slashes p
some_slash [] e = absurd (true≢false (sym e))
some_slash (b ∷ p) e = let one = cond-true {A = ℕ} (b == slash) 1 0 e in omega (arith, one)

front_free : (p : List ℕ) → (rsplit_once slash (front_with 0 p)).0 ≡ None
unfolding rsplit_once
front_free [] = refl
front_free (b ∷ p) =
    elim (b == slash) as (λ v. (b == slash) ≡ v → (rsplit_once slash (cond v [] (b ∷ front_with 0 p))).0 ≡ None)
    [ true ↦ λ h. refl | false ↦ λ h. free_step b (rsplit_once slash (front_with 0 p)).0 (rsplit_once slash (front_with 0 p)).1 h (front_free p) ] refl
  where
    free_step : (b : ℕ) (front : Option (List ℕ)) (back : List ℕ) → (b == slash) ≡ false → front ≡ None → (rsplit_step slash b front back).0 ≡ None
    free_step b None back h e = ap (λ v. (cond {A = Option (List ℕ) × List ℕ} v (Some [], back) (None, b ∷ back)).0) h
    free_step b (Some front) back h e = cc

-- one more byte before a text that has a slash
slash_step : (b : ℕ) (front : Option (List ℕ)) (back f : List ℕ) → front ≡ Some f → (rsplit_step slash b front back).0 ≡ Some (b ∷ f)
slash_step b (Some front) back f e = let same : front ≡ f = cc in ap (λ t. Some (b ∷ t)) same
slash_step b None back f e = cc

-- a slash before a text that has none
first_step : (b : ℕ) (front : Option (List ℕ)) (back : List ℕ) → (b == slash) ≡ true → front ≡ None → (rsplit_step slash b front back).0 ≡ Some []
first_step b None back h e = ap (λ v. (cond {A = Option (List ℕ) × List ℕ} v (Some [], back) (None, b ∷ back)).0) h
first_step b (Some front) back h e = cc

-- what stands before the last slash of a front is the front with one slash less
pub front_shorter : (n : ℕ) (p : List ℕ) → suc n ≤ slashes p → (rsplit_once slash (front_with (suc n) p)).0 ≡ Some (front_with n p)
unfolding rsplit_once
front_shorter n [] within = absurd (omega (arith, within))
front_shorter zero (b ∷ p) within =
    elim (b == slash) as (λ v. (b == slash) ≡ v → 1 ≤ cond v 1 0 + slashes p → (rsplit_once slash (cond v (b ∷ front_with 0 p) (b ∷ front_with 1 p))).0 ≡ Some (cond v [] (b ∷ front_with 0 p))) [
      | true ↦ λ h less. first_step b (rsplit_once slash (front_with 0 p)).0 (rsplit_once slash (front_with 0 p)).1 h (front_free p)
      | false ↦ λ h less. slash_step b (rsplit_once slash (front_with 1 p)).0 (rsplit_once slash (front_with 1 p)).1 (front_with 0 p) (front_shorter 0 p (omega (arith, less)))
    ] refl within
front_shorter (suc n) (b ∷ p) within =
    elim (b == slash) as (λ v. suc (suc n) ≤ cond v 1 0 + slashes p → (rsplit_once slash (cond v (b ∷ front_with (suc n) p) (b ∷ front_with (suc (suc n)) p))).0 ≡ Some (cond v (b ∷ front_with n p) (b ∷ front_with (suc n) p))) [
      | true ↦ λ less. slash_step b (rsplit_once slash (front_with (suc n) p)).0 (rsplit_once slash (front_with (suc n) p)).1 (front_with n p) (front_shorter n p (omega (arith, less)))
      | false ↦ λ less. slash_step b (rsplit_once slash (front_with (suc (suc n)) p)).0 (rsplit_once slash (front_with (suc (suc n)) p)).1 (front_with (suc n) p) (front_shorter (suc n) p (omega (arith, less)))
    ] within

-- a text that has a slash, behind another one
pub slash_behind : (x s f : List ℕ) → (rsplit_once slash s).0 ≡ Some f → (rsplit_once slash (x ++ s)).0 ≡ Some (x ++ f)
unfolding rsplit_once
slash_behind [] s f e = e
slash_behind (b ∷ x) s f e = slash_step b (rsplit_once slash (x ++ s)).0 (rsplit_once slash (x ++ s)).1 (x ++ f) (slash_behind x s f e)

-- nothing, or a text that begins with a slash
abbrev pub IsTail : List ℕ → Type 0
IsTail tail = (tail ≡ []) ⊎ ((rest : List ℕ) × (tail ≡ slash ∷ rest))

pub record TailFront (tail : List ℕ) : Type 0 where
  pub front : List ℕ
  pub is_tail : IsTail front
  pub before : (rsplit_once slash tail).0 ≡ Some front

pub tail_front : (rest : List ℕ) → TailFront (slash ∷ rest)
unfolding rsplit_once
tail_front rest = step (rsplit_once slash rest).0 refl
  where
    step : (front : Option (List ℕ)) → (rsplit_once slash rest).0 ≡ front → TailFront (slash ∷ rest)
    step (Some front) e = record { front = slash ∷ front; is_tail = inr (front, refl); before = slash_step slash (rsplit_once slash rest).0 (rsplit_once slash rest).1 front e }
    step None e = record { front = []; is_tail = inl refl; before = first_step slash (rsplit_once slash rest).0 (rsplit_once slash rest).1 refl e }

pub tail_with : (x y : List ℕ) → IsTail x → IsTail y → IsTail (x ++ y)
tail_with x y (inl none) h = subst (λ t. IsTail (t ++ y)) (sym none) h
tail_with x y (inr some) h = inr (some.0 ++ y, ap (λ t. t ++ y) some.1)

-- ---- segments that are all alike

pub slashes_bare : (n : ℕ) → slashes (repeat n (codes "/")) ≡ n
slashes_bare zero = refl
slashes_bare (suc n) = omega (arith, slashes_bare n)

pub slashes_lettered : (n : ℕ) → slashes (repeat n (codes "/a")) ≡ n
slashes_lettered zero = refl
slashes_lettered (suc n) = omega (arith, slashes_lettered n)

pub length_bare : (k n : ℕ) → k ≤ n → length (front_with k (repeat n (codes "/"))) ≡ k
length_bare k zero within = omega (arith, within)
length_bare zero (suc n) within = refl
length_bare (suc k) (suc n) within = ap suc (length_bare k n (omega (arith, within)))

pub length_lettered : (k n : ℕ) → k ≤ n → length (front_with k (repeat n (codes "/a"))) ≡ k + k
length_lettered k zero within = omega (arith, within)
length_lettered zero (suc n) within = refl
length_lettered (suc k) (suc n) within = omega (arith, inner k n within, length_lettered k n (omega (arith, within)))
  where
    inner : (k n : ℕ) → suc k ≤ suc n → length (front_with (suc k) (repeat (suc n) (codes "/a"))) ≡ suc (suc (length (front_with k (repeat n (codes "/a")))))
    inner zero n within = refl
    inner (suc k) n within = refl

-- the length of a front takes the front
pub take_front : (n : ℕ) (p : List ℕ) → take (length (front_with n p)) p ≡ front_with n p
take_front n [] = refl
take_front zero (b ∷ p) =
    elim (b == slash) as (λ v. take (length (cond v [] (b ∷ front_with 0 p))) (b ∷ p) ≡ cond v [] (b ∷ front_with 0 p))
    [ true ↦ refl | false ↦ ap (λ t. b ∷ t) (take_front 0 p) ]
take_front (suc n) (b ∷ p) =
    elim (b == slash) as (λ v. take (length (cond v (b ∷ front_with n p) (b ∷ front_with (suc n) p))) (b ∷ p) ≡ cond v (b ∷ front_with n p) (b ∷ front_with (suc n) p))
    [ true ↦ ap (λ t. b ∷ t) (take_front n p) | false ↦ ap (λ t. b ∷ t) (take_front (suc n) p) ]
