-- Two beginnings of one list.
use Rattle.std.proofs.Common.{◌≡◌, ◌≤◌, List, [], ◌∷◌, ◌++◌, length, drop, get_or, sym, refl, ap, arith}
use Rattle.history_lock.specs.Seen.{All}

-- the shorter begins the longer, and what is behind it begins with what lies between
pub between : {A : Type 0} (ys xs ry rx : List A) → ys ++ ry ≡ xs ++ rx → length ys ≤ length xs → (mid : List A) × (xs ≡ ys ++ mid) × (ry ≡ mid ++ rx)
between [] xs ry rx e l = (xs, refl, e)
between (y ∷ ys) [] ry rx e l = absurd (omega arith)
between {A} (y ∷ ys) (x ∷ xs) ry rx e l =
    let r = between ys xs ry rx (ap (λ (zs : List A). drop 1 zs) e) (omega arith) in
    let h : x ≡ y = sym (ap (λ (zs : List A). get_or zs 0 y) e) in (r.0, (λ i. h i ∷ r.1 i), r.2)

-- a fact of each of two lists' elements holds of the first's
pub all_front : {A : Type 0} (P : A → Type 0) (xs ys : List A) → All P (xs ++ ys) → All P xs
all_front P [] ys a = tt
all_front P (x ∷ xs) ys a = (a.0, all_front P xs ys a.1)

-- and of the second's
pub all_back : {A : Type 0} (P : A → Type 0) (xs ys : List A) → All P (xs ++ ys) → All P ys
all_back P [] ys a = a
all_back P (x ∷ xs) ys a = all_back P xs ys a.1
