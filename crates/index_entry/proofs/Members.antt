-- What a list holds, and lists that are in strict order: what such a list holds determines it.
use Rattle.std.proofs.Common.{◌≡◌, zero, suc, Bool, true, false, true≢false, List, [], ◌∷◌, ◌++◌, ◌⊎◌, inl, inr, cond, refl, sym, ap, ◌∙◌, subst, arith}
use Rattle.std.specs.Prelude.{Contains, map, filter}
use Rattle.std.specs.declared.cmp.Ordering.{Ordering}
use Rattle.std.specs.declared.cmp.Ordering.TheVariants.{Less}
use Rattle.std.specs.Cmp.{IsTotalOrder}
use Rattle.std.specs.List.{AllByRecursion, flat_map}
use Rattle.std.specs.List.Sorted.{IsStrictlySortedBy}
use Rattle.std.proofs.lemmas.Cmp.{tied_itself}

-- x is an element
abbrev pub Among : {X : Type 0} → List X → X → Type 0
Among [] x = ⊥
Among (y ∷ ys) x = (y ≡ x) ⊎ Among ys x

module _ {X : Type 0} where
  pub among_from_contains : (xs : List X) (x : X) → Contains xs x → Among xs x
  among_from_contains [] x (k, within, is) = absurd (omega arith)
  among_from_contains (y ∷ ys) x (zero, within, is) = inl is
  among_from_contains (y ∷ ys) x (suc k, within, is) = inr (among_from_contains ys x (k, omega arith, is))

  pub contains_from_among : (xs : List X) (x : X) → Among xs x → Contains xs x
  contains_from_among [] x h = absurd h
  contains_from_among (y ∷ ys) x (inl is) = (0, omega arith, is)
  contains_from_among (y ∷ ys) x (inr among) = let at = contains_from_among ys x among in (suc at.0, omega (arith, at.1), at.2)

  pub Among-append : (xs ys : List X) (x : X) → Among (xs ++ ys) x → Among xs x ⊎ Among ys x
  Among-append [] ys x h = inr h
  Among-append (y ∷ xs) ys x (inl is) = inl (inl is)
  Among-append (y ∷ xs) ys x (inr h) = elim (Among-append xs ys x h) [ inl a ↦ inl (inr a) | inr b ↦ inr b ]

  pub Among-append_left : (xs ys : List X) (x : X) → Among xs x → Among (xs ++ ys) x
  Among-append_left [] ys x h = absurd h
  Among-append_left (y ∷ xs) ys x (inl is) = inl is
  Among-append_left (y ∷ xs) ys x (inr h) = inr (Among-append_left xs ys x h)

  pub Among-append_right : (xs ys : List X) (x : X) → Among ys x → Among (xs ++ ys) x
  Among-append_right [] ys x h = h
  Among-append_right (y ∷ xs) ys x h = inr (Among-append_right xs ys x h)

  pub all_among : (P : X → Type 0) (xs : List X) → AllByRecursion P xs → (x : X) → Among xs x → P x
  all_among P [] all x h = absurd h
  all_among P (y ∷ ys) all x (inl is) = subst P is all.0
  all_among P (y ∷ ys) all x (inr h) = all_among P ys all.1 x h

  pub all_from_among : (P : X → Type 0) (xs : List X) → ((x : X) → Among xs x → P x) → AllByRecursion P xs
  all_from_among P [] each = tt
  all_from_among P (y ∷ ys) each = (each y (inl refl), all_from_among P ys (λ x h. each x (inr h)))

  kept_head : (p : X → Bool) (b : Bool) (y : X) (ys : List X) (x : X) → p y ≡ b → (Among (filter p ys) x → Among ys x × (p x ≡ true)) → Among (cond b (y ∷ filter p ys) (filter p ys)) x → ((y ≡ x) ⊎ Among ys x) × (p x ≡ true)
  kept_head p true y ys x passes rest (inl is) = (inl is, sym (ap p is) ∙ passes)
  kept_head p true y ys x passes rest (inr h) = (inr (rest h).0, (rest h).1)
  kept_head p false y ys x passes rest h = (inr (rest h).0, (rest h).1)

  -- what a filter keeps
  pub Among-filter : (p : X → Bool) (xs : List X) (x : X) → Among (filter p xs) x → Among xs x × (p x ≡ true)
  Among-filter p [] x h = absurd h
  Among-filter p (y ∷ ys) x h = kept_head p (p y) y ys x refl (Among-filter p ys x) h

  keeps_head : (p : X → Bool) (b : Bool) (y : X) (ys : List X) (x : X) → p y ≡ b → p x ≡ true → (Among ys x → Among (filter p ys) x) → (y ≡ x) ⊎ Among ys x → Among (cond b (y ∷ filter p ys) (filter p ys)) x
  keeps_head p true y ys x is passes rest (inl same) = inl same
  keeps_head p true y ys x is passes rest (inr h) = inr (rest h)
  keeps_head p false y ys x is passes rest (inl same) = absurd (true≢false (sym passes ∙ sym (ap p same) ∙ is))
  keeps_head p false y ys x is passes rest (inr h) = rest h

  pub Among-filter_back : (p : X → Bool) (xs : List X) (x : X) → Among xs x → p x ≡ true → Among (filter p xs) x
  Among-filter_back p [] x h passes = h
  Among-filter_back p (y ∷ ys) x h passes = keeps_head p (p y) y ys x refl passes (λ a. Among-filter_back p ys x a passes) h

module _ {A X : Type 0} where
  pub Among-map : (f : A → X) (list : List A) (x : X) → Among (map f list) x → (a : A) × Among list a × (f a ≡ x)
  Among-map f [] x h = absurd h
  Among-map f (a ∷ rest) x (inl is) = (a, inl refl, is)
  Among-map f (a ∷ rest) x (inr h) = let more = Among-map f rest x h in (more.0, inr more.1, more.2)

  pub Among-map_back : (f : A → X) (list : List A) (a : A) → Among list a → Among (map f list) (f a)
  Among-map_back f [] a h = h
  Among-map_back f (b ∷ rest) a (inl is) = inl (ap f is)
  Among-map_back f (b ∷ rest) a (inr h) = inr (Among-map_back f rest a h)

  pub Among-flat_map : (f : A → List X) (list : List A) (x : X) → Among (flat_map f list) x → (a : A) × Among list a × Among (f a) x
  Among-flat_map f [] x h = absurd h
  Among-flat_map f (a ∷ rest) x h =
      elim (Among-append (f a) (flat_map f rest) x h) [ inl here ↦ (a, inl refl, here) | inr later ↦ let more = Among-flat_map f rest x later in (more.0, inr more.1, more.2) ]

  pub Among-flat_map_back : (f : A → List X) (list : List A) (a : A) (x : X) → Among list a → Among (f a) x → Among (flat_map f list) x
  Among-flat_map_back f [] a x h here = absurd h
  Among-flat_map_back f (b ∷ rest) a x (inl is) here = Among-append_left (f b) (flat_map f rest) x (subst (λ c. Among (f c) x) (sym is) here)
  Among-flat_map_back f (b ∷ rest) a x (inr h) here = Among-append_right (f b) (flat_map f rest) x (Among-flat_map_back f rest a x h here)

module _ {X : Type 0} (R : X → X → Ordering) (o : IsTotalOrder R) where
  pub not_below_itself : (x : X) → R x x ≡ Less → ⊥
  not_below_itself x below = let tied = tied_itself o x in cc

  pub not_both_below : (x y : X) → R x y ≡ Less → R y x ≡ Less → ⊥
  not_both_below x y a b = not_below_itself x (o.trans x y x a b)

  first_same : (x y : X) (xs ys : List X) → AllByRecursion (λ z. R x z ≡ Less) xs → AllByRecursion (λ z. R y z ≡ Less) ys → (y ≡ x) ⊎ Among ys x → (x ≡ y) ⊎ Among xs y → x ≡ y
  first_same x y xs ys below below₂ (inl is) back = sym is
  first_same x y xs ys below below₂ (inr a) (inl is) = is
  first_same x y xs ys below below₂ (inr a) (inr b) = absurd (not_both_below x y (all_among (λ z. R x z ≡ Less) xs below y b) (all_among (λ z. R y z ≡ Less) ys below₂ x a))

  in_rest : (x y z : X) (ys : List X) → x ≡ y → R x z ≡ Less → (y ≡ z) ⊎ Among ys z → Among ys z
  in_rest x y z ys same below (inl is) = absurd (not_below_itself x (subst (λ w. R x w ≡ Less) (sym (same ∙ is)) below))
  in_rest x y z ys same below (inr a) = a

  -- lists in strict order that hold the same are equal
  pub same_from_members : (xs ys : List X) → IsStrictlySortedBy R xs → IsStrictlySortedBy R ys → ((x : X) → Among xs x → Among ys x) → ((x : X) → Among ys x → Among xs x) → xs ≡ ys
  unfolding IsStrictlySortedBy
  same_from_members [] [] sx sy to back = refl
  same_from_members [] (y ∷ ys) sx sy to back = absurd (back y (inl refl))
  same_from_members (x ∷ xs) [] sx sy to back = absurd (to x (inl refl))
  same_from_members (x ∷ xs) (y ∷ ys) sx sy to back =
      let same = first_same x y xs ys sx.0 sy.0 (to x (inl refl)) (back y (inl refl)) in
      let rest = same_from_members xs ys sx.1 sy.1
      (λ z h. in_rest x y z ys same (all_among (λ w. R x w ≡ Less) xs sx.0 z h) (to z (inr h)))
      (λ z h. in_rest y x z xs (sym same) (all_among (λ w. R y w ≡ Less) ys sy.0 z h) (back z (inr h))) in
      λ i. same i ∷ rest i

  pub Sorted-append : (xs ys : List X) → IsStrictlySortedBy R xs → IsStrictlySortedBy R ys → ((x y : X) → Among xs x → Among ys y → R x y ≡ Less) → IsStrictlySortedBy R (xs ++ ys)
  unfolding IsStrictlySortedBy
  Sorted-append [] ys sx sy across = sy
  Sorted-append (x ∷ xs) ys sx sy across = (
    all_from_among (λ z. R x z ≡ Less) (xs ++ ys) (λ z h. elim (Among-append xs ys z h) [ inl a ↦ all_among (λ w. R x w ≡ Less) xs sx.0 z a | inr b ↦ across x z (inl refl) b ]),
    Sorted-append xs ys sx.1 sy (λ a b h h₂. across a b (inr h) h₂),
  )

  sorted_head : (p : X → Bool) (b : Bool) (x : X) (xs : List X) → AllByRecursion (λ z. R x z ≡ Less) xs → IsStrictlySortedBy R (filter p xs) → IsStrictlySortedBy R (cond b (x ∷ filter p xs) (filter p xs))
  unfolding IsStrictlySortedBy
  sorted_head p true x xs below sorted = (all_from_among (λ z. R x z ≡ Less) (filter p xs) (λ z h. all_among (λ w. R x w ≡ Less) xs below z (Among-filter p xs z h).0), sorted)
  sorted_head p false x xs below sorted = sorted

  pub Sorted-filter : (p : X → Bool) (xs : List X) → IsStrictlySortedBy R xs → IsStrictlySortedBy R (filter p xs)
  unfolding IsStrictlySortedBy
  Sorted-filter p [] sorted = sorted
  Sorted-filter p (x ∷ xs) sorted = sorted_head p (p x) x xs sorted.0 (Sorted-filter p xs sorted.1)
