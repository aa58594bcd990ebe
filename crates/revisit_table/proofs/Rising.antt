-- Lists whose numbers rise strictly: what a filter, a push and a search of them give.
use Rattle.std.proofs.Common.{◌≡◌, ℕ, ◌<◌, zero, suc, Bool, true, false, not, cond, List, [], ◌∷◌, ◌++◌, map, length, get_or, refl, sym, ap, arith}
use Rattle.std.specs.Prelude.{◌==◌, All, filter}
use Rattle.std.specs.List.{AllByRecursion, remove}
use Rattle.std.specs.List.Sorted.{IsStrictlyIncreasing, IsStrictlySortedBy}
use Rattle.std.specs.Ordering.{nat_cmp}
use Rattle.std.specs.declared.cmp.Ordering.TheVariants.{Less}
use Rattle.std.proofs.lemmas.Bool.Decides.{nat_tests}
use Rattle.std.proofs.lemmas.List.Elements.{All-from_recursion}
use Rattle.std.proofs.lemmas.Map.Keys.{sorted_from_strictly_increasing, IsStrictlyIncreasing-from_sorted}

-- what holds of both sides holds of the one that is chosen
either : {X : Type 0} (P : X → Type 0) (b : Bool) (x y : X) → P x → P y → P (cond b x y)
either P true x y h g = h
either P false x y h g = g

below_from_less : (m n : ℕ) → nat_cmp m n ≡ Less → m < n
below_from_less m n less = grind (arith, nat_tests)

less_from_below : (m n : ℕ) → m < n → nat_cmp m n ≡ Less
less_from_below m n below = grind (arith, nat_tests)

module _ {X : Type 0} where
  -- a filter that each element passes changes nothing
  pub filter_all : (p : X → Bool) (xs : List X) → AllByRecursion (λ x. p x ≡ true) xs → filter p xs ≡ xs
  filter_all p [] passes = refl
  filter_all p (x ∷ xs) passes = rw passes.0 (ap (λ l. x ∷ l) (filter_all p xs passes.1))

  -- a removed element that doesn't pass a filter isn't missed
  pub filter-remove : (p : X → Bool) (xs : List X) (i : ℕ) (d : X) → p (get_or xs i d) ≡ false → i < length xs → filter p (remove xs i) ≡ filter p xs
  filter-remove p [] i d fails within = absurd (omega arith)
  filter-remove p (x ∷ xs) zero d fails within = rw fails refl
  filter-remove p (x ∷ xs) (suc i) d fails within =
      let others = filter-remove p xs i d fails (omega arith) in
      λ j. cond (p x) (x ∷ others j) (others j)

module _ {X : Type 0} (key : X → ℕ) where
  -- each key is below all later ones
  abbrev Rise : List X → Type 0
  Rise [] = Unit {0}
  Rise (x ∷ xs) = AllByRecursion (λ y. key x < key y) xs × Rise xs

  below_from_keys : (n : ℕ) (xs : List X) → AllByRecursion (λ k. nat_cmp n k ≡ Less) (map key xs) → AllByRecursion (λ y. n < key y) xs
  below_from_keys n [] h = tt
  below_from_keys n (x ∷ xs) h = (below_from_less n (key x) h.0, below_from_keys n xs h.1)

  keys_from_below : (n : ℕ) (xs : List X) → AllByRecursion (λ y. n < key y) xs → AllByRecursion (λ k. nat_cmp n k ≡ Less) (map key xs)
  keys_from_below n [] h = tt
  keys_from_below n (x ∷ xs) h = (less_from_below n (key x) h.0, keys_from_below n xs h.1)

  rise_from_sorted : (xs : List X) → IsStrictlySortedBy nat_cmp (map key xs) → Rise xs
  unfolding IsStrictlySortedBy
  rise_from_sorted [] h = tt
  rise_from_sorted (x ∷ xs) h = (below_from_keys (key x) xs h.0, rise_from_sorted xs h.1)

  sorted_from_rise : (xs : List X) → Rise xs → IsStrictlySortedBy nat_cmp (map key xs)
  unfolding IsStrictlySortedBy
  sorted_from_rise [] h = tt
  sorted_from_rise (x ∷ xs) h = (keys_from_below (key x) xs h.0, sorted_from_rise xs h.1)

  rise_from_increasing : (xs : List X) → IsStrictlyIncreasing (map key xs) → Rise xs
  rise_from_increasing xs h = rise_from_sorted xs (sorted_from_strictly_increasing (map key xs) h)

  increasing_from_rise : (xs : List X) → Rise xs → IsStrictlyIncreasing (map key xs)
  increasing_from_rise xs h = IsStrictlyIncreasing-from_sorted (map key xs) (sorted_from_rise xs h)

  below-filter : (n : ℕ) (p : X → Bool) (xs : List X) → AllByRecursion (λ y. n < key y) xs → AllByRecursion (λ y. n < key y) (filter p xs)
  below-filter n p [] h = tt
  below-filter n p (x ∷ xs) h =
      let others = below-filter n p xs h.1 in
      either (AllByRecursion (λ y. n < key y)) (p x) (x ∷ filter p xs) (filter p xs) (h.0, others) others

  rise-filter : (p : X → Bool) (xs : List X) → Rise xs → Rise (filter p xs)
  rise-filter p [] h = tt
  rise-filter p (x ∷ xs) h =
      let others = rise-filter p xs h.1 in
      either Rise (p x) (x ∷ filter p xs) (filter p xs) (below-filter (key x) p xs h.0, others) others

  -- the keys of what passes a filter rise
  pub increasing-filter : (p : X → Bool) (xs : List X) → IsStrictlyIncreasing (map key xs) → IsStrictlyIncreasing (map key (filter p xs))
  increasing-filter p xs h = increasing_from_rise (filter p xs) (rise-filter p xs (rise_from_increasing xs h))

  below-push : (n : ℕ) (xs : List X) (y : X) → AllByRecursion (λ x. n < key x) xs → n < key y → AllByRecursion (λ x. n < key x) (xs ++ y ∷ [])
  below-push n [] y h last = (last, tt)
  below-push n (x ∷ xs) y h last = (h.0, below-push n xs y h.1 last)

  rise-push : (xs : List X) (y : X) → Rise xs → AllByRecursion (λ x. key x < key y) xs → Rise (xs ++ y ∷ [])
  rise-push [] y h last = (tt, tt)
  rise-push (x ∷ xs) y h last = (below-push (key x) xs y h.0 last.0, rise-push xs y h.1 last.1)

  -- the keys rise on with one that is above all
  pub increasing-push : (xs : List X) (y : X) → IsStrictlyIncreasing (map key xs) → AllByRecursion (λ x. key x < key y) xs → IsStrictlyIncreasing (map key (xs ++ y ∷ []))
  increasing-push xs y h last = increasing_from_rise (xs ++ y ∷ []) (rise-push xs y (rise_from_increasing xs h) last)

  below_at : (n : ℕ) (xs : List X) (i : ℕ) (d : X) → AllByRecursion (λ y. n < key y) xs → i < length xs → n < key (get_or xs i d)
  below_at n [] i d h within = absurd (omega arith)
  below_at n (x ∷ xs) zero d h within = h.0
  below_at n (x ∷ xs) (suc i) d h within = below_at n xs i d h.1 (omega arith)

  others_pass : (n : ℕ) (xs : List X) → AllByRecursion (λ y. n < key y) xs → AllByRecursion (λ x. not (key x == n) ≡ true) xs
  others_pass n [] h = tt
  others_pass n (x ∷ xs) h = (other_passes (key x) n h.0, others_pass n xs h.1)
    where
      other_passes : (k n : ℕ) → n < k → not (k == n) ≡ true
      other_passes k n below = grind (arith, nat_tests)

  removed_rise : (xs : List X) (i n : ℕ) (d : X) → Rise xs → i < length xs → key (get_or xs i d) ≡ n → remove xs i ≡ filter (λ x. not (key x == n)) xs
  removed_rise [] i n d h within same = absurd (omega arith)
  removed_rise (x ∷ xs) zero n d h within same =
      let others = filter_all (λ y. not (key y == n)) xs (others_pass n xs (rw (sym same) h.0)) in
      let first = fails (key x) n same in
      rw first (sym others)
    where
      fails : (k n : ℕ) → k ≡ n → not (k == n) ≡ false
      fails k n same = grind (arith, nat_tests)
  removed_rise (x ∷ xs) (suc i) n d h within same =
      let others = removed_rise xs i n d h.1 (omega arith) same in
      let first = passes (key x) n (rw (sym same) (below_at (key x) xs i d h.0 (omega arith))) in
      rw first (ap (λ l. x ∷ l) others)
    where
      passes : (k n : ℕ) → k < n → not (k == n) ≡ true
      passes k n below = grind (arith, nat_tests)

  -- where a key stands, its removal is a filter
  pub remove_is_filter : (xs : List X) (i n : ℕ) (d : X) → IsStrictlyIncreasing (map key xs) → i < length xs → key (get_or xs i d) ≡ n → remove xs i ≡ filter (λ x. not (key x == n)) xs
  remove_is_filter xs i n d h within same = removed_rise xs i n d (rise_from_increasing xs h) within same

  all_front : (P : X → Type 0) (xs ys : List X) → AllByRecursion P (xs ++ ys) → AllByRecursion P xs
  all_front P [] ys h = tt
  all_front P (x ∷ xs) ys h = (h.0, all_front P xs ys h.1)

  rise-front : (xs ys : List X) → Rise (xs ++ ys) → Rise xs
  rise-front [] ys h = tt
  rise-front (x ∷ xs) ys h = (all_front (λ y. key x < key y) xs ys h.0, rise-front xs ys h.1)

  -- the keys of a front rise
  pub increasing-front : (xs ys : List X) → IsStrictlyIncreasing (map key (xs ++ ys)) → IsStrictlyIncreasing (map key xs)
  increasing-front xs ys h = increasing_from_rise xs (rise-front xs ys (rise_from_increasing (xs ++ ys) h))

  below_middle : (n : ℕ) (xs : List X) (y : X) (ys : List X) → AllByRecursion (λ x. n < key x) (xs ++ y ∷ ys) → n < key y
  below_middle n [] y ys h = h.0
  below_middle n (x ∷ xs) y ys h = below_middle n xs y ys h.1

  front_below : (xs : List X) (y : X) (ys : List X) → Rise (xs ++ y ∷ ys) → AllByRecursion (λ x. key x < key y) xs
  front_below [] y ys h = tt
  front_below (x ∷ xs) y ys h = (below_middle (key x) xs y ys h.0, front_below xs y ys h.1)

  -- the keys before one that rises with them are below it
  pub below_next : (xs : List X) (y : X) (ys : List X) → IsStrictlyIncreasing (map key (xs ++ y ∷ ys)) → All (λ x. key x < key y) xs
  below_next xs y ys h = All-from_recursion (λ x. key x < key y) xs (front_below xs y ys (rise_from_increasing (xs ++ y ∷ ys) h))
