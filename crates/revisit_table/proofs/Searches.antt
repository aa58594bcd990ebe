-- What a binary search of a list that rises finds.
use Rattle.std.proofs.Common.{◌≡◌, ℕ, ◌<◌, ◌≤◌, ◌-◌, zero, suc, true, false, not, List, [], ◌∷◌, map, take, drop, length, get_or, Result, Ok, Err, refl, sym, ◌∙◌, arith, add-one, inl, inr}
use Rattle.std.specs.Prelude.{◌==◌, nat_le, nat_lt, filter, MatchResult, IfSome, IfNone}
use Rattle.std.specs.Result.{result_ok}
use Rattle.std.specs.List.{AllWithin, remove}
use Rattle.std.specs.List.Sorted.{IsStrictlyIncreasing, IsBinarySearchResult, IsSearchInRange, IsSortedBy, IsNonDecreasingBy}
use Rattle.std.specs.Ordering.{nat_cmp, is_lt}
use Rattle.std.specs.Cmp.{nat_cmp_total}
use Rattle.std.specs.declared.cmp.Ordering.TheVariants.{Less, Equal, Greater}
use Rattle.std.proofs.lemmas.Bool.{cases_lt}
use Rattle.std.proofs.lemmas.Bool.Decides.{nat_tests}
use Rattle.std.proofs.lemmas.List.{map-id, get_or-map, length-map, length-drop, take_all}
use Rattle.std.proofs.lemmas.List.Elements.{recursion_from_All}
use Rattle.std.proofs.lemmas.List.Sorted.{searchable_from_sorted}
use Rattle.std.proofs.lemmas.Map.Keys.{sorted_from_strictly_increasing, non_decreasing_from_sorted}
use Rattle.revisit_table.proofs.Rising.{filter_all, remove_is_filter}

module _ {X : Type 0} (key : X → ℕ) where
  -- neighbours don't fall
  neighbours : (xs : List X) → IsStrictlyIncreasing (map key xs) → IsSortedBy (λ a b. is_lt (nat_cmp (key a) (key b))) xs
  neighbours xs rising k d least below =
      let now = get_or-map key xs k d 0 (omega arith) in
      let next = get_or-map key xs (suc k) d 0 (omega arith) in
      let count = length-map xs key in
      let rises = rising k (omega arith) in
      let up : key (get_or xs k d) < key (get_or xs (suc k) d) = grind arith in
      rw add-one (not_above (key (get_or xs k d)) (key (get_or xs (suc k) d)) up)
    where
      not_above : (m n : ℕ) → m < n → is_lt (nat_cmp n m) ≡ false
      not_above m n below = grind (arith, nat_tests)

  same_from_equal : (m n : ℕ) → nat_cmp m n ≡ Equal → m ≡ n
  same_from_equal m n equal = grind (arith, nat_tests)

  passes_from_less : (m n : ℕ) → nat_cmp m n ≡ Less → not (m == n) ≡ true
  passes_from_less m n less = grind (arith, nat_tests)

  passes_from_greater : (m n : ℕ) → nat_cmp m n ≡ Greater → not (m == n) ≡ true
  passes_from_greater m n greater = grind (arith, nat_tests)

  passes_at : (m n k i : ℕ) → (k < i → nat_cmp m n ≡ Less) → (i ≤ k → nat_cmp m n ≡ Greater) → not (m == n) ≡ true
  passes_at m n k i before after =
      elim (cases_lt k i) [ inl below ↦ passes_from_less m n (before below) | inr above ↦ passes_from_greater m n (after above) ]

  -- a search for a number finds what a filter takes out
  pub search_is_filter : (xs : List X) (n : ℕ) (r : Result ℕ ℕ) → IsStrictlyIncreasing (map key xs) → IsSearchInRange r (length xs) → IsBinarySearchResult (λ x. nat_cmp (key x) n) xs r → MatchResult r (λ i. filter (λ x. not (key x == n)) xs ≡ remove xs i) (λ _. filter (λ x. not (key x == n)) xs ≡ xs)
  search_is_filter [] n (Ok i) rising within found = absurd (omega arith)
  search_is_filter [] n (Err i) rising within found = refl
  search_is_filter (x ∷ xs) n (Ok i) rising within found =
      sym (remove_is_filter key (x ∷ xs) i n x rising within (same_from_equal _ n (found x)))
  search_is_filter (x ∷ xs) n (Err i) rising within found =
      let parts = found (searchable_from_sorted nat_cmp_total key (x ∷ xs) n (neighbours (x ∷ xs) rising)) in
      filter_all (λ y. not (key y == n)) (x ∷ xs) (recursion_from_All (λ y. not (key y == n) ≡ true) (x ∷ xs)
      (λ k d below. passes_at (key (get_or (x ∷ xs) k d)) n k i (λ before. parts.0 k d (omega arith) before) (λ after. parts.1 k d after below)))

-- what stands from the first number that is at least `least` is what a filter keeps
pub drop_is_filter : (xs : List ℕ) (i least : ℕ) → i ≤ length xs → AllWithin (λ x. nat_lt x least ≡ true) xs 0 i → AllWithin (λ x. nat_lt x least ≡ false) xs i (length xs) → drop i xs ≡ filter (λ x. nat_le least x) xs
drop_is_filter [] zero least within before after = refl
drop_is_filter [] (suc i) least within before after = absurd (omega arith)
drop_is_filter (x ∷ xs) zero least within before after =
    sym (filter_all (λ x. nat_le least x) (x ∷ xs) (recursion_from_All (λ x. nat_le least x ≡ true) (x ∷ xs) (λ k d below. at_least (get_or (x ∷ xs) k d) least (after k d (omega arith) below))))
  where
    at_least : (x least : ℕ) → nat_lt x least ≡ false → nat_le least x ≡ true
    at_least x least h = grind (arith, nat_tests)
drop_is_filter (x ∷ xs) (suc i) least within before after =
    let first = below (x) least (before 0 x (omega arith) (omega arith)) in
    rw first (drop_is_filter xs i least (omega arith) (λ k d low high. before (suc k) d (omega arith) (omega arith)) (λ k d low high. after (suc k) d (omega arith) (omega arith)))
  where
    below : (x least : ℕ) → nat_lt x least ≡ true → nat_le least x ≡ false
    below x least h = grind (arith, nat_tests)

-- the same, as the rest of a slice
pub rest_is_filter : (xs : List ℕ) (i least : ℕ) → i ≤ length xs → AllWithin (λ x. nat_lt x least ≡ true) xs 0 i → AllWithin (λ x. nat_lt x least ≡ false) xs i (length xs) → take (length xs - i) (drop i xs) ≡ filter (λ x. nat_le least x) xs
rest_is_filter xs i least within before after =
    let count = length-drop i xs in
    take_all (length xs - i) (drop i xs) (omega arith) ∙ drop_is_filter xs i least within before after

-- numbers that rise don't fall
pub non_decreasing : (xs : List ℕ) → IsStrictlyIncreasing xs → IsNonDecreasingBy (λ x. x) xs
non_decreasing xs rising = non_decreasing_from_sorted xs (sorted_from_strictly_increasing xs rising)

-- a search for a number in a list of numbers finds what a filter takes out
pub number_search_is_filter : (xs : List ℕ) (n : ℕ) (r : Result ℕ ℕ) → IsStrictlyIncreasing xs → IsSearchInRange r (length xs) → IsBinarySearchResult (λ x. nat_cmp x n) xs r → MatchResult r (λ i. filter (λ x. not (x == n)) xs ≡ remove xs i) (λ _. filter (λ x. not (x == n)) xs ≡ xs)
number_search_is_filter xs n r rising within found = search_is_filter (λ x. x) xs n r (rw (map-id xs) rising) within found

-- what a search says where its result is taken as an option
pub found_from_search : (r : Result ℕ ℕ) (P : ℕ → Type 0) (Q : Type 0) → MatchResult r P (λ _. Q) → IfSome (result_ok r) P
found_from_search (Ok i) P Q h = h
found_from_search (Err i) P Q h = tt

pub absent_from_search : (r : Result ℕ ℕ) (P : ℕ → Type 0) (Q : Type 0) → MatchResult r P (λ _. Q) → IfNone (result_ok r) Q
absent_from_search (Ok i) P Q h = tt
absent_from_search (Err i) P Q h = h
