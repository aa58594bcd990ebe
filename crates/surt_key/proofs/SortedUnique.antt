-- A list has one arrangement in the order of bytes: what a sort gives is `sorted` of what it was given.
use Rattle.std.proofs.Common.{◌≡◌, ℕ, ◌+◌, Bool, true, false, List, [], ◌∷◌, map, cond, refl, sym, ap, ◌∙◌, arith, Bor, true≢false, Ordering, Less, Equal, Greater, get_or, add-one}
use Rattle.std.specs.Cmp.Lexicographic.{slice_cmp, nat_list_cmp_total}
use Rattle.std.specs.List.{sum_by}
use Rattle.std.specs.List.Sorted.{IsPermutation, IsSorted}
use Rattle.std.specs.Ordering.{nat_cmp, is_le, is_lt, is_gt, ordering_reverse}
use Rattle.std.proofs.lemmas.Cmp.{upto}
use Rattle.std.proofs.lemmas.List.Sorted.{sum_by-IsPermutation, IsPermutation-map}
use Rattle.std.proofs.lemmas.List.Sums.{sum_by-cons}
use Rattle.std.proofs.lemmas.Map.Lookups.{exact_bytes}
use Rattle.surt_key.specs.Sorted.{insert_in_order, sorted}

abbrev Text : Type 0
Text = List ℕ

abbrev le : Text → Text → Bool
le x y = is_le (slice_cmp nat_cmp x y)

-- ---- the order

by_bool : (P : Bool → Type 0) (b : Bool) → (b ≡ true → P true) → (b ≡ false → P false) → P b
by_bool P true f g = f refl
by_bool P false f g = g refl

le_of : (o : Ordering) → is_gt o ≡ false → is_le o ≡ true
le_of Less h = refl
le_of Equal h = refl
le_of Greater h = absurd (cc)

not_gt_of : (o : Ordering) → is_le o ≡ true → is_gt o ≡ false
not_gt_of Less h = refl
not_gt_of Equal h = refl
not_gt_of Greater h = absurd (cc)

reversed_le : (o : Ordering) → is_lt o ≡ false → is_le (ordering_reverse o) ≡ true
reversed_le Less h = absurd (cc)
reversed_le Equal h = refl
reversed_le Greater h = refl

reversed_not_le : (o : Ordering) → is_le o ≡ false → is_le (ordering_reverse o) ≡ true
reversed_not_le Less h = absurd (cc)
reversed_not_le Equal h = absurd (cc)
reversed_not_le Greater h = refl

equal_of : (o : Ordering) → is_le o ≡ true → is_le (ordering_reverse o) ≡ true → o ≡ Equal
equal_of Less h g = absurd (cc)
equal_of Equal h g = refl
equal_of Greater h g = absurd (cc)

flipped : (x y : Text) → slice_cmp nat_cmp y x ≡ ordering_reverse (slice_cmp nat_cmp x y)
flipped x y = nat_list_cmp_total.antisymm y x

le_trans : (x y z : Text) → le x y ≡ true → le y z ≡ true → le x z ≡ true
le_trans x y z h g = le_of _ (upto nat_list_cmp_total x y z (not_gt_of _ h) (not_gt_of _ g))

le_total : (x y : Text) → le x y ≡ false → le y x ≡ true
le_total x y h = ap is_le (flipped x y) ∙ reversed_not_le _ h

le_from_lt : (x y : Text) → is_lt (slice_cmp nat_cmp y x) ≡ false → le x y ≡ true
le_from_lt x y h = ap is_le (flipped y x) ∙ reversed_le _ h

le_refl : (x : Text) → le x x ≡ true
le_refl x = by_bool (λ b. b ≡ true) (le x x) (λ h. refl) (λ h. absurd (true≢false (sym (le_total x x h) ∙ h)))

le_antisym : (x y : Text) → le x y ≡ true → le y x ≡ true → x ≡ y
le_antisym x y h g = exact_bytes x y (equal_of _ h (sym (ap is_le (flipped x y)) ∙ g))

-- ---- lists in order

abbrev Above : Text → List Text → Type 0
Above x [] = Unit {0}
Above x (y ∷ ys) = (le x y ≡ true) × Above x ys

abbrev Ascends : List Text → Type 0
Ascends [] = Unit {0}
Ascends (x ∷ xs) = Above x xs × Ascends xs

above_trans : (x y : Text) (ys : List Text) → le x y ≡ true → Above y ys → Above x ys
above_trans x y [] h a = tt
above_trans x y (z ∷ zs) h a = (le_trans x y z h a.0, above_trans x y zs h a.1)

above-insert : (w x : Text) (ys : List Text) → le w x ≡ true → Above w ys → Above w (insert_in_order x ys)
above-insert w x [] h a = (h, tt)
above-insert w x (y ∷ ys) h a =
    by_bool (λ b. Above w (cond b (x ∷ y ∷ ys) (y ∷ insert_in_order x ys))) (le x y) (λ e. (h, a)) (λ e. (a.0, above-insert w x ys h a.1))

ascends-insert : (x : Text) (ys : List Text) → Ascends ys → Ascends (insert_in_order x ys)
ascends-insert x [] a = (tt, tt)
ascends-insert x (y ∷ ys) a =
    by_bool (λ b. Ascends (cond b (x ∷ y ∷ ys) (y ∷ insert_in_order x ys))) (le x y)
    (λ e. ((e, above_trans x y ys e a.0), a))
    (λ e. (above-insert y x ys (le_total x y e) a.0, ascends-insert x ys a.1))

ascends-sorted : (xs : List Text) → Ascends (sorted xs)
ascends-sorted [] = tt
ascends-sorted (x ∷ xs) = ascends-insert x (sorted xs) (ascends-sorted xs)

-- ---- how many texts are at most t

abbrev at_most : Text → Text → ℕ
at_most t x = cond (le x t) 1 0

abbrev count : Text → List Text → ℕ
count t [] = 0
count t (x ∷ xs) = at_most t x + count t xs

count-insert : (t x : Text) (ys : List Text) → count t (insert_in_order x ys) ≡ at_most t x + count t ys
count-insert t x [] = refl
count-insert t x (y ∷ ys) =
    by_bool (λ b. count t (cond b (x ∷ y ∷ ys) (y ∷ insert_in_order x ys)) ≡ at_most t x + (at_most t y + count t ys)) (le x y) (λ e. refl)
    (λ e. let rest = count-insert t x ys in omega (arith, rest))

count-sorted : (t : Text) (xs : List Text) → count t (sorted xs) ≡ count t xs
count-sorted t [] = refl
count-sorted t (x ∷ xs) = count-insert t x (sorted xs) ∙ ap (λ n. at_most t x + n) (count-sorted t xs)

count-sum_by : (t : Text) (xs : List Text) → sum_by (at_most t) xs ≡ count t xs
count-sum_by t [] = refl
count-sum_by t (x ∷ xs) = sum_by-cons (at_most t) x xs ∙ ap (λ n. at_most t x + n) (count-sum_by t xs)

count_none : (t x : Text) (xs : List Text) → le x t ≡ false → Above x xs → count t xs ≡ 0
count_none t x [] h a = refl
count_none t x (y ∷ ys) h a =
    by_bool (λ b. cond b 1 0 + count t ys ≡ 0) (le y t) (λ e. absurd (true≢false (sym (le_trans x y t a.0 e) ∙ h))) (λ e. let rest = count_none t x ys h a.1 in omega (arith, rest))

one_more : (n : ℕ) → 1 + n ≡ 0 → ⊥
one_more n h = omega (arith, h)

cancel : (a m n : ℕ) → a + m ≡ a + n → m ≡ n
cancel a m n h = omega (arith, h)

-- the first text of one list is at most that of the other
first_le : (x : Text) (xs : List Text) (y : Text) (ys : List Text) → Above x xs → count y (x ∷ xs) ≡ count y (y ∷ ys) → le x y ≡ true
first_le x xs y ys a same =
    by_bool (λ b. b ≡ true) (le x y) (λ e. refl)
    (λ e. absurd (one_more (count y ys)
    (sym (ap (λ b. cond b 1 0 + count y ys) (le_refl y)) ∙ sym same ∙ count_none y x (x ∷ xs) e (le_refl x, a))))

-- lists in order with the same counts are the same
same_from_counts : (xs ys : List Text) → Ascends xs → Ascends ys → ((t : Text) → count t xs ≡ count t ys) → xs ≡ ys
same_from_counts [] [] a b same = refl
same_from_counts [] (y ∷ ys) a b same = absurd (one_more (count y ys) (sym (ap (λ b. cond b 1 0 + count y ys) (le_refl y)) ∙ sym (same y)))
same_from_counts (x ∷ xs) [] a b same = absurd (one_more (count x xs) (sym (ap (λ b. cond b 1 0 + count x xs) (le_refl x)) ∙ same x))
same_from_counts (x ∷ xs) (y ∷ ys) a b same =
    let first = le_antisym x y (first_le x xs y ys a.0 (same y)) (first_le y ys x xs b.0 (sym (same x))) in
    let rest = same_from_counts xs ys a.1 b.1 (λ t. cancel (at_most t x) _ _ (same t ∙ ap (λ z. at_most t z + count t ys) (sym first))) in
    λ i. first i ∷ rest i

-- ---- what a sort says

-- the order of what the references point to
abbrev pub ref_cmp : Bor Text → Bor Text → Ordering
ref_cmp x y = slice_cmp nat_cmp x.now y.now

get_or-next : (x : Bor Text) (xs : List (Bor Text)) (n : ℕ) (d : Bor Text) → get_or (x ∷ xs) (n + 1) d ≡ get_or xs n d
get_or-next x xs n d = ap (λ m. get_or (x ∷ xs) m d) (add-one n)

ascends_from_sorted : (xs : List (Bor Text)) → IsSorted ref_cmp xs → Ascends (map (λ x. x.now) xs)
ascends_from_sorted [] h = tt
ascends_from_sorted (x ∷ []) h = (tt, tt)
ascends_from_sorted (x ∷ y ∷ ys) h =
    let tail : IsSorted ref_cmp (y ∷ ys) =
    λ k d low high.
    (λ i. is_lt (ref_cmp (sym (get_or-next x (y ∷ ys) (k + 1) d) i) (sym (get_or-next x (y ∷ ys) k d) i)))
    ∙ h (k + 1) d (omega arith) (omega (arith, high)) in
    let rest = ascends_from_sorted (y ∷ ys) tail in
    let first = le_from_lt x.now y.now (h 0 x (omega arith) (omega arith)) in
    ((first, above_trans x.now y.now _ first rest.0), rest)

pub sorted_by_sort : (xs ys : List (Bor Text)) → IsPermutation xs ys → IsSorted ref_cmp ys → map (λ x. x.now) ys ≡ sorted (map (λ x. x.now) xs)
sorted_by_sort xs ys moved order =
    let before = map (λ x. x.now) xs in
    let after = map (λ x. x.now) ys in
    let same : (t : Text) → count t after ≡ count t before =
    λ t. sym (count-sum_by t after) ∙ sum_by-IsPermutation (at_most t) before after (IsPermutation-map (λ x. x.now) xs ys moved) ∙ count-sum_by t before in
    same_from_counts after (sorted before) (ascends_from_sorted ys order) (ascends-sorted before) (λ t. same t ∙ sym (count-sorted t before))
