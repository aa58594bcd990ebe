-- The maps of an index, as they are made of groups and of numbered entries.
use Rattle.std.proofs.Common.{◌≡◌, ℕ, suc, ◌+◌, Bool, true, false, List, [], ◌∷◌, ◌++◌, ◌⊎◌, inl, inr, cond, length, Option, None, Some, refl, sym, ap, append_assoc, drop, ◌∙◌, subst}
use Rattle.std.specs.Prelude.{Contains, map, option_map, slice_get}
use Rattle.std.specs.declared.cmp.Ordering.{Ordering}
use Rattle.std.specs.declared.cmp.Ordering.TheVariants.{Less}
use Rattle.std.specs.BTreeMap.{BTreeMap, IsFromIterResult, get, is_at}
use Rattle.std.specs.Cmp.{IsEquivalence, IsTotalOrder}
use Rattle.std.specs.Cmp.Lexicographic.{slice_cmp}
use Rattle.std.specs.Iterator.{DrainsIf}
use Rattle.std.specs.List.{IsDistinct}
use Rattle.std.specs.List.Sorted.{IsPermutation, IsStrictlySortedBy}
use Rattle.std.specs.Map.{keys_of, lookup}
use Rattle.std.specs.Ordering.{eq_by_cmp, is_eq, nat_cmp}
use Rattle.std.proofs.lemmas.Cmp.{eq_by_cmp_equiv, nat_cmp_total, nat_list_cmp_total, on_total, tied_itself}
use Rattle.std.proofs.lemmas.Iterator.{YieldsList, items_from_drains}
use Rattle.std.proofs.lemmas.List.{drop_more}
use Rattle.std.proofs.lemmas.List.Sorted.{Contains-permutation, IsPermutation-map, IsPermutation-sym}
use Rattle.std.proofs.lemmas.Map.Keys.{IsDistinct-IsPermutation, IsDistinct-from_sorted}
use Rattle.std.proofs.lemmas.Map.Lookups.{CmpEqualImpliesEq, exact_bytes}
use Rattle.std.proofs.lemmas.Map.Made.{distinct_count-from_IsDistinct, keys_of-map_values, lookup-map_values, update_all_none}
use Rattle.std.proofs.lemmas.Map.Views.{btree_map_len-from_list, lookup-from_Contains}
use Rattle.std.proofs.lemmas.Option.{get_or_from_slice_get, slice_get_within}
use Rattle.index_entry.specs.Facts.{Facts}
use Rattle.cdxj_index.specs.Groups.{AreGroups, Group}
use Rattle.cdxj_index.specs.Maps.{AreKeys, AreMaps, AreNumbers, AreOfKey, Captures, Keys, Shared, by_numbers, entries_of, entry_of, numbered, shown_all, values_shown}
use Rattle.index_entry.specs.Order.{order}
use Rattle.index_entry.specs.Queries.{IsIndex}
use Rattle.index_entry.proofs.Orders.{equal_from_is_eq, key_tied, order_total}
use Rattle.index_entry.proofs.Members.{Among, Among-append_right, Among-map, Among-map_back, all_among, all_from_among, among_from_contains, contains_from_among, not_below_itself, same_from_members}
use Rattle.cdxj_index.proofs.Numbers.{number_of_tie}
use Rattle.cdxj_index.proofs.Places.{among-lookup, lookup-among}

module _ {K X : Type 0} (R : K → K → Ordering) (o : IsTotalOrder R) where
  -- pairs in the order of their keys
  pairs_sorted : (pairs : List (K × X)) → IsStrictlySortedBy R (keys_of pairs) → IsStrictlySortedBy (λ (p q : K × X). R p.0 q.0) pairs
  unfolding IsStrictlySortedBy
  pairs_sorted [] sorted = tt
  pairs_sorted (p ∷ pairs) sorted = (
    all_from_among (λ (q : K × X). R p.0 q.0 ≡ Less) pairs (λ q h. all_among (λ k. R p.0 k ≡ Less) (keys_of pairs) sorted.0 q.0 (Among-map_back (λ (e : K × X). e.0) pairs q h)),
    pairs_sorted pairs sorted.1,
  )

  held_too : CmpEqualImpliesEq R → (pairs others : List (K × X)) → IsStrictlySortedBy R (keys_of pairs) → ((k : K) → lookup (is_at (R k)) pairs ≡ lookup (is_at (R k)) others) → (p : K × X) → Among pairs p → Among others p
  held_too exact pairs others sorted same p h =
      let at = among-lookup R o (is_at (R p.0)) others p.1 (sym (same p.0) ∙ lookup-among R o pairs sorted p h) in
      let key : at.0.0 ≡ p.0 = sym (exact p.0 at.0.0 (equal_from_is_eq (R p.0 at.0.0) at.2)) in
      let value : at.0.1 ≡ p.1 = at.3 in
      let pair : at.0 ≡ p = λ i. (key i, value i) in
      subst (Among others) pair at.1

  -- a map that is made of pairs in the order of their keys holds these pairs
  made_of : CmpEqualImpliesEq R → (pairs : List (K × X)) (made : BTreeMap K X) → IsStrictlySortedBy R (keys_of pairs) → IsFromIterResult R pairs made → made.entries ≡ pairs
  made_of exact pairs made sorted is =
      let same = λ (k : K). is.0 k ∙ update_all_none (eq_by_cmp_equiv o) (eq_by_cmp R) (λ x y. refl) pairs k (IsDistinct-from_sorted R (keys_of pairs) sorted) in
      same_from_members (λ (p q : K × X). R p.0 q.0) (on_total (λ (p : K × X). p.0) o) made.entries pairs (pairs_sorted made.entries is.1) (pairs_sorted pairs sorted)
      (held_too exact made.entries pairs is.1 same) (held_too exact pairs made.entries sorted (λ k. sym (same k)))

pub keys_made : (groups : List Group) (keys : Keys) → AreGroups groups → IsFromIterResult (slice_cmp nat_cmp) groups keys → AreKeys keys × (entries_of keys ≡ shown_all groups)
keys_made groups keys are is = (record { ordered = is.1; each = each }, ap shown_all same)
  where
    same : keys.entries ≡ groups
    same = made_of (slice_cmp nat_cmp) nat_list_cmp_total exact_bytes groups keys are.ordered is

    each : (key : List ℕ) (captures : Captures) → lookup (is_at (slice_cmp nat_cmp key)) keys.entries ≡ Some captures → AreOfKey key captures
    each key captures found =
        let at = among-lookup (slice_cmp nat_cmp) nat_list_cmp_total (is_at (slice_cmp nat_cmp key)) keys.entries captures found in
        let of : AreOfKey at.0.0 at.0.1 = (are.each at.0 (contains_from_among groups at.0 (subst (λ es. Among es at.0) same at.1))).of_key in
        let keyed : at.0.0 ≡ key = sym (key_tied key at.0.0 (equal_from_is_eq (slice_cmp nat_cmp key at.0.0) at.2)) in
        subst (AreOfKey key) at.3 (subst (λ k. AreOfKey k at.0.1) keyed of)

-- ---- entries by number

map_push : {A X : Type 0} (f : A → X) (list : List A) (a : A) → map f (list ++ a ∷ []) ≡ map f list ++ f a ∷ []
map_push f [] a = refl
map_push f (b ∷ list) a = ap (λ l. f b ∷ l) (map_push f list a)

pub numbers_push : (old new : List (ℕ × Shared)) (n : ℕ) (s : Shared) (e : Facts) (done done₂ : List Facts) → new ≡ old ++ (n, s) ∷ [] → n ≡ e.number → entry_of s ≡ e → done₂ ≡ done ++ e ∷ [] → values_shown old ≡ by_numbers done → values_shown new ≡ by_numbers done₂
numbers_push old new n s e done done₂ put number value more are =
    let pair : (n, entry_of s) ≡ (e.number, e) = λ i. (number i, value i) in
    ap values_shown put ∙ map_push (λ (p : ℕ × Shared). (p.0, entry_of p.1)) old (n, s)
    ∙ ap (λ l. l ++ (n, entry_of s) ∷ []) are ∙ ap (λ (p : ℕ × Facts). by_numbers done ++ p ∷ []) pair
    ∙ sym (map_push (λ (f : Facts). (f.number, f)) done e) ∙ ap by_numbers (sym more)

not_same : (b : Bool) (m n : ℕ) → is_eq (nat_cmp m n) ≡ b → (m ≡ n → ⊥) → is_eq (nat_cmp m n) ≡ false
not_same true m n is apart = absurd (apart (number_of_tie m n is))
not_same false m n is apart = is

distinct : (entries : List Facts) → IsStrictlySortedBy order entries → ((a b : Facts) → Among entries a → Among entries b → a.number ≡ b.number → a ≡ b) → IsDistinct (eq_by_cmp nat_cmp) (keys_of (by_numbers entries))
unfolding IsStrictlySortedBy IsDistinct
distinct [] sorted alone = tt
distinct (e ∷ entries) sorted alone = (
  all_from_among (λ n. eq_by_cmp nat_cmp e.number n ≡ false) (keys_of (by_numbers entries)) (λ n h.
      let pair = Among-map (λ (p : ℕ × Facts). p.0) (by_numbers entries) n h in
      let f = Among-map (λ (g : Facts). (g.number, g)) entries pair.0 pair.1 in
      let number : f.0.number ≡ n = ap (λ (p : ℕ × Facts). p.0) f.2 ∙ pair.2 in
      not_same (is_eq (nat_cmp e.number n)) e.number n refl (λ same.
      let is : e ≡ f.0 = alone e f.0 (inl refl) (inr f.1) (same ∙ sym number) in
      let below : order e f.0 ≡ Less = all_among (λ g. order e g ≡ Less) entries sorted.0 f.0 f.1 in
      not_below_itself order order_total e (subst (λ g. order e g ≡ Less) (sym is) below))),
  distinct entries sorted.1 (λ a b h h₂ same. alone a b (inr h) (inr h₂) same),
)

length-by_numbers : (entries : List Facts) → length (keys_of (by_numbers entries)) ≡ length entries
length-by_numbers [] = refl
length-by_numbers (e ∷ entries) = ap suc (length-by_numbers entries)

absent_head : {X : Type 0} (test : ℕ → Bool) (b : Bool) (first : ℕ × X) (rest : Option X) (p : ℕ × X) → test first.0 ≡ b → test p.0 ≡ true → (first ≡ p) ⊎ (rest ≡ None → ⊥) → cond b (Some first.1) rest ≡ None → ⊥
absent_head test true first rest p is passes h none = cc
absent_head test false first rest p is passes (inl same) none = let here : test first.0 ≡ true = ap (λ q. test q.0) same ∙ passes in cc
absent_head test false first rest p is passes (inr later) none = later none

-- where a pair passes the test, one is found
found_some : {X : Type 0} (test : ℕ → Bool) (pairs : List (ℕ × X)) (p : ℕ × X) → Among pairs p → test p.0 ≡ true → lookup test pairs ≡ None → ⊥
found_some test [] p h passes none = absurd h
found_some test (first ∷ pairs) p (inl same) passes none = absent_head test (test first.0) first (lookup test pairs) p refl passes (inl same) none
found_some test (first ∷ pairs) p (inr h) passes none = absent_head test (test first.0) first (lookup test pairs) p refl passes (inr (λ e. found_some test pairs p h passes e)) none

-- ---- entries by number in another order

settled_too : (xs ys : List (ℕ × Shared)) → ((p : ℕ × Shared) → Among xs p → Among ys p) → IsDistinct (eq_by_cmp nat_cmp) (keys_of ys) → (q : ℕ) (v : Shared) → lookup (eq_by_cmp nat_cmp q) xs ≡ Some v → lookup (eq_by_cmp nat_cmp q) ys ≡ Some v
settled_too xs ys within apart q v found =
    let at = among-lookup nat_cmp nat_cmp_total (eq_by_cmp nat_cmp q) xs v found in
    let number : at.0.0 ≡ q = sym (number_of_tie q at.0.0 at.2) in
    let value : at.0.1 ≡ v = at.3 in
    let pair : at.0 ≡ (q, v) = λ i. (number i, value i) in
    lookup-from_Contains (eq_by_cmp_equiv nat_cmp_total) q v ys apart (contains_from_among ys (q, v) (subst (Among ys) pair (within at.0 at.1)))

settled_same : (xs ys : List (ℕ × Shared)) → ((p : ℕ × Shared) → Among xs p → Among ys p) → ((p : ℕ × Shared) → Among ys p → Among xs p) → IsDistinct (eq_by_cmp nat_cmp) (keys_of xs) → IsDistinct (eq_by_cmp nat_cmp) (keys_of ys)
    → (q : ℕ) → lookup (eq_by_cmp nat_cmp q) ys ≡ lookup (eq_by_cmp nat_cmp q) xs
settled_same xs ys within back apart apart₂ q = which (lookup (eq_by_cmp nat_cmp q) ys) (lookup (eq_by_cmp nat_cmp q) xs) refl refl
  where
    which : (o p : Option Shared) → lookup (eq_by_cmp nat_cmp q) ys ≡ o → lookup (eq_by_cmp nat_cmp q) xs ≡ p → o ≡ p
    which (Some v) p there here = sym (settled_too ys xs back apart q v there) ∙ here
    which None (Some v) there here = sym there ∙ settled_too xs ys within apart₂ q v here
    which None None there here = refl

-- a map of entries by number is the same, in whichever order they were
pub numbers_settled : (numbers settled : List (ℕ × Shared)) (made : BTreeMap ℕ Shared) → IsPermutation numbers settled → IsDistinct (eq_by_cmp nat_cmp) (keys_of numbers) → IsFromIterResult nat_cmp settled made → IsFromIterResult nat_cmp numbers made
numbers_settled numbers settled made moved apart is = (
  λ q. is.0 q ∙ update_all_none laws (eq_by_cmp nat_cmp) (λ x y. refl) settled q apart₂ ∙ settled_same numbers settled within back apart apart₂ q ∙ sym (update_all_none laws (eq_by_cmp nat_cmp) (λ x y. refl) numbers q apart),
  is.1,
)
  where
    laws : IsEquivalence (eq_by_cmp nat_cmp)
    laws = eq_by_cmp_equiv nat_cmp_total

    apart₂ : IsDistinct (eq_by_cmp nat_cmp) (keys_of settled)
    apart₂ = IsDistinct-IsPermutation (eq_by_cmp nat_cmp) laws.symm (keys_of numbers) (keys_of settled) (IsPermutation-map (λ (p : ℕ × Shared). p.0) numbers settled moved) apart

    within : (p : ℕ × Shared) → Among numbers p → Among settled p
    within p h = among_from_contains settled p (Contains-permutation numbers settled p moved (contains_from_among numbers p h))

    back : (p : ℕ × Shared) → Among settled p → Among numbers p
    back p h = among_from_contains numbers p (Contains-permutation settled numbers p (IsPermutation-sym numbers settled moved) (contains_from_among settled p h))

pub numbers_made : (numbers settled : List (ℕ × Shared)) (made : BTreeMap ℕ Shared) (entries : List Facts) → IsIndex entries → values_shown numbers ≡ by_numbers entries → IsPermutation numbers settled → IsFromIterResult nat_cmp settled made → AreNumbers entries made
numbers_made numbers settled made entries index same moved from = record {
  found = λ e h. present e (among_from_contains entries e h) (lookup (eq_by_cmp nat_cmp e.number) (by_numbers entries)) refl;
  shown = there;
  count = btree_map_len-from_list nat_cmp_total numbers made is ∙ distinct_count-from_IsDistinct (eq_by_cmp_equiv nat_cmp_total) (keys_of numbers) apart ∙ ap (λ l. length l) keys ∙ length-by_numbers entries;
}
  where
    keys : keys_of numbers ≡ keys_of (by_numbers entries)
    keys = sym (keys_of-map_values entry_of numbers) ∙ ap keys_of same

    apart : IsDistinct (eq_by_cmp nat_cmp) (keys_of numbers)
    apart = subst (IsDistinct (eq_by_cmp nat_cmp)) (sym keys) (distinct entries index.in_order (λ a b h h₂ one. index.alone a b (contains_from_among entries a h) (contains_from_among entries b h₂) one))

    is : IsFromIterResult nat_cmp numbers made
    is = numbers_settled numbers settled made moved apart from

    looked_up : (n : ℕ) → numbered made n ≡ lookup (eq_by_cmp nat_cmp n) (by_numbers entries)
    looked_up n =
        ap (option_map entry_of) (is.0 n ∙ update_all_none (eq_by_cmp_equiv nat_cmp_total) (eq_by_cmp nat_cmp) (λ x y. refl) numbers n apart)
        ∙ sym (lookup-map_values entry_of (eq_by_cmp nat_cmp n) numbers) ∙ ap (lookup (eq_by_cmp nat_cmp n)) same

    there : (n : ℕ) (f : Facts) → numbered made n ≡ Some f → Contains entries f × (f.number ≡ n)
    there n f some =
        let at = among-lookup nat_cmp nat_cmp_total (eq_by_cmp nat_cmp n) (by_numbers entries) f (sym (looked_up n) ∙ some) in
        let from = Among-map (λ (e : Facts). (e.number, e)) entries at.0 at.1 in
        let one : from.0 ≡ f = ap (λ (p : ℕ × Facts). p.1) from.2 ∙ at.3 in
        let number : from.0.number ≡ at.0.0 = ap (λ (p : ℕ × Facts). p.0) from.2 in
        (contains_from_among entries f (subst (Among entries) one from.1), ap (λ (e : Facts). e.number) (sym one) ∙ number ∙ sym (number_of_tie n at.0.0 at.2))

    present : (e : Facts) → Among entries e → (found : Option Facts) → lookup (eq_by_cmp nat_cmp e.number) (by_numbers entries) ≡ found → numbered made e.number ≡ Some e
    present e h None none =
        absurd (found_some (eq_by_cmp nat_cmp e.number) (by_numbers entries) (e.number, e) (Among-map_back (λ (g : Facts). (g.number, g)) entries e h) (ap is_eq (tied_itself nat_cmp_total e.number)) none)
    present e h (Some f) some =
        let at = there e.number f (looked_up e.number ∙ some) in
        looked_up e.number ∙ some ∙ ap Some (index.alone f e at.0 (contains_from_among entries e h) at.1)

-- ---- the loop over the entries

before_next : (done : List Facts) (e : Facts) (rest : List Facts) → IsStrictlySortedBy order (done ++ e ∷ rest) → (f : Facts) → Among done f → order f e ≡ Less
unfolding IsStrictlySortedBy
before_next [] e rest sorted f h = absurd h
before_next (first ∷ done) e rest sorted f (inl is) = subst (λ g. order g e ≡ Less) is (all_among (λ g. order first g ≡ Less) (done ++ e ∷ rest) sorted.0 e (Among-append_right done (e ∷ rest) e (inl refl)))
before_next (first ∷ done) e rest sorted f (inr h) = before_next done e rest sorted.1 f h

-- the next comes after those that were taken
pub next_behind : (done left rest all : List Facts) (e f : Facts) → IsIndex all → done ++ left ≡ all → left ≡ e ∷ rest → Contains done f → order f e ≡ Less
next_behind done left rest all e f index whole steps h =
    before_next done e rest (subst (IsStrictlySortedBy order) (sym whole ∙ ap (λ l. done ++ l) steps) index.in_order) f (among_from_contains done f h)

pub next_taken : (done done₂ left rest all : List Facts) (e : Facts) → done ++ left ≡ all → left ≡ e ∷ rest → done₂ ≡ done ++ e ∷ [] → done₂ ++ rest ≡ all
next_taken done done₂ left rest all e whole steps more = ap (λ l. l ++ rest) more ∙ append_assoc done (e ∷ []) rest ∙ ap (λ l. done ++ l) (sym steps) ∙ whole

-- what is left of a list from a place, where an element stands
pub left_from : (xs : List Facts) (i : ℕ) (x : Facts) → slice_get xs i ≡ Some x → drop i xs ≡ x ∷ drop (i + 1) xs
left_from xs i x got =
    drop_more xs i x (slice_get_within xs i x got) ∙ ap (λ e. e ∷ drop (i + 1) xs) (get_or_from_slice_get xs i x x got)

append_none : (xs ys : List Facts) → ys ≡ [] → xs ≡ xs ++ ys
append_none [] ys none = sym none
append_none (x ∷ xs) ys none = ap (λ l. x ∷ l) (append_none xs ys none)

map_itself : {A : Type 0} (xs : List A) → map (λ (x : A). x) xs ≡ xs
map_itself [] = refl
map_itself (x ∷ xs) = ap (λ l. x ∷ l) (map_itself xs)

-- what was made of all that an iterator gives was made of this list
pub made_from : {S A V : Type 0} (steps : S → Option A → S → Type 0) (Gives : S → Type 0) (Q : List A → V → Type 0) (items : List A) (v : V)
    → ((it : S) × (xs : List A) × Gives it × DrainsIf steps (Unit {0}) it xs × Q xs v) → ((it : S) → Gives it → YieldsList steps (λ x. x) it items) → Q items v
made_from steps Gives Q items v ran gives = subst (λ xs. Q xs v) (sym (map_itself ran.1) ∙ items_from_drains ran.1 ran.3 (gives ran.0 ran.2)) ran.4

-- once nothing is left, all were taken
pub all_taken : (done left all : List Facts) → done ++ left ≡ all → left ≡ [] → done ≡ all
all_taken done left all whole none = append_none done left none ∙ whole

-- the maps that are made of them
pub all_made : (groups : List Group) (numbers settled : List (ℕ × Shared)) (keys : Keys) (made : BTreeMap ℕ Shared) → IsIndex (shown_all groups) → AreGroups groups → values_shown numbers ≡ by_numbers (shown_all groups)
    → IsPermutation numbers settled → IsFromIterResult (slice_cmp nat_cmp) groups keys → IsFromIterResult nat_cmp settled made → AreMaps keys made × (entries_of keys ≡ shown_all groups)
all_made groups numbers settled keys made index are same moved is is₂ =
    let both = keys_made groups keys are is in
    let of_all : AreNumbers (shown_all groups) made = numbers_made numbers settled made (shown_all groups) index same moved is₂ in
    (record { of_keys = both.0; of_numbers = subst (λ es. AreNumbers es made) (sym both.1) of_all }, both.1)

-- what stands under the number of an entry that is left is that entry
pub held_next : (all : List Facts) (numbers : BTreeMap ℕ Shared) (done left rest : List Facts) (e : Facts) (s : Shared) → AreNumbers all numbers → done ++ left ≡ all → left ≡ e ∷ rest → get nat_cmp numbers e.number ≡ Some s → entry_of s ≡ e
held_next all numbers done left rest e s are whole steps got =
    let here : Among left e = subst (λ l. Among l e) (sym steps) (inl refl) in
    let there : Contains all e = contains_from_among all e (subst (λ l. Among l e) whole (Among-append_right done left e here)) in
    let same : Some (entry_of s) ≡ Some e = sym (ap (option_map entry_of) got) ∙ are.found e there in
    cc same
