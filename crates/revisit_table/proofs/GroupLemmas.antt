-- Entries in the order of their digests: the first group of them, and the numbers in groups.
use Rattle.std.proofs.Common.{◌≡◌, ◌≢◌, ℕ, ◌<◌, ◌≤◌, ◌⊎◌, suc, Bool, true, false, not, ◌&&◌, cond, List, [], ◌∷◌, ◌++◌, length, get_or, Option, None, Some, refl, sym, subst, ◌∙◌, ap, append-nil, append_assoc, true≢false, inl, inr, arith}
use Rattle.std.specs.Prelude.{All, filter, IfSome, map}
use Rattle.std.specs.BTreeMap.{BTreeMap, IsFromIterResult, get}
use Rattle.std.specs.Cmp.Lexicographic.{slice_cmp}
use Rattle.std.specs.Iterator.{DrainsIf}
use Rattle.std.specs.List.{AllByRecursion}
use Rattle.std.specs.List.Sorted.{IsSortedBy, IsStableBy, ties}
use Rattle.std.specs.Map.{update_all}
use Rattle.std.specs.Option.{option_map_or}
use Rattle.std.specs.Ordering.{eq_by_cmp, is_eq, is_lt, nat_cmp, ordering_reverse}
use Rattle.std.specs.Str.{bytes_eq}
use Rattle.std.specs.declared.cmp.Ordering.{Ordering}
use Rattle.std.specs.declared.cmp.Ordering.TheVariants.{Less, Equal, Greater}
use Rattle.std.proofs.lemmas.Cmp.{nat_list_cmp_total}
use Rattle.std.proofs.lemmas.Iterator.{YieldsList, items_from_drains}
use Rattle.std.proofs.lemmas.List.{map-id}
use Rattle.std.proofs.lemmas.List.Elements.{recursion_from_All}
use Rattle.std.proofs.lemmas.List.MinMax.{ranks_by}
use Rattle.std.proofs.lemmas.List.Sorted.{sorted_far}
use Rattle.std.proofs.lemmas.Map.{update_all_push}
use Rattle.std.proofs.lemmas.Map.Made.{IfSome-update_all}
use Rattle.std.proofs.lemmas.Map.Text.{is_eq-slice_cmp}
use Rattle.std.proofs.lemmas.Slice.Eq.{bytes_eq-Decides}
use Rattle.revisit_table.specs.Groups.{AreInOrder, AreNotBelow, HasNumbers, IsFirstGroup, numbers_among}
use Rattle.revisit_table.specs.Lists.{Numbers, has_list, items_of, numbers_at}
use Rattle.revisit_table.specs.Table.{numbers_of}

-- ---- the order of digests

-- whether an entry's digest is below another's
abbrev pub below : List ℕ × ℕ → List ℕ × ℕ → Bool
below a b = is_lt (slice_cmp nat_cmp a.0 b.0)

tied : (o : Ordering) → (not (is_lt (ordering_reverse o)) && not (is_lt o)) ≡ is_eq o
tied Less = refl
tied Equal = refl
tied Greater = refl

-- two digests are the same where neither is below the other
neither_below : (a b : List ℕ) → (not (is_lt (slice_cmp nat_cmp a b)) && not (is_lt (slice_cmp nat_cmp b a))) ≡ bytes_eq b a
neither_below a b =
    ap (λ o. not (is_lt o) && not (is_lt (slice_cmp nat_cmp b a))) (nat_list_cmp_total.antisymm a b)
    ∙ tied (slice_cmp nat_cmp b a) ∙ is_eq-slice_cmp b a

-- the entries that tie with one are those of its digest
pub same_numbers : (sorted kept : List (List ℕ × ℕ)) → IsStableBy below kept sorted → (digest : List ℕ) → numbers_of digest sorted ≡ numbers_of digest kept
same_numbers sorted kept stable digest =
    let of_digest : (entries : List (List ℕ × ℕ)) → filter (ties below (digest, 0)) entries ≡ filter (λ entry. bytes_eq entry.0 digest) entries =
    λ entries i. filter (λ entry. neither_below digest entry.0 i) entries in
    ap (map (λ (entry : List ℕ × ℕ). entry.1)) (sym (of_digest sorted) ∙ stable (digest, 0) ∙ of_digest kept)

-- entries that are sorted are in order
in_order_from : (entries : List (List ℕ × ℕ)) → ((i j : ℕ) (d : List ℕ × ℕ) → i ≤ j → j < length entries → below (get_or entries j d) (get_or entries i d) ≡ false) → AreInOrder entries
in_order_from [] far = tt
in_order_from (entry ∷ entries) far = (
  recursion_from_All (λ (later : List ℕ × ℕ). below later entry ≡ false) entries (λ k d less. far 0 (suc k) d (omega arith) (omega (arith, less))),
  in_order_from entries (λ i j d le less. far (suc i) (suc j) d (omega (arith, le)) (omega (arith, less))),
)

pub sorted_in_order : (entries : List (List ℕ × ℕ)) → IsSortedBy below entries → AreInOrder entries
sorted_in_order entries sorted =
    in_order_from entries (sorted_far below (ranks_by nat_list_cmp_total (λ (entry : List ℕ × ℕ). entry.0)) entries sorted)

-- ---- the first group

none_of : (digest : List ℕ) (entries : List (List ℕ × ℕ)) → AllByRecursion (λ entry. bytes_eq entry.0 digest ≡ false) entries → numbers_of digest entries ≡ []
none_of digest [] apart = refl
none_of digest (entry ∷ entries) apart = rw apart.0 (none_of digest entries apart.1)

-- a digest that isn't below one which isn't below a third, and differs from that, differs from the third
still_apart : (digest first later : List ℕ) → is_lt (slice_cmp nat_cmp first digest) ≡ false → bytes_eq first digest ≡ false → is_lt (slice_cmp nat_cmp later first) ≡ false → bytes_eq later digest ≡ false
still_apart digest first later from apart behind = by_test (bytes_eq later digest) refl
  where
    back : later ≡ digest → is_lt (slice_cmp nat_cmp digest first) ≡ false
    back is = subst (λ d. is_lt (slice_cmp nat_cmp d first) ≡ false) is behind

    same : is_lt (slice_cmp nat_cmp digest first) ≡ false → bytes_eq first digest ≡ true
    same other = sym (neither_below digest first) ∙ ap (λ b. not b && not (is_lt (slice_cmp nat_cmp first digest))) other ∙ ap not from

    by_test : (test : Bool) → bytes_eq later digest ≡ test → bytes_eq later digest ≡ false
    by_test true is = absurd (true≢false (sym (same (back ((bytes_eq-Decides later digest).0 is))) ∙ apart))
    by_test false is = is

all_apart : (digest first : List ℕ) (behind : List (List ℕ × ℕ)) → is_lt (slice_cmp nat_cmp first digest) ≡ false → bytes_eq first digest ≡ false → AreNotBelow first behind → AllByRecursion (λ entry. bytes_eq entry.0 digest ≡ false) behind
all_apart digest first [] from apart above = tt
all_apart digest first (entry ∷ behind) from apart above = (still_apart digest first entry.0 from apart above.0, all_apart digest first behind from apart above.1)

-- behind an entry with another digest none has the digest
pub gone_behind : (digest : List ℕ) (entry : List ℕ × ℕ) (behind : List (List ℕ × ℕ)) → bytes_eq entry.0 digest ≡ false → AreNotBelow digest (entry ∷ behind) → AreInOrder (entry ∷ behind) → numbers_of digest (entry ∷ behind) ≡ []
gone_behind digest entry behind apart above order =
    none_of digest (entry ∷ behind) (apart, all_apart digest entry.0 behind above.0 apart order.0)

-- the numbers of an entry's digest begin with its own
pub numbers_with : (digest : List ℕ) (entry : List ℕ × ℕ) (behind : List (List ℕ × ℕ)) → bytes_eq entry.0 digest ≡ true → numbers_of digest (entry ∷ behind) ≡ entry.1 ∷ numbers_of digest behind
numbers_with digest entry behind is = rw is refl

pub numbers_past : (other : List ℕ) (entry : List ℕ × ℕ) (behind : List (List ℕ × ℕ)) → bytes_eq entry.0 other ≡ false → numbers_of other (entry ∷ behind) ≡ numbers_of other behind
numbers_past other entry behind apart = rw apart refl

-- one more number of the digest was put behind those so far
pub filled_more : (digest : List ℕ) (entry : List ℕ × ℕ) (behind rest : List (List ℕ × ℕ)) (so_far now all : List ℕ) → rest ≡ entry ∷ behind → bytes_eq entry.0 digest ≡ true → now ≡ so_far ++ entry.1 ∷ [] → so_far ++ numbers_of digest rest ≡ all → now ++ numbers_of digest behind ≡ all
filled_more digest entry behind rest so_far now all splits is put filled =
    ap (λ l. l ++ numbers_of digest behind) put ∙ append_assoc so_far (entry.1 ∷ []) (numbers_of digest behind)
    ∙ ap (λ l. so_far ++ l) (sym (ap (numbers_of digest) splits ∙ numbers_with digest entry behind is)) ∙ filled

-- a group is whole where none of its digest is left
pub whole_group : (digest : List ℕ) (number : ℕ) (behind left : List (List ℕ × ℕ)) (numbers : Numbers) → items_of numbers ++ numbers_of digest left ≡ number ∷ numbers_of digest behind → numbers_of digest left ≡ []
    → ((other : List ℕ) → bytes_eq digest other ≡ false → numbers_of other left ≡ numbers_of other behind) → AreInOrder left → length left ≤ length behind → IsFirstGroup digest number behind numbers left
whole_group digest number behind left numbers filled gone others order fewer = record {
  filled = sym (append-nil (items_of numbers)) ∙ ap (λ l. items_of numbers ++ l) (sym gone) ∙ filled;
  gone = gone;
  others = others;
  in_order = order;
  fewer = fewer;
}

-- ---- the numbers in groups

pub among-push : (groups : List (List ℕ × Numbers)) (digest : List ℕ) (numbers : Numbers) (other : List ℕ) → numbers_among (groups ++ (digest, numbers) ∷ []) other ≡ cond (bytes_eq digest other) (items_of numbers) (numbers_among groups other)
among-push groups digest numbers other =
    ap (λ o. option_map_or items_of o []) (sym (update_all_push (eq_by_cmp (slice_cmp nat_cmp)) (λ _. None) (update_all (eq_by_cmp (slice_cmp nat_cmp)) (λ _. None) groups) groups (digest, numbers) other refl))
    ∙ chosen (is_eq (slice_cmp nat_cmp digest other)) (bytes_eq digest other) (is_eq-slice_cmp digest other)
  where
    chosen : (a b : Bool) → a ≡ b → option_map_or items_of (cond a (Some numbers) (update_all (eq_by_cmp (slice_cmp nat_cmp)) (λ _. None) groups other)) [] ≡ cond b (items_of numbers) (numbers_among groups other)
    chosen true true same = refl
    chosen true false same = cc
    chosen false true same = cc
    chosen false false same = refl

begins : (number : ℕ) (numbers : List ℕ) → number ∷ numbers ≢ []
begins number numbers e = cc

first_new : (xs ys : List ℕ) (number : ℕ) (numbers : List ℕ) → xs ≡ number ∷ numbers → (xs ≡ []) ⊎ (ys ≡ []) → ys ≡ []
first_new xs ys number numbers is (inl none) = absurd (begins number numbers (sym is ∙ none))
first_new xs ys number numbers is (inr none) = none

-- the numbers so far with those that are left stay those of all where the first group is put behind the others
pub same_with : (sorted rest behind left : List (List ℕ × ℕ)) (entry : List ℕ × ℕ) (groups longer : List (List ℕ × Numbers)) (numbers : Numbers) → rest ≡ entry ∷ behind → longer ≡ groups ++ (entry.0, numbers) ∷ []
    → IsFirstGroup entry.0 entry.1 behind numbers left → ((digest : List ℕ) → (numbers_of digest rest ≡ []) ⊎ (numbers_among groups digest ≡ []))
    → ((digest : List ℕ) → numbers_among groups digest ++ numbers_of digest rest ≡ numbers_of digest sorted) → (other : List ℕ) → numbers_among longer other ++ numbers_of other left ≡ numbers_of other sorted
same_with sorted rest behind left entry groups longer numbers splits put group apart same other = by_test (bytes_eq entry.0 other) refl
  where
    now : numbers_among longer other ≡ cond (bytes_eq entry.0 other) (items_of numbers) (numbers_among groups other)
    now = ap (λ l. numbers_among l other) put ∙ among-push groups entry.0 numbers other

    of_it : entry.0 ≡ other → numbers_of other rest ≡ entry.1 ∷ numbers_of other behind
    of_it is = ap (numbers_of other) splits ∙ numbers_with other entry behind ((bytes_eq-Decides entry.0 other).1 is)

    by_test : (test : Bool) → bytes_eq entry.0 other ≡ test → numbers_among longer other ++ numbers_of other left ≡ numbers_of other sorted
    by_test true is_it =
        let is = (bytes_eq-Decides entry.0 other).0 is_it in
        let left_none : numbers_of other left ≡ [] = subst (λ d. numbers_of d left ≡ []) is group.gone in
        let filled : items_of numbers ≡ entry.1 ∷ numbers_of other behind = subst (λ d. items_of numbers ≡ entry.1 ∷ numbers_of d behind) is group.filled in
        let before : numbers_among groups other ≡ [] = first_new (numbers_of other rest) (numbers_among groups other) entry.1 (numbers_of other behind) (of_it is) (apart other) in
        ap (λ l. numbers_among longer other ++ l) left_none ∙ append-nil (numbers_among longer other) ∙ now ∙ ap (λ b. cond b (items_of numbers) (numbers_among groups other)) is_it
        ∙ filled ∙ sym (of_it is) ∙ ap (λ l. l ++ numbers_of other rest) (sym before) ∙ same other
    by_test false differs =
        ap (λ l. l ++ numbers_of other left) (now ∙ ap (λ b. cond b (items_of numbers) (numbers_among groups other)) differs)
        ∙ ap (λ l. numbers_among groups other ++ l) (group.others other differs ∙ sym (ap (numbers_of other) splits ∙ numbers_past other entry behind differs)) ∙ same other

-- no digest is both in the groups and in an entry that is left
pub apart_with : (rest behind left : List (List ℕ × ℕ)) (entry : List ℕ × ℕ) (groups longer : List (List ℕ × Numbers)) (numbers : Numbers) → rest ≡ entry ∷ behind → longer ≡ groups ++ (entry.0, numbers) ∷ []
    → IsFirstGroup entry.0 entry.1 behind numbers left → ((digest : List ℕ) → (numbers_of digest rest ≡ []) ⊎ (numbers_among groups digest ≡ [])) → (other : List ℕ) → (numbers_of other left ≡ []) ⊎ (numbers_among longer other ≡ [])
apart_with rest behind left entry groups longer numbers splits put group apart other = by_test (bytes_eq entry.0 other) refl
  where
    passed : bytes_eq entry.0 other ≡ false → (numbers_of other rest ≡ []) ⊎ (numbers_among groups other ≡ []) → (numbers_of other left ≡ []) ⊎ (numbers_among longer other ≡ [])
    passed differs (inl none) = inl (group.others other differs ∙ sym (ap (numbers_of other) splits ∙ numbers_past other entry behind differs) ∙ none)
    passed differs (inr none) = inr (ap (λ l. numbers_among l other) put ∙ among-push groups entry.0 numbers other ∙ ap (λ b. cond b (items_of numbers) (numbers_among groups other)) differs ∙ none)

    by_test : (test : Bool) → bytes_eq entry.0 other ≡ test → (numbers_of other left ≡ []) ⊎ (numbers_among longer other ≡ [])
    by_test true is_it = inl (subst (λ d. numbers_of d left ≡ []) ((bytes_eq-Decides entry.0 other).0 is_it) group.gone)
    by_test false differs = passed differs (apart other)

pub group_filled : (digest : List ℕ) (number : ℕ) (behind left : List (List ℕ × ℕ)) (numbers : Numbers) → IsFirstGroup digest number behind numbers left → HasNumbers (digest, numbers)
group_filled digest number behind left numbers group none = begins number (numbers_of digest behind) (sym group.filled ∙ none)

-- ---- the map that is made of the groups

-- what was made of all that an iterator gives was made of this list
pub made_from : {S A V : Type 0} (steps : S → Option A → S → Type 0) (Gives : S → Type 0) (Q : List A → V → Type 0) (items : List A) (v : V)
    → ((it : S) × (xs : List A) × Gives it × DrainsIf steps (Unit {0}) it xs × Q xs v) → ((it : S) → Gives it → YieldsList steps (λ x. x) it items) → Q items v
made_from steps Gives Q items v ran gives = subst (λ xs. Q xs v) (sym (map-id ran.1) ∙ items_from_drains ran.1 ran.3 (gives ran.0 ran.2)) ran.4

pub same_in_map : (groups : List (List ℕ × Numbers)) (lists : BTreeMap (List ℕ) Numbers) → IsFromIterResult (slice_cmp nat_cmp) groups lists → (digest : List ℕ) → numbers_at lists digest ≡ numbers_among groups digest
same_in_map groups lists made digest = ap (λ o. option_map_or items_of o []) (made.0 digest)

pub used_in_map : (groups : List (List ℕ × Numbers)) (lists : BTreeMap (List ℕ) Numbers) → IsFromIterResult (slice_cmp nat_cmp) groups lists → All HasNumbers groups → (digest : List ℕ) → numbers_at lists digest ≡ [] → has_list lists digest ≡ false
used_in_map groups lists made filled digest none =
    by_list (get (slice_cmp nat_cmp) lists digest) (subst (λ o. IfSome o (λ numbers. items_of numbers ≢ [])) (sym (made.0 digest))
    (IfSome-update_all (eq_by_cmp (slice_cmp nat_cmp)) (λ (numbers : Numbers). items_of numbers ≢ []) digest (λ _. None) groups tt (λ k d less _. filled k d less))) none
  where
    by_list : (o : Option Numbers) → IfSome o (λ numbers. items_of numbers ≢ []) → option_map_or items_of o [] ≡ [] → option_map_or (λ (numbers : Numbers). true) o false ≡ false
    by_list None has empty = refl
    by_list (Some numbers) has empty = absurd (has empty)
