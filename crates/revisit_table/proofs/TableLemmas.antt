-- The numbers of a digest in a table that changes.
use Rattle.std.proofs.Common.{◌≡◌, ◌≢◌, ℕ, ◌<◌, ◌⊎◌, Bool, true, false, not, cond, List, [], ◌∷◌, ◌++◌, map, length, get_or, Some, refl, sym, ◌∙◌, ap, append-nil, true≢false, inl, inr}
use Rattle.std.specs.Prelude.{◌==◌, filter}
use Rattle.std.specs.List.{remove}
use Rattle.std.specs.List.Sorted.{IsStrictlyIncreasing}
use Rattle.std.specs.Str.{bytes_eq}
use Rattle.std.proofs.lemmas.Bool.{cond_both}
use Rattle.std.proofs.lemmas.Slice.Eq.{bytes_eq-Decides}
use Rattle.revisit_table.specs.Table.{numbers_of, without}
use Rattle.revisit_table.proofs.Rising.{increasing-filter, filter-remove}

-- the numbers of a digest rise where all do
pub numbers_rise : (digest : List ℕ) (kept : List (List ℕ × ℕ)) → IsStrictlyIncreasing (map (λ entry. entry.1) kept) → IsStrictlyIncreasing (numbers_of digest kept)
numbers_rise digest kept rising = increasing-filter (λ entry. entry.1) (λ entry. bytes_eq entry.0 digest) kept rising

-- one more entry adds its number to those of its digest
pub numbers-push : (other : List ℕ) (kept : List (List ℕ × ℕ)) (digest : List ℕ) (number : ℕ) → numbers_of other (kept ++ (digest, number) ∷ []) ≡ numbers_of other kept ++ cond (bytes_eq digest other) (number ∷ []) []
numbers-push other [] digest number = single (bytes_eq digest other)
  where
    single : (b : Bool) → map (λ (e : List ℕ × ℕ). e.1) (cond b ((digest, number) ∷ []) []) ≡ cond b (number ∷ []) []
    single true = refl
    single false = refl
numbers-push other (entry ∷ kept) digest number =
    more (bytes_eq entry.0 other) _ _ (numbers-push other kept digest number)
  where
    more : (b : Bool) (longer shorter : List (List ℕ × ℕ)) → map (λ (e : List ℕ × ℕ). e.1) longer ≡ map (λ (e : List ℕ × ℕ). e.1) shorter ++ cond (bytes_eq digest other) (number ∷ []) [] → map (λ (e : List ℕ × ℕ). e.1) (cond b (entry ∷ longer) longer) ≡ map (λ (e : List ℕ × ℕ). e.1) (cond b (entry ∷ shorter) shorter) ++ cond (bytes_eq digest other) (number ∷ []) []
    more true longer shorter same = ap (λ l. entry.1 ∷ l) same
    more false longer shorter same = same

-- without a number, the numbers of a digest are those that differ from it
pub numbers-without : (digest : List ℕ) (number : ℕ) (kept : List (List ℕ × ℕ)) → numbers_of digest (without number kept) ≡ filter (λ n. not (n == number)) (numbers_of digest kept)
numbers-without digest number [] = refl
numbers-without digest number (entry ∷ kept) =
    each (without number kept) (filter (λ e. bytes_eq e.0 digest) kept) (numbers-without digest number kept) (bytes_eq entry.0 digest) (not (entry.1 == number)) refl refl
  where
    each : (others of_digest : List (List ℕ × ℕ)) → numbers_of digest others ≡ filter (λ n. not (n == number)) (map (λ (e : List ℕ × ℕ). e.1) of_digest) → (is_of differs : Bool) → bytes_eq entry.0 digest ≡ is_of → not (entry.1 == number) ≡ differs
        → numbers_of digest (cond differs (entry ∷ others) others) ≡ filter (λ n. not (n == number)) (map (λ (e : List ℕ × ℕ). e.1) (cond is_of (entry ∷ of_digest) of_digest))
    each others of_digest same true true passes stays = rw (passes, stays) (ap (λ l. entry.1 ∷ l) same)
    each others of_digest same true false passes goes = rw goes same
    each others of_digest same false true fails stays = rw fails same
    each others of_digest same false false fails goes = same

-- an entry that is taken out isn't missed among the numbers of another digest
pub numbers-remove : (other : List ℕ) (kept : List (List ℕ × ℕ)) (i : ℕ) (d : List ℕ × ℕ) → i < length kept → bytes_eq (get_or kept i d).0 other ≡ false → numbers_of other (remove kept i) ≡ numbers_of other kept
numbers-remove other kept i d within apart = ap (map (λ (e : List ℕ × ℕ). e.1)) (filter-remove (λ entry. bytes_eq entry.0 other) kept i d apart within)

-- where an entry is taken out by its number, its digest loses that number, and the other digests lose none
pub numbers-taken : (other : List ℕ) (kept : List (List ℕ × ℕ)) (i number : ℕ) (entry : List ℕ × ℕ) → entry ≡ get_or kept i entry → i < length kept → without number kept ≡ remove kept i → numbers_of other (remove kept i) ≡ cond (bytes_eq entry.0 other) (filter (λ n. not (n == number)) (numbers_of other kept)) (numbers_of other kept)
numbers-taken other kept i number entry stands within taken =
    cond_both (bytes_eq entry.0 other) (filter (λ n. not (n == number)) (numbers_of other kept)) (numbers_of other kept) (λ l. numbers_of other (remove kept i) ≡ l)
    (λ yes. ap (numbers_of other) (sym taken) ∙ numbers-without other number kept)
    (λ no. numbers-remove other kept i entry within (ap (λ (e : List ℕ × ℕ). bytes_eq e.0 other) (sym stands) ∙ no))

-- ---- which digests have a list

-- two digests that differ are reserved apart
pub somes_apart : (a b : List ℕ) → bytes_eq a b ≡ false → Some a ≢ Some b
somes_apart a b differ same = true≢false (sym ((bytes_eq-Decides a b).1 (inside same)) ∙ differ)
  where
    inside : Some a ≡ Some b → a ≡ b
    inside e = cc

-- a digest is this one, or differs from it
pub this_or_apart : (a b : List ℕ) → (a ≡ b) ⊎ (bytes_eq a b ≡ false)
this_or_apart a b = by_test (bytes_eq a b) refl
  where
    by_test : (test : Bool) → bytes_eq a b ≡ test → (a ≡ b) ⊎ (bytes_eq a b ≡ false)
    by_test true e = inl ((bytes_eq-Decides a b).0 e)
    by_test false e = inr e

-- a list that is empty when a number may have been put behind it has got none, and was empty
pub none_added : (test : Bool) (number : ℕ) (old new : List ℕ) → new ≡ old ++ cond test (number ∷ []) [] → new ≡ [] → (test ≡ false) × (old ≡ [])
none_added true number old new is none = absurd (some_is_there old (sym is ∙ none))
  where
    some_is_there : (xs : List ℕ) → xs ++ number ∷ [] ≡ [] → ⊥
    some_is_there [] e = cc
    some_is_there (x ∷ xs) e = cc
none_added false number old new is none = (refl, sym (append-nil old) ∙ sym is ∙ none)
