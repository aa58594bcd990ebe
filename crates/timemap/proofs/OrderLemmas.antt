-- Entries of one key in an index, by their dates.
use Rattle.std.proofs.Common.{◌≡◌, ℕ, zero, suc, ◌<◌, ◌≤◌, true, eqb, List, [], ◌∷◌, length, get_or, bytes_eq, refl, ap, sym, ◌∙◌, inl, inr, arith}
use Rattle.std.proofs.lemmas.Bool.{and_parts, cases_lt, cond_both, eqb-true}
use Rattle.std.proofs.lemmas.List.Kept.{IsStrictlySortedBy-filter}
use Rattle.std.proofs.lemmas.Map.Keys.{Less-from_sorted}
use Rattle.std.specs.Cmp.{nat_cmp_is}
use Rattle.std.specs.Cmp.Lexicographic.{slice_cmp}
use Rattle.std.specs.List.Sorted.{IsNonDecreasingBy}
use Rattle.std.specs.Ordering.{nat_cmp, ordering_then}
use Rattle.std.specs.declared.cmp.Ordering.TheVariants.{Less, Equal, Greater}
use Rattle.index_entry.specs.Facts.{Facts}
use Rattle.index_entry.specs.Order.{moment_cmp, moment_of, order}
use Rattle.index_entry.specs.Queries.{IsIndex, of_key}

same_bytes : (a b : List ℕ) → bytes_eq a b ≡ true → a ≡ b
same_bytes [] [] e = refl
same_bytes [] (y ∷ b) e = absurd (cc)
same_bytes (x ∷ a) [] e = absurd (cc)
same_bytes (x ∷ a) (y ∷ b) e =
    let parts = and_parts (eqb x y) (bytes_eq a b) e in
    let head = eqb-true x y parts.0 in
    let tail = same_bytes a b parts.1 in
    cc

equal_keys : (a b : List ℕ) → a ≡ b → slice_cmp nat_cmp a b ≡ Equal
equal_keys [] [] e = refl
equal_keys [] (y ∷ b) e = absurd (cc)
equal_keys (x ∷ a) [] e = absurd (cc)
equal_keys (x ∷ a) (y ∷ b) e =
    let head : x ≡ y = cc in
    let tail : a ≡ b = cc in
    ap (λ o. ordering_then o (slice_cmp nat_cmp a b)) (sym (nat_cmp_is x y Equal head)) ∙ equal_keys a b tail

dates_in_order : (a b : Facts) → a.key ≡ b.key → order a b ≡ Less → a.date ≤ b.date
dates_in_order a b same less =
    let moments : order a b ≡ moment_cmp (moment_of a) (moment_of b) = ap (λ o. ordering_then o (moment_cmp (moment_of a) (moment_of b))) (equal_keys a.key b.key same) in
    elim (cases_lt b.date a.date) [
      | inl later ↦
          let greater : nat_cmp a.date b.date ≡ Greater = sym (nat_cmp_is a.date b.date Greater later) in
          let wrong : moment_cmp (moment_of a) (moment_of b) ≡ Greater = ap (λ o. ordering_then o (nat_cmp a.number b.number)) greater in
          absurd (cc (moments, less, wrong))
      | inr within ↦ within
    ]

-- each entry has the key
abbrev pub HaveKey : List ℕ → List Facts → Type 0
HaveKey key [] = Unit {0}
HaveKey key (entry ∷ entries) = (key ≡ entry.key) × HaveKey key entries

of_key_has_key : (key : List ℕ) (entries : List Facts) → HaveKey key (of_key key entries)
of_key_has_key key [] = tt
of_key_has_key key (entry ∷ entries) =
    let others = of_key_has_key key entries in
    cond_both (bytes_eq key entry.key) (entry ∷ of_key key entries) (of_key key entries) (HaveKey key) (λ same. (same_bytes key entry.key same, others)) (λ _. others)

key_at : (key : List ℕ) (entries : List Facts) (i : ℕ) (d : Facts) → HaveKey key entries → i < length entries → key ≡ (get_or entries i d).key
key_at key [] i d h within = absurd (omega (arith, within))
key_at key (entry ∷ entries) zero d h within = h.0
key_at key (entry ∷ entries) (suc i) d h within = key_at key entries i d h.1 (omega (arith, within))

pub keys_are_in_order : (entries : List Facts) (key : List ℕ) → IsIndex entries → IsNonDecreasingBy (λ (e : Facts). e.date) (of_key key entries)
keys_are_in_order entries key index i j d below within =
    let list = of_key key entries in
    let sorted = IsStrictlySortedBy-filter order (λ (e : Facts). bytes_eq key e.key) entries index.in_order in
    let have = of_key_has_key key entries in
    elim (cases_lt i j) [
      | inl less ↦
          let first : i < length list = omega (arith, less, within) in
          let same = sym (key_at key list i d have first) ∙ key_at key list j d have within in
          dates_in_order (get_or list i d) (get_or list j d) same (Less-from_sorted order list i j d sorted less within)
      | inr more ↦
          let same : i ≡ j = omega (arith, below, more) in
          omega (arith, ap (λ k. (get_or list k d).date) same)
    ]
