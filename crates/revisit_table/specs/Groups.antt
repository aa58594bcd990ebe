-- Captures in the order of their digests, and the groups of one digest that are made of them.
use Rattle.std.specs.Prelude.{◌≡◌, ◌≢◌, ℕ, ◌≤◌, false, List, [], ◌∷◌, ⊤, length, None}
use Rattle.std.specs.Cmp.Lexicographic.{slice_cmp}
use Rattle.std.specs.List.{AllByRecursion}
use Rattle.std.specs.Map.{update_all}
use Rattle.std.specs.Option.{option_map_or}
use Rattle.std.specs.Ordering.{eq_by_cmp, is_lt, nat_cmp}
use Rattle.std.specs.Str.{bytes_eq}
use Rattle.revisit_table.specs.Lists.{Numbers, items_of}
use Rattle.revisit_table.specs.Table.{numbers_of}

-- none of the digests is below this one
abbrev pub AreNotBelow : List ℕ → List (List ℕ × ℕ) → Type 0
AreNotBelow digest entries = AllByRecursion (λ entry. is_lt (slice_cmp nat_cmp entry.0 digest) ≡ false) entries

-- no digest is below an earlier one
abbrev pub AreInOrder : List (List ℕ × ℕ) → Type 0
AreInOrder [] = ⊤
AreInOrder (entry ∷ entries) = AreNotBelow entry.0 entries × AreInOrder entries

-- the numbers of the last group that has the digest, as a map has them into which the groups were put in turn
abbrev pub numbers_among : List (List ℕ × Numbers) → List ℕ → List ℕ
numbers_among groups digest = option_map_or items_of (update_all (eq_by_cmp (slice_cmp nat_cmp)) (λ _. None) groups digest) []

abbrev pub HasNumbers : List ℕ × Numbers → Type 0
HasNumbers group = items_of group.1 ≢ []

-- the numbers are those of the digest, of which no entry is left, and of the other digests all are left
pub record IsFirstGroup (digest : List ℕ) (number : ℕ) (behind : List (List ℕ × ℕ)) (numbers : Numbers) (left : List (List ℕ × ℕ)) : Type 0 where
  pub filled : items_of numbers ≡ number ∷ numbers_of digest behind
  pub gone : numbers_of digest left ≡ []
  pub others : (other : List ℕ) → bytes_eq digest other ≡ false → numbers_of other left ≡ numbers_of other behind
  pub in_order : AreInOrder left
  pub fewer : length left ≤ length behind
