-- The lists of numbers by digest that stand behind a table.
use Rattle.std.specs.Prelude.{◌≡◌, ◌≢◌, ℕ, ◌<◌, ◌-◌, Bool, true, false, List, [], ◌∷◌, map, vec_len, Vec, Option, Some}
use Rattle.std.specs.BTreeMap.{BTreeMap, get}
use Rattle.std.specs.Cmp.Lexicographic.{slice_cmp}
use Rattle.std.specs.List.Sorted.{IsStrictlyIncreasing}
use Rattle.std.specs.Option.{option_map_or}
use Rattle.std.specs.Ordering.{nat_cmp}
use Rattle.std.specs.Vec.{vec_capacity}
use Rattle.revisit_table.specs.Table.{numbers_of}
pub use Rattle.revisit_table.specs.declared.numbers.Numbers.{Numbers}
use Rattle.revisit_table.specs.declared.numbers.Numbers.TheVariants.{Empty, One, Many}

-- ---- the numbers of one digest

-- in order
abbrev pub items_of : Numbers → List ℕ
items_of Empty = []
items_of (One number) = number ∷ []
items_of (Many numbers) = numbers.value.items

-- how many may be added without taking memory
abbrev pub spare_of : Numbers → ℕ
spare_of Empty = 1
spare_of (One number) = 0
spare_of (Many numbers) = vec_capacity numbers.value - vec_len numbers.value

-- ---- those of all digests

-- the numbers at a digest
abbrev pub numbers_at : BTreeMap (List ℕ) Numbers → List ℕ → List ℕ
numbers_at lists digest = option_map_or items_of (get (slice_cmp nat_cmp) lists digest) []

-- there is a list at the digest, which may be empty
abbrev pub has_list : BTreeMap (List ℕ) Numbers → List ℕ → Bool
has_list lists digest = option_map_or (λ numbers. true) (get (slice_cmp nat_cmp) lists digest) false

-- how many numbers may be added at a digest without taking memory
abbrev pub spare_at : BTreeMap (List ℕ) Numbers → List ℕ → ℕ
spare_at lists digest = option_map_or spare_of (get (slice_cmp nat_cmp) lists digest) 0

module _ {Z : Type 0} where
  -- The lists are those of the entries, whose numbers rise. A reserved digest has room in both, and no other digest
  -- has a list without a number
  pub record AreListsOf (kept : Vec (List ℕ × ℕ) Z) (lists : BTreeMap (List ℕ) Numbers) (reserved : Option (List ℕ)) : Type 0 where
    pub rising : IsStrictlyIncreasing (map (λ entry. entry.1) kept.items)
    pub same : (digest : List ℕ) → numbers_at lists digest ≡ numbers_of digest kept.items
    pub room : (digest : List ℕ) → reserved ≡ Some digest → vec_len kept < vec_capacity kept
    pub spare : (digest : List ℕ) → reserved ≡ Some digest → 0 < spare_at lists digest
    pub used : (digest : List ℕ) → reserved ≢ Some digest → numbers_at lists digest ≡ [] → has_list lists digest ≡ false
