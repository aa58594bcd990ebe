-- What is asked of an index.
use Rattle.std.specs.Prelude.{◌≡◌, ℕ, ◌+◌, ◌-◌, ◌≤◌, false, ◌==◌, nat_eq, List, filter, find, bytes_eq, Option, Contains}
use Rattle.std.specs.List.{starts_with}
use Rattle.std.specs.List.Sorted.{IsStrictlySortedBy}
use Rattle.index_entry.specs.Facts.{Facts}
use Rattle.index_entry.specs.Order.{order, comes_before}

-- the entry of a number
abbrev pub with_number : ℕ → List Facts → Option Facts
with_number number entries = find (λ e. e.number == number) entries

-- the entries of a key
abbrev pub of_key : List ℕ → List Facts → List Facts
of_key key entries = filter (λ e. bytes_eq key e.key) entries

-- the entries whose key begins with these bytes
abbrev pub starting_with : List ℕ → List Facts → List Facts
starting_with start entries = filter (λ e. starts_with nat_eq e.key start) entries

-- how far two dates are apart
abbrev pub distance : ℕ → ℕ → ℕ
distance a b = (a - b) + (b - a)

-- Of the entries of a key, this one is nearest to a time, and the first of those that are as near.
pub record IsNearest (entries : List Facts) (key : List ℕ) (time : ℕ) (entry : Facts) : Type 0 where
  pub member : Contains entries entry
  pub keyed : entry.key ≡ key
  pub least : (other : Facts) → Contains entries other → other.key ≡ key → distance entry.date time ≤ distance other.date time
  pub first : (other : Facts) → Contains entries other → other.key ≡ key → distance other.date time ≡ distance entry.date time → comes_before other entry ≡ false

-- no entry has the key
abbrev pub HasNone : List Facts → List ℕ → Type 0
HasNone entries key = (other : Facts) → Contains entries other → other.key ≡ key → ⊥

-- the entries are in order, and no two have one number
pub record IsIndex (entries : List Facts) : Type 0 where
  pub in_order : IsStrictlySortedBy order entries
  pub alone : (a b : Facts) → Contains entries a → Contains entries b → a.number ≡ b.number → a ≡ b
