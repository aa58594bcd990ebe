-- The entries that a list's items bring, as an index has them.
use Rattle.std.specs.Prelude.{◌≡◌, ℕ, List, [], ◌∷◌, ◌++◌, Option, Some, None, IfSome}
use Rattle.std.specs.Option.{option_map_or}
use Rattle.index_entry.specs.Facts.{Facts}
use Rattle.index_entry.specs.Order.{with_entry}
use Rattle.index_entry.specs.Queries.{with_number}

-- the entries that the items bring, in the items' order
abbrev pub entries_in : {E : Type 0} → (E → List Facts) → List E → List Facts
entries_in brings [] = []
entries_in brings (item ∷ items) = brings item ++ entries_in brings items

-- the index finds under each number the first of these entries that has it, and nothing else
abbrev pub HasEntries : List Facts → List Facts → Type 0
HasEntries index entries = (number : ℕ) → with_number number index ≡ with_number number entries

-- no entry has the number of this one, if there is one
abbrev pub IsNew : List Facts → Option Facts → Type 0
IsNew entries place = IfSome place (λ entry. with_number entry.number entries ≡ None)

-- the index with one entry more, where it has none of that number
abbrev pub absorbed : List Facts → Option Facts → List Facts
absorbed index None = index
absorbed index (Some entry) = option_map_or (λ held. index) (with_number entry.number index) (with_entry entry index)
