-- The entries of an index are in order of their dates, if they are of one key.
use Rattle.std.specs.Prelude.{ℕ, List}
use Rattle.std.specs.List.Sorted.{IsNonDecreasingBy}
use Rattle.index_entry.specs.Facts.{Facts}
use Rattle.index_entry.specs.Queries.{IsIndex, of_key}

abbrev pub KeysAreInOrder : Type 0
KeysAreInOrder =
    (entries : List Facts) (key : List ℕ) → IsIndex entries → IsNonDecreasingBy (λ (e : Facts). e.date) (of_key key entries)
