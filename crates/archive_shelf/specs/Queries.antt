-- What is answered of the entries that are shown.
use Rattle.std.specs.Prelude.{ℕ, Bool, IsTrue, List, Option, Some, None, Contains}
use Rattle.std.specs.List.Sorted.{IsStrictlySortedBy}
use Rattle.index_entry.specs.Facts.{Facts}
use Rattle.index_entry.specs.Order.{order}
use Rattle.index_entry.specs.Queries.{HasNone, IsNearest}

-- the entry of the key that is nearest to the time, the first in order of those that are as near; or the key has none
-- (RFC 7089, section 4.1.1)
abbrev pub IsFound : List Facts → List ℕ → ℕ → Option Facts → Type 0
IsFound shown key time (Some entry) = IsNearest shown key time entry
IsFound shown key time None = HasNone shown key

-- just those entries that are picked, in order of key, date and number
pub record ArePicked (picks : Facts → Bool) (shown found : List Facts) : Type 0 where
  pub in_order : IsStrictlySortedBy order found
  pub picked : (entry : Facts) → Contains found entry → IsTrue (picks entry)
  pub from : (entry : Facts) → Contains found entry → Contains shown entry
  pub all : (entry : Facts) → Contains shown entry → IsTrue (picks entry) → Contains found entry
