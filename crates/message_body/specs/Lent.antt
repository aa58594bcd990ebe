-- A payload that is the wire itself, or was joined from its chunks.
use Rattle.std.specs.Prelude.{ℕ, List, Option, Some, None}

-- what was joined, or else the wire
abbrev pub joined_or : Option (List ℕ) → List ℕ → List ℕ
joined_or (Some joined) wire = joined
joined_or None wire = wire
