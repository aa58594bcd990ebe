-- Bytes that are given once.
use Rattle.std.specs.Prelude.{ℕ, List, [], Bool, false}

-- The bytes given so far, those that are left to give, and whether the end was met.
pub record SourceInMemory : Type 0 where
  pub given : List ℕ
  pub left : List ℕ
  pub ended : Bool

-- none is given yet
abbrev pub new_source : List ℕ → SourceInMemory
new_source bytes = record { given = []; left = bytes; ended = false }
