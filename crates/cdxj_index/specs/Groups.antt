-- Entries in order, in groups of one key.
use Rattle.std.specs.Prelude.{ℕ, ◌≢◌, List, [], Contains}
use Rattle.std.specs.Cmp.Lexicographic.{slice_cmp}
use Rattle.std.specs.List.Sorted.{IsStrictlySortedBy}
use Rattle.std.specs.Map.{keys_of}
use Rattle.std.specs.Ordering.{nat_cmp}
use Rattle.cdxj_index.specs.Maps.{AreOfKey, Captures, shown}

-- a key and its captures
abbrev pub Group : Type 0
Group = List ℕ × Captures

-- the captures are those of the key, and there are some
pub record IsGroup (group : Group) : Type 0 where
  pub of_key : AreOfKey group.0 group.1
  pub some : shown group.1 ≢ []

-- the keys are in order, and each has captures of its own
pub record AreGroups (groups : List Group) : Type 0 where
  pub ordered : IsStrictlySortedBy (slice_cmp nat_cmp) (keys_of groups)
  pub each : (group : Group) → Contains groups group → IsGroup group
