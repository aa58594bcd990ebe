-- What an archive shows of its index: the entries in order of their numbers.
use Rattle.std.specs.Prelude.{nat_lt, List, [], ◌∷◌, if◌then◌else◌}
use Rattle.index_entry.specs.Facts.{Facts}

-- the entries in order of numbers, with one more in its place
abbrev pub put : Facts → List Facts → List Facts
put entry [] = entry ∷ []
put entry (first ∷ others) = if nat_lt entry.number first.number then entry ∷ first ∷ others else first ∷ put entry others

-- entries in order of their numbers
abbrev pub numbered : List Facts → List Facts
numbered [] = []
numbered (first ∷ others) = put first (numbered others)
