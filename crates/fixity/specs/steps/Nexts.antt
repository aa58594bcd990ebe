-- What stands next in a volume, of all that it has there.
use Rattle.std.specs.Prelude.{◌≡◌, ◌<◌, ◌≤◌, ℕ, List, Option, Some, None, ⊤}
use Rattle.warc_scan.specs.Answers.{BeginsWithGroup}
use Rattle.warc_scan.specs.declared.group.Group.{Group}
use Rattle.fixity.specs.Verdicts.{InfoEndsAt}
use Rattle.fixity.specs.declared.next.Next.{Next}
use Rattle.fixity.specs.declared.next.Next.TheVariants.{Stands, Missing, Need}

-- a group of this length, or none
abbrev pub IsNextGroup : List ℕ → ℕ → List ℕ → Next → Type 0
IsNextGroup namespace number rest (Stands len) = (group : Group) × BeginsWithGroup namespace number rest group × (len ≡ group.len)
IsNextGroup namespace number rest Missing = (group : Group) → ¬ (BeginsWithGroup namespace number rest group)
IsNextGroup namespace number rest (Need n) = ⊤

-- of what was read, and of what there is
abbrev pub Fits : ℕ → ℕ → Next → Type 0
Fits read room (Stands len) = len ≤ read
Fits read room Missing = ⊤
Fits read room (Need n) = (read < n) × (n ≤ room)

-- where the warcinfo ends, or that there is none
abbrev pub IsInfoEnd : ℕ → List ℕ → List ℕ → Option ℕ → Type 0
IsInfoEnd number namespace bytes (Some place) = InfoEndsAt number namespace bytes place
IsInfoEnd number namespace bytes None = (place : ℕ) → ¬ (InfoEndsAt number namespace bytes place)
