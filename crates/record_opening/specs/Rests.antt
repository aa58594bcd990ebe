-- What the rest of a volume is: the bytes that are there, and those that follow where there are more.
use Rattle.std.specs.Prelude.{◌≡◌, ℕ, ◌<◌, Bool, true, false, List, [], ◌++◌, length}
use Rattle.capture.specs.Tails.{IsCommitted, IsTail}
use Rattle.warc_text.specs.StandsFor.{commit_byte}

-- what may follow the bytes: something, where the file goes on, else nothing
abbrev pub MayFollow : Bool → List ℕ → Type 0
MayFollow true after = 0 < length after
MayFollow false after = after ≡ []

-- nothing is there
abbrev pub IsEnd : Bool → List ℕ → Type 0
IsEnd more bytes = (bytes ≡ []) × (more ≡ false)

-- whatever follows, the rest is an unfinished tail
abbrev pub IsUnfinished : Bool → List ℕ → Type 0
IsUnfinished more bytes = (after : List ℕ) → MayFollow more after → IsTail commit_byte (bytes ++ after)

-- whatever follows, the rest is a committed text
abbrev pub IsCommittedRest : Bool → List ℕ → Type 0
IsCommittedRest more bytes = (after : List ℕ) → MayFollow more after → IsCommitted commit_byte (bytes ++ after)
