-- The order of an index: by the bytes of the key, then by date, then by number.
use Rattle.std.specs.Prelude.{ℕ, Bool, not, ◌==◌, List, [], ◌∷◌, filter, if◌then◌else◌}
use Rattle.std.specs.declared.cmp.Ordering.{Ordering}
use Rattle.std.specs.Cmp.Lexicographic.{slice_cmp}
use Rattle.std.specs.Ordering.{nat_cmp, is_lt, ordering_then}
use Rattle.index_entry.specs.Facts.{Facts}

-- a date, and a number within the date
abbrev pub Moment : Type 0
Moment = ℕ × ℕ

-- when and as which number an entry was captured
abbrev pub moment_of : Facts → Moment
moment_of entry = (entry.date, entry.number)

-- dates in their order, and numbers within a date
abbrev pub moment_cmp : Moment → Moment → Ordering
moment_cmp a b = ordering_then (nat_cmp a.0 b.0) (nat_cmp a.1 b.1)

-- the order of two entries
abbrev pub order : Facts → Facts → Ordering
order a b = ordering_then (slice_cmp nat_cmp a.key b.key) (moment_cmp (moment_of a) (moment_of b))

-- the first of two entries comes before the second
abbrev pub comes_before : Facts → Facts → Bool
comes_before a b = is_lt (order a b)

-- the entries in order, with one more in its place
abbrev pub with_entry : Facts → List Facts → List Facts
with_entry entry [] = entry ∷ []
with_entry entry (first ∷ others) =
    if comes_before first entry then first ∷ with_entry entry others else entry ∷ first ∷ others

-- the entries but those of that number
abbrev pub without : ℕ → List Facts → List Facts
without number entries = filter (λ e. not (e.number == number)) entries
