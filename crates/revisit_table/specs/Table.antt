-- A table of digests: which captures have which digest.
use Rattle.std.specs.Prelude.{ℕ, not, ◌==◌, List, [], ◌∷◌, ◌++◌, map, filter, Option, None, Some}
use Rattle.std.specs.Str.{bytes_eq}

-- what was added and not taken back, each digest with the number of its capture, and the digest for which room is reserved
pub record Table : Type 0 where
  pub kept : List (List ℕ × ℕ)
  pub reserved : Option (List ℕ)

-- nothing was added, and no room is reserved
abbrev pub empty_table : Table
empty_table = record { kept = []; reserved = None }

-- these were added, and no room is reserved
abbrev pub table_of : List (List ℕ × ℕ) → Table
table_of kept = record { kept = kept; reserved = None }

-- the numbers of the captures that have a digest, in the order of the list
abbrev pub numbers_of : List ℕ → List (List ℕ × ℕ) → List ℕ
numbers_of digest kept = map (λ entry. entry.1) (filter (λ entry. bytes_eq entry.0 digest) kept)

-- the table with room for one capture of this digest
abbrev pub with_room : Table → List ℕ → Table
with_room table digest = record { kept = table.kept; reserved = Some digest }

-- the table with one more capture, which took the room
abbrev pub with_added : Table → List ℕ → ℕ → Table
with_added table digest number = record { kept = table.kept ++ (digest, number) ∷ []; reserved = None }

-- the entries whose number is another
abbrev pub without : ℕ → List (List ℕ × ℕ) → List (List ℕ × ℕ)
without number kept = filter (λ entry. not (entry.1 == number)) kept

-- the table without the capture of this number, if it's there
abbrev pub with_taken_back : Table → ℕ → Table
with_taken_back table number = record { kept = without number table.kept; reserved = table.reserved }

-- what is kept for a table that is made once it is asked: all captures, and the last of them, which aren't in the table yet
pub record LazyTable : Type 0 where
  pub kept : List (List ℕ × ℕ)
  pub waiting : List (List ℕ × ℕ)

abbrev pub empty_lazy_table : LazyTable
empty_lazy_table = record { kept = []; waiting = [] }

-- all are in the table
abbrev pub settled_table : List (List ℕ × ℕ) → LazyTable
settled_table kept = record { kept = kept; waiting = [] }
