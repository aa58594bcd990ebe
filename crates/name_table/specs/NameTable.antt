-- Tables of names in which ASCII case is ignored.
use Rattle.std.specs.Prelude.{ℕ, Bool, true, false, not, ◌&&◌, List, [], ◌∷◌}
use Rattle.std.specs.Char.{is_ascii_uppercase}
use Rattle.std.specs.Cmp.Lexicographic.{slice_cmp}
use Rattle.std.specs.Int.{is_in_range}
use Rattle.std.specs.List.{list_any, list_all}
use Rattle.std.specs.Ordering.{is_lt, nat_cmp}
use Rattle.std.specs.Str.{str_eq_ignore_ascii_case}

-- a row equals the name, ASCII case ignored (RFC 9110 section 5.1)
unfoldable pub is_named : List (List ℕ) → List ℕ → Bool
is_named rows name = list_any (λ row. str_eq_ignore_ascii_case row name) rows

-- a byte from 0x20 to 0x7E, and none of A to Z
abbrev pub is_row_byte : ℕ → Bool
is_row_byte byte = is_in_range 0x20 0x7E byte && not (is_ascii_uppercase byte)

-- one or more such bytes: a row of a table
abbrev pub is_row : List ℕ → Bool
is_row [] = false
is_row (byte ∷ bytes) = list_all is_row_byte (byte ∷ bytes)

-- each row is below the next in byte order
abbrev pub is_rising : List (List ℕ) → Bool
is_rising [] = true
is_rising (row ∷ []) = true
is_rising (row ∷ next ∷ rows) = is_lt (slice_cmp nat_cmp row next) && is_rising (next ∷ rows)

-- what the rows of a table keep
abbrev pub is_table : List (List ℕ) → Bool
is_table rows = list_all is_row rows && is_rising rows
