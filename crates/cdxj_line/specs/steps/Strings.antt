-- Where a JSON string ends.
use Rattle.std.specs.Prelude.{ℕ, suc, Bool, not, ◌&&◌, ◌==◌, List, [], ◌∷◌, if◌then◌else◌}

-- the byte is such a mark, and stands behind no backslash that escapes it
abbrev pub is_mark : Bool → ℕ → ℕ → Bool
is_mark escaped byte mark = not escaped && (byte == mark)

-- how many bytes stand before the quote that closes a string; the first of them may be escaped
abbrev pub string_len : Bool → List ℕ → ℕ
string_len escaped [] = 0
string_len escaped (b ∷ bs) = if is_mark escaped b 34 then 0 else suc (string_len (is_mark escaped b 92) bs)

-- the byte is neither a quote nor a backslash
abbrev pub is_unmarked : ℕ → Bool
is_unmarked b = not (b == 34) && not (b == 92)
