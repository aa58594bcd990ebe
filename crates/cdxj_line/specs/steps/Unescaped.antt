-- The byte that the front of a string stands for.
use Rattle.std.specs.Prelude.{ℕ, ◌+◌, ◌-◌, ◌==◌, nat_lt, List, slice_index, if◌then◌else◌}

-- the number of a hexadecimal digit in lower case
abbrev pub hex_number : ℕ → ℕ
hex_number digit = if nat_lt digit 97 then digit - 48 else digit - 87

-- the control of a long escape, by the last two of its digits
abbrev pub control_of : ℕ → ℕ → ℕ
control_of high low = if high == 49 then 16 + hex_number low else hex_number low

-- the byte whose short escape has the letter
abbrev pub byte_of : ℕ → ℕ
byte_of letter =
    if letter == 98 then 8 else (if letter == 102 then 12 else (if letter == 110 then 10 else (if letter == 114 then 13 else (if letter == 116 then 9 else letter))))

-- the byte of an escape that begins with a backslash
abbrev pub escaped_byte : List ℕ → ℕ
escaped_byte text = if slice_index text 1 == 117 then control_of (slice_index text 4) (slice_index text 5) else byte_of (slice_index text 1)

-- the byte that the front of a text stands for, where it stands for one
abbrev pub byte_told : List ℕ → ℕ
byte_told text = if slice_index text 0 == 92 then escaped_byte text else slice_index text 0
