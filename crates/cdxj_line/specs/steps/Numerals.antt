-- Numbers, by the digits that tell them.
use Rattle.std.specs.Prelude.{ℕ, Bool, not, ◌&&◌, ◌||◌, ◌==◌, List, length, slice_index}
use Rattle.std.specs.Char.{is_ascii_digit}
use Rattle.std.specs.List.{list_all}

-- digits, of which the first is a zero only where it stands alone
abbrev pub is_numeral : List ℕ → Bool
is_numeral text = not (length text == 0) && ((length text == 1) || not (slice_index text 0 == 48)) && list_all is_ascii_digit text
