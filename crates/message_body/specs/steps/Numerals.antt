-- Numbers that digits write, of any size.
use Rattle.std.specs.Prelude.{◌≡◌, ◌≢◌, ℕ, true, List, slice_index_or}
use Rattle.std.specs.Char.{is_ascii_digit}
use Rattle.std.specs.List.{list_all}
use Rattle.httparse.specs.Ascii.{digit_zero}

-- digits that don't begin with a zero; none write 0
pub record IsNumeral (digits : List ℕ) : Type 0 where
  pub are_digits : list_all is_ascii_digit digits ≡ true
  pub no_zero : slice_index_or digits 0 0 ≢ digit_zero
