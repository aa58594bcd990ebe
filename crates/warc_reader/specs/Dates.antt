-- WARC-Date as other tools write it (ISO 28500:2017, 5.4): `YYYY-MM-DDThh:mm:ss`, a fraction of none or one to nine digits, and
-- `Z`. A date is a number of milliseconds since 1970-01-01T00:00:00Z; what is finer is dropped.
use Rattle.std.specs.Prelude.{◌≡◌, ℕ, ◌+◌, ◌-◌, ◌*◌, ◌%◌, ◌≤◌, true, List, [], ◌∷◌, ◌++◌, codes, length, slice_index_or}
use Rattle.std.specs.Char.{is_ascii_digit}
use Rattle.std.specs.List.{list_all}
use Rattle.httparse.specs.Ascii.{digit_zero}
use Rattle.time_text.specs.Texts.{InRange, warc_date}

-- a point and the digits, if there are any
abbrev pub print_fraction : List ℕ → List ℕ
print_fraction [] = []
print_fraction (digit ∷ digits) = 46 ∷ digit ∷ digits

-- the number of the digit at that place, 0 where there is none
abbrev pub digit_at : List ℕ → ℕ → ℕ
digit_at digits place = slice_index_or digits place digit_zero - digit_zero

-- the whole milliseconds of a fraction
abbrev pub milliseconds : List ℕ → ℕ
milliseconds digits = digit_at digits 0 * 100 + digit_at digits 1 * 10 + digit_at digits 2

-- the text of a whole second is this front and a `Z`
pub record IsSecond (front : List ℕ) (second : ℕ) : Type 0 where
  pub in_range : InRange second
  pub whole : second % 1000 ≡ 0
  pub text_is : warc_date second ≡ front ++ codes "Z"

-- at most nine digits
pub record IsFraction (digits : List ℕ) : Type 0 where
  pub are_digits : list_all is_ascii_digit digits ≡ true
  pub few : length digits ≤ 9

-- the text is a date of the years 1970 to 9999
pub record IsDateText (text : List ℕ) (date : ℕ) : Type 0 where
  pub front : List ℕ
  pub second : ℕ
  pub digits : List ℕ
  pub is_second : IsSecond front second
  pub is_fraction : IsFraction digits
  pub text_is : text ≡ front ++ print_fraction digits ++ codes "Z"
  pub date_is : date ≡ second + milliseconds digits
