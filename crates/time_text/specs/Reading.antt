-- Which dates a text names.
use Rattle.std.specs.Prelude.{◌≡◌, ℕ, ◌*◌, ◌≤◌, List, [], ◌∷◌, length, take, Contains}
use Rattle.time_text.specs.Texts.{InRange, all_digits}
use Rattle.httpdate.specs.Date.{IsDateText, unix_secs}
use Rattle.httpdate.specs.declared.date.HttpDate.{HttpDate}

-- how many digits name a year, and a month, day, hour, minute, second or millisecond of it
abbrev pub lengths : List ℕ
lengths = 4 ∷ 6 ∷ 8 ∷ 10 ∷ 12 ∷ 14 ∷ 17 ∷ []

-- the text is the front of the date's digits, up to its year or a later unit
pub record Names (text : List ℕ) (date : ℕ) : Type 0 where
  pub in_range : InRange date
  pub whole_units : Contains lengths (length text)
  pub front : text ≡ take (length text) (all_digits date)

-- the earliest date that the text names
pub record IsEarliest (text : List ℕ) (date : ℕ) : Type 0 where
  pub named : Names text date
  pub earliest : (other : ℕ) → Names text other → date ≤ other

-- the text shows the date in one of the three formats of RFC 9110 (5.6.7), as `httpdate` reads them
abbrev pub IsHttpDate : List ℕ → ℕ → Type 0
IsHttpDate text date = (d : HttpDate) × IsDateText text d × (unix_secs d * 1000 ≡ date)
