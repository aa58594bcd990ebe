-- Clocks in memory.
use Rattle.std.specs.Prelude.{ℕ, ◌-◌, List, ◌++◌, length, take, slice_get, slice_index_or, unwrap_or, replicate}

-- What a clock in memory holds: its list of answers, and how often it was asked. That count stands still at
-- its greatest value.
pub record ClockInMemory : Type 0 where
  pub list : List ℕ
  pub asked : ℕ

-- the last of a list, or 0 where it is empty
abbrev pub last_or_zero : List ℕ → ℕ
last_or_zero list = unwrap_or (slice_get list (length list - 1)) 0

-- the answer of this number: the list in order, and then its last again
abbrev pub answer_at : List ℕ → ℕ → ℕ
answer_at list number = slice_index_or list number (last_or_zero list)

-- the first so many answers
abbrev pub first_answers : List ℕ → ℕ → List ℕ
first_answers list many = take many list ++ replicate (many - length list) (last_or_zero list)
