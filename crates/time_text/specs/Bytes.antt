-- Bytes of texts, in ASCII.
use Rattle.std.specs.Prelude.{ℕ, ◌≤◌}

-- `0` to `9`
abbrev pub IsDigit : ℕ → Type 0
IsDigit byte = (48 ≤ byte) × (byte ≤ 57)

-- neither a blank nor a control, such as a line end
abbrev pub IsVisible : ℕ → Type 0
IsVisible byte = (33 ≤ byte) × (byte ≤ 126)
