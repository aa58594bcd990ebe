-- Lengths that are told by a number of 64 bits.
use Rattle.std.specs.Prelude.{ℕ, ◌-◌, ◌^◌, min}

-- the length, or the greatest number of 64 bits where it is longer
abbrev pub capped : ℕ → ℕ
capped n = min n (2 ^ 64 - 1)
