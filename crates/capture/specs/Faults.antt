-- Counts of faults: how often an object of the outside has failed. A count is kept in 64 bits, and at its
-- greatest value it stands still.
use Rattle.std.specs.Prelude.{◌≡◌, ℕ, ◌+◌, ◌-◌, ◌^◌, ◌≤◌, min, Result, OnOk, OnErr}

-- The count has risen by so much at least, or stands at its end.
abbrev pub RoseBy : ℕ → ℕ → ℕ → Type 0
RoseBy much before now = min (before + much) (2 ^ 64 - 1) ≤ now

-- The count has risen by one at least, or stands at its end.
abbrev pub Rose : ℕ → ℕ → Type 0
Rose before now = RoseBy 1 before now

-- A call counts its fault: the count doesn't fall, stays where the call succeeds, and rises where it fails.
pub record CountsFaults {T E : Type 0} (before now : ℕ) (result : Result T E) : Type 0 where
  pub later : before ≤ now
  pub steady : OnOk result (now ≡ before)
  pub rose : OnErr result (Rose before now)
