-- The calls of an object in memory: they are numbered from 0, and those of listed numbers fail.
use Rattle.std.specs.Prelude.{ℕ, ◌+◌, ◌-◌, ◌^◌, ◌==◌, min, List, Bool}
use Rattle.std.specs.List.{list_any}
use Rattle.outside.specs.declared.calls.Calls.{Calls}

-- one more than a count in 64 bits, which stands still at its greatest value
abbrev pub one_more : ℕ → ℕ
one_more count = min (count + 1) (2 ^ 64 - 1)

-- no call so far
abbrev pub new_calls : List ℕ → Calls
new_calls fails = record { fails = fails; made = 0; faults = 0 }

-- whether the next call is to fail: its number is listed
abbrev pub is_listed : Calls → Bool
is_listed calls = list_any (λ number. number == calls.made) calls.fails

-- after a call that didn't fail
abbrev pub passed : Calls → Calls
passed calls = record calls { made = one_more calls.made }

-- after a call that failed
abbrev pub failed : Calls → Calls
failed calls = record calls { made = one_more calls.made; faults = one_more calls.faults }
