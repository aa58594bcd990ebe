-- Dialers of the system.
use Rattle.std.specs.Prelude.{◌≡◌, ℕ, ◌≤◌, Bool, true, false}
use Rattle.capture.specs.Faults.{Rose}
use Rattle.outside.specs.declared.dialer.DialError.{DialError}
use Rattle.outside.specs.declared.dialer.DialError.TheVariants.{Failed, Memory}
use Rattle.real_outside.specs.declared.dialer.RealDialer.{RealDialer}
use Rattle.real_outside.specs.declared.dialer.RealDialer.TheVariants.{Echo, Tcp}

-- how often a dial has failed or a link with a fault was hung up
abbrev pub dialer_faults : {R : Type 0} → RealDialer R → ℕ
dialer_faults (Echo alloc faults) = faults
dialer_faults (Tcp dialer faults) = faults

-- A dial that failed is counted, and want of memory is not.
abbrev pub CountsDialError : ℕ → ℕ → DialError → Type 0
CountsDialError before now Failed = (before ≤ now) × Rose before now
CountsDialError before now Memory = now ≡ before

-- whether a dialer leads to the trial origin
abbrev pub is_echo : {R : Type 0} → RealDialer R → Bool
is_echo (Echo alloc faults) = true
is_echo (Tcp dialer faults) = false
