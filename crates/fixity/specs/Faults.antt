-- What faults a check counts.
use Rattle.std.specs.Prelude.{◌≡◌, ◌≤◌, ℕ, Result, Ok, Err}
use Rattle.capture.specs.Faults.{Rose}
use Rattle.fixity.specs.declared.fault.FixityFault.{FixityFault}
use Rattle.fixity.specs.declared.fault.FixityFault.TheVariants.{DiskFault, Memory}

-- the disk's count rises where its fault is the answer, and else stays
abbrev pub CountsDisk : {T : Type 0} → ℕ → ℕ → Result T FixityFault → Type 0
CountsDisk before now (Ok value) = now ≡ before
CountsDisk before now (Err DiskFault) = (before ≤ now) × Rose before now
CountsDisk before now (Err Memory) = now ≡ before
