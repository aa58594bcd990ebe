-- What a read leaves of the part of a file that is in memory.
use Rattle.std.specs.Prelude.{◌≡◌, ◌≤◌, ℕ, ◌+◌, length, Result, IfErr, OnOk}
use Rattle.capture.specs.Faults.{Rose}
use Rattle.volume_scan.specs.declared.fault.ScanFault.{ScanFault}
use Rattle.volume_scan.specs.declared.fault.ScanFault.TheVariants.{Damaged, DiskFault, Memory}
use Rattle.volume_scan.specs.declared.window.Window.{Window}

-- it shows the file from the place on
pub record IsAt (window : Window) (file place : ℕ) : Type 0 where
  pub same : window.file ≡ file
  pub from : window.from ≤ place
  pub within : place ≤ window.from + length window.bytes.items

-- what reading alone is refused by
abbrev pub IsReadFault : ℕ → ℕ → ScanFault → Type 0
IsReadFault before now (Damaged file place) = ⊥
IsReadFault before now DiskFault = (before ≤ now) × Rose before now
IsReadFault before now Memory = now ≡ before

-- a call that reads counts its disk faults, and is refused for nothing but these and want of memory
pub record CountsRead {T : Type 0} (before now : ℕ) (result : Result T ScanFault) : Type 0 where
  pub steady : OnOk result (now ≡ before)
  pub rose : IfErr result (IsReadFault before now)
