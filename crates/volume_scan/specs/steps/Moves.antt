-- The parts of a step.
use Rattle.std.specs.Prelude.{◌≡◌, IsTrue, Result, IfErr, IfOk, OnErr}
use Rattle.disk_model.specs.declared.disk.Disk.{Ghosts}
use Rattle.warc_journal.specs.Journals.{Rests}
use Rattle.volume_scan.specs.Scannings.{CountsDisk, Finds, IsDamage, IsInPlace, disk_of, file_count, position_of}
use Rattle.volume_scan.specs.declared.fault.ScanFault.{ScanFault}
use Rattle.volume_scan.specs.declared.found.Found.{Found}
use Rattle.volume_scan.specs.declared.scanning.Scanning.{Scanning}

-- a scan read on, and stands where it stood
pub record Keeps {D : Type 0} (d : Ghosts D) (old new : Scanning D) : Type 0 where
  pub position : position_of new ≡ position_of old
  pub count : file_count new ≡ file_count old
  pub len : new.len ≡ old.len
  pub in_place : IsInPlace d new
  pub rests : IsTrue d.tells → Rests d (disk_of old) (disk_of new)

-- all that a step says
pub record Comes {D : Type 0} (d : Ghosts D) (old new : Scanning D) (result : Result Found ScanFault) : Type 0 where
  pub finds : IfOk result (Finds d old new)
  pub damage : IfErr result (IsDamage d old)
  pub stays : OnErr result (position_of new ≡ position_of old)
  pub in_place : IsInPlace d new
  pub count : file_count new ≡ file_count old
  pub rests : IsTrue d.tells → Rests d (disk_of old) (disk_of new)
  pub faults : CountsDisk (d.faults (disk_of old)) (d.faults (disk_of new)) result

-- a scan goes on to another position over the same disk
pub record Moves {D : Type 0} (d : Ghosts D) (old new : Scanning D) : Type 0 where
  pub disk : disk_of new ≡ disk_of old
  pub count : file_count new ≡ file_count old
  pub in_place : IsInPlace d new
