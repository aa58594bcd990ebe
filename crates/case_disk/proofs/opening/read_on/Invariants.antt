use Rattle.volume_scan.specs.Scannings.{IsInPlace}
use Rattle.case_disk.proofs.opening.read_on.Given as goal

abbrev pub invariant-reading : goal.invariant-reading
invariant-reading g l = IsInPlace g.D.Disk l.scanning
