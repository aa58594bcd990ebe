-- What was checked, up to the volumes that are left.
use Rattle.std.specs.Prelude.{◌≡◌, All, IsTrue, length}
use Rattle.verifying.specs.steps.Verifying.{HasChecked, IsSmall, IsThere}
use Rattle.verifying.proofs.verifying.check_all.Given as goal

abbrev pub invariant-volumes : goal.invariant-volumes
invariant-volumes g l = record {
  checked : HasChecked g.D.Disk.tells (g.D.Disk.reading l.fn.disk) l.fn.plan l.rest l.report;
  small : All IsSmall l.rest;
  there : IsTrue g.D.Disk.tells → All (IsThere (g.D.Disk.reading l.fn.disk)) l.rest;
  reading : IsTrue g.D.Disk.tells → g.D.Disk.reading l.disk ≡ g.D.Disk.reading l.fn.disk;
  faults : g.D.Disk.faults l.disk ≡ g.D.Disk.faults l.fn.disk;
}

abbrev pub decreases-volumes : goal.decreases-volumes
decreases-volumes g l = length l.rest
