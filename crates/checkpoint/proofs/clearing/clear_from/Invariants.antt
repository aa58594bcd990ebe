use Rattle.std.proofs.Common.{◌≡◌, ◌-◌, ◌≤◌, IsTrue}
use Rattle.disk_model.specs.Crash.{Leaves}
use Rattle.checkpoint.specs.Clearing.{Clears}
use Rattle.checkpoint.proofs.ClearingLaws.{AreClearedTo}
use Rattle.checkpoint.proofs.clearing.clear_from.Given as goal

abbrev pub invariant-volumes : goal.invariant-volumes
invariant-volumes g l =
    record {
      clears : IsTrue g.D.Disk.tells → Clears g.D.Disk l.fn.first l.fn.disk l.disk;
      cleared : IsTrue g.D.Disk.tells → Leaves (g.D.Disk.images l.disk) (AreClearedTo l.fn.first l.volume);
      from : l.fn.first ≤ l.volume;
      faults : g.D.Disk.faults l.disk ≡ g.D.Disk.faults l.fn.disk;
    }

abbrev pub decreases-volumes : goal.decreases-volumes
decreases-volumes g l = l.count - l.volume
