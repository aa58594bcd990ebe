use Rattle.std.proofs.Common.{◌≡◌, IsTrue}
use Rattle.volume_scan.specs.Scannings.{IsInPlace, disk_of}
use Rattle.warc_journal.specs.Journals.{Rests}
use Rattle.archive_gathering.specs.Gathering.{IsSteady}
use Rattle.archive_opening.specs.Following.{Follows, left}
use Rattle.archive_opening.proofs.opening.read_all.Given as goal

abbrev pub invariant-steps : goal.invariant-steps
invariant-steps g l = record {
  in_place : IsInPlace g.D.Disk l.scanning;
  steady : IsSteady l.gathered;
  follows : Follows g.D.Disk l.scanning l.gathered;
  rests : IsTrue g.D.Disk.tells → Rests g.D.Disk (disk_of l.fn.scanning) (disk_of l.scanning);
  faults : g.D.Disk.faults (disk_of l.scanning) ≡ g.D.Disk.faults (disk_of l.fn.scanning);
}

abbrev pub decreases-steps : goal.decreases-steps
decreases-steps g l = left l.scanning
