use Rattle.std.proofs.Common.{◌≡◌, IsTrue}
use Rattle.volume_scan.specs.Scannings.{IsInPlace, disk_of, position_of}
use Rattle.archive_volumes.specs.Held.{book_of}
use Rattle.warc_journal.specs.Journals.{Rests}
use Rattle.archive_opening.specs.Counting.{CountsOn}
use Rattle.archive_gathering.specs.Gathering.{IsSteady}
use Rattle.archive_opening.specs.Following.{left}
use Rattle.archive_opening.specs.Telling.{GoesWith, ReadsWhole}
use Rattle.archive_opening.proofs.telling.read_each.Given as goal

abbrev pub invariant-steps : goal.invariant-steps
invariant-steps g l = record {
  in_place : IsInPlace g.D.Disk l.scanning;
  steady : IsSteady l.gathered;
  goes : GoesWith g.D.Disk l.fn.known.value l.scanning l.gathered;
  counts : IsTrue g.D.Disk.tells → CountsOn (g.D.Disk.reading (disk_of l.scanning)) (position_of l.scanning) (book_of l.gathered.held);
  whole : ReadsWhole g.D.Disk l.fn.scanning l.fn.gathered → ReadsWhole g.D.Disk l.scanning l.gathered;
  rests : IsTrue g.D.Disk.tells → Rests g.D.Disk (disk_of l.fn.scanning) (disk_of l.scanning);
  faults : g.D.Disk.faults (disk_of l.scanning) ≡ g.D.Disk.faults (disk_of l.fn.scanning);
}

abbrev pub decreases-steps : goal.decreases-steps
decreases-steps g l = left l.scanning
