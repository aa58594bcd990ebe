use Rattle.std.proofs.Common.{◌≡◌, ◌≤◌, ◌-◌, IsTrue}
use Rattle.warc_journal.specs.Extents.{warc_files}
use Rattle.warc_journal.specs.Journals.{Rests}
use Rattle.volume_scan.specs.steps.Readings.{IsAt}
use Rattle.volume_scan.specs.Windows.{IsInside, Shows}
use Rattle.volume_scan.proofs.asking.read_group.Given as goal

abbrev pub invariant-asking : goal.invariant-asking
invariant-asking g l = record {
  at : IsAt l.window l.fn.window.file l.fn.place;
  inside : IsInside l.window;
  len : l.window.len ≡ l.fn.window.len;
  shows : IsTrue g.D.Disk.tells → Shows l.window (warc_files (g.D.Disk.reading l.disk));
  least : 2 ≤ l.least;
  rests : IsTrue g.D.Disk.tells → Rests g.D.Disk l.fn.disk l.disk;
  faults : g.D.Disk.faults l.disk ≡ g.D.Disk.faults l.fn.disk;
}

abbrev pub decreases-asking : goal.decreases-asking
decreases-asking g l = l.fn.window.len - l.fn.place - l.least
