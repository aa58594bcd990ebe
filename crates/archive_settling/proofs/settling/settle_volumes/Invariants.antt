use Rattle.std.proofs.Common.{◌≡◌, ◌+◌, ◌-◌, ◌≤◌, IsTrue, length}
use Rattle.warc_journal.specs.Journals.{disk_of}
use Rattle.archive_volumes.specs.Held.{book_of}
use Rattle.archive_settling.specs.Supplying.{KeepsVolumes, Went, shelved_as}
use Rattle.archive_settling.proofs.settling.settle_volumes.Given as goal

abbrev pub invariant-volumes : goal.invariant-volumes
invariant-volumes g l =
    record {
      keeps : KeepsVolumes g.D.Disk l.fn.told.value l.fn.volumes l.volumes;
      went : IsTrue g.D.Disk.tells → Went g.D.Disk (shelved_as l.fn.told.value (book_of l.fn.volumes.held) l.fn.spots) l.settled l.written
          (disk_of l.fn.volumes.journal) (disk_of l.volumes.journal);
      faults : g.D.Disk.faults (disk_of l.volumes.journal) ≡ g.D.Disk.faults (disk_of l.fn.volumes.journal);
      within : l.settled ≤ length l.facts.items - 1;
      few : l.fn.settled + l.written ≤ l.settled;
      more : l.fn.settled ≤ l.settled;
      unasked : l.settled ≡ l.fn.settled → l.volumes ≡ l.fn.volumes;
    }

abbrev pub decreases-volumes : goal.decreases-volumes
decreases-volumes g l = length l.facts.items - l.settled
