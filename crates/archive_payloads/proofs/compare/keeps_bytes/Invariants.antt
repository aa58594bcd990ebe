-- What came so far is alike; the disk was only read, and no fault was met.
use Rattle.std.proofs.Common.{◌≡◌, ◌-◌, ◌≤◌, IsTrue, length, take}
use Rattle.warc_journal.specs.Journals.{disk_of, texts}
use Rattle.archive_reading.specs.Bringing.{OnlyReads}
use Rattle.archive_volumes.specs.Spots.{wire_in}
use Rattle.archive_payloads.proofs.compare.keeps_bytes.Given as goal

abbrev pub invariant-comparing : goal.invariant-comparing
invariant-comparing g l =
    record {
      within : l.done ≤ length l.fn.bytes;
      reads : OnlyReads g.D.Disk l.fn.volumes l.volumes;
      faults : g.D.Disk.faults (disk_of l.volumes.journal) ≡ g.D.Disk.faults (disk_of l.fn.volumes.journal);
      alike : IsTrue g.D.Disk.tells → take l.done (wire_in (texts g.D.Disk l.fn.volumes.journal) l.fn.spot) ≡ take l.done l.fn.bytes;
    }

abbrev pub decreases-comparing : goal.decreases-comparing
decreases-comparing g l = length l.fn.bytes - l.done
