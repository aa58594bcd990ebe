-- No candidate so far is the one that is told of; the disk was only read, and no fault was met.
use Rattle.std.proofs.Common.{◌≡◌, ◌≤◌, ℕ, IsTrue}
use Rattle.warc_journal.specs.Journals.{disk_of}
use Rattle.archive_reading.specs.Bringing.{OnlyReads}
use Rattle.archive_volumes.specs.Held.{book_of}
use Rattle.archive_reading.specs.Rereading.{IsFirstTold}
use Rattle.archive_payloads.proofs.original.original_payload.Given as goal

abbrev pub invariant-loop-candidate : goal.invariant-loop-candidate
invariant-loop-candidate g l =
    record {
      reads : OnlyReads g.D.Disk l.fn.volumes l.volumes;
      faults : g.D.Disk.faults (disk_of l.volumes.journal) ≡ g.D.Disk.faults (disk_of l.fn.volumes.journal);
      none : IsTrue l.fn.told.value → (first : ℕ) (is : IsFirstTold (book_of l.fn.volumes.held) l.fn.same l.fn.candidates first) → l.candidate-index ≤ is.place;
    }
