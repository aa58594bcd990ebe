-- No candidate so far is the one; the disk was only read, and no fault was met.
use Rattle.std.proofs.Common.{◌≡◌, IsTrue}
use Rattle.warc_journal.specs.Journals.{disk_of}
use Rattle.archive_reading.specs.Bringing.{OnlyReads}
use Rattle.archive_volumes.specs.Held.{book_of}
use Rattle.archive_pieces.specs.PieceOriginals.{NoneIs}
use Rattle.archive_pieces.proofs.original.first_original.Given as goal

abbrev pub invariant-loop-candidate : goal.invariant-loop-candidate
invariant-loop-candidate g l =
    record {
      reads : OnlyReads g.D.Disk l.fn.volumes l.volumes;
      faults : g.D.Disk.faults (disk_of l.volumes.journal) ≡ g.D.Disk.faults (disk_of l.fn.volumes.journal);
      none : IsTrue l.fn.told.value → NoneIs (book_of l.fn.volumes.held) l.fn.group l.fn.candidates l.candidate-index;
    }
