-- No candidate so far has the payload, and each is passed over; the disk was only read, and no fault was met.
use Rattle.std.proofs.Common.{◌≡◌, ℕ, List, IsTrue, false}
use Rattle.capture.specs.Payload.{IsPayload}
use Rattle.warc_journal.specs.Journals.{disk_of, texts}
use Rattle.archive_reading.specs.Bringing.{OnlyReads}
use Rattle.archive_payloads.specs.Choosing.{NoneHas}
use Rattle.archive_payloads.specs.Damage.{ArePassedOver}
use Rattle.archive_volumes.specs.Held.{book_of}
use Rattle.archive_payloads.proofs.compare.choose.Given as goal

abbrev pub invariant-loop-candidate : goal.invariant-loop-candidate
invariant-loop-candidate g l =
    record {
      reads : OnlyReads g.D.Disk l.fn.volumes l.volumes;
      faults : g.D.Disk.faults (disk_of l.volumes.journal) ≡ g.D.Disk.faults (disk_of l.fn.volumes.journal);
      none : (payload : List ℕ) → IsPayload false l.fn.framing l.fn.wire payload → IsTrue l.fn.told.value
          → NoneHas (book_of l.fn.volumes.held) l.fn.candidates l.candidate-index payload;
      passed : (payload : List ℕ) → IsPayload false l.fn.framing l.fn.wire payload
          → ArePassedOver g.D.Disk.tells (texts g.D.Disk l.fn.volumes.journal) (book_of l.fn.volumes.held).namespace l.fn.spots l.fn.candidates payload l.candidate-index;
    }
