use Rattle.std.proofs.Common.{◌≡◌, ◌-◌, ◌≤◌, ℕ, List, IsTrue, length}
use Rattle.warc_journal.specs.Journals.{disk_of}
use Rattle.warc_text.specs.Books.{IsVolumeText}
use Rattle.archive_reading.specs.Bringing.{OnlyReads}
use Rattle.archive_volumes.specs.Held.{book_of}
use Rattle.volume_lines.proofs.WalkLaws.{HasTold, HasWalked, HaveTold}
use Rattle.volume_lines.proofs.lines.lines_of.Given as goal

abbrev pub invariant-captures : goal.invariant-captures
invariant-captures g l =
    record {
      reads : OnlyReads g.D.Disk l.fn.volumes l.volumes;
      faults : g.D.Disk.faults (disk_of l.volumes.journal) ≡ g.D.Disk.faults (disk_of l.fn.volumes.journal);
      from : l.fn.volume.first ≤ l.number;
      to : l.number ≤ l.number-end;
      walked : HasWalked l.fn.volume.volume l.fn.volume.first l.lines.items (l.number - l.fn.volume.first);
      kept : HaveTold l.fn.spots l.fn.volume.first l.lines.items (l.number - l.fn.volume.first);
      told : IsTrue l.fn.told.value → (text : List ℕ) (is : IsVolumeText (book_of l.fn.volumes.held) l.fn.volume.volume text)
          → length text ≤ l.walk.end → HasTold is l.lines.items (l.number - l.fn.volume.first) l.at;
    }
