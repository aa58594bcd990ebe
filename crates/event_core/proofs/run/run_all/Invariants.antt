-- The events so far were answered by the machine, and faults were counted.
use Rattle.std.proofs.Common.{◌≡◌, [], length}
use Rattle.std.specs.Prelude.{IsTrue, is_some, take}
use Rattle.capture.specs.Faults.{RoseBy}
use Rattle.disk_model.specs.contracts.memory_disk.MemoryDiskDisk.TheImpl.{ghosts}
use Rattle.warc_journal.specs.Journals.{disk_of}
use Rattle.archive_core.specs.Told.{told_of}
use Rattle.event_core.specs.Faults.{disk_faults}
use Rattle.event_core.specs.Machine.{State}
use Rattle.event_core.specs.steps.Standing.{Follows, IsStanding}
use Rattle.event_core.proofs.run.run_all.Given as goal

abbrev pub invariant-loop-event : goal.invariant-loop-event
invariant-loop-event l = record {
  count : length l.replies.items ≡ l.event-index;
  faults : RoseBy (disk_faults l.replies.items) (disk_of l.fn.archive.journal).faults (disk_of l.archive.journal).faults;
  stands : IsTrue (is_some l.fn.opening.first.value) → IsStanding l.fn.opening.limits l.fn.opening.namespace (told_of ghosts l.archive);
  runs : IsTrue (is_some l.fn.opening.first.value) → (start : State) → Follows l.fn.opening.limits l.fn.opening.namespace start [] [] (told_of ghosts l.fn.archive)
      → Follows l.fn.opening.limits l.fn.opening.namespace start (take l.event-index l.fn.events) l.replies.items (told_of ghosts l.archive);
}
