use Rattle.std.proofs.Common.{◌≡◌, ◌≤◌, drop, length}
use Rattle.disk_model.specs.steps.Pending.{pending_of}
use Rattle.disk_model.specs.steps.Synced.{Marks}
use Rattle.disk_model.proofs.synced.pending_marks.Given as goal

abbrev pub invariant-loop-i : goal.invariant-loop-i
invariant-loop-i l = record {
  within : l.i ≤ length l.changes;
  size : length l.marks.items ≡ length l.changes;
  seen : Marks l.synced (drop l.i l.changes);
  marks : drop l.i l.marks.items ≡ pending_of (drop l.i l.changes);
}

abbrev pub decreases-loop-i : goal.decreases-loop-i
decreases-loop-i l = l.i
