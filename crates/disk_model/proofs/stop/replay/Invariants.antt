use Rattle.std.proofs.Common.{◌≡◌, drop}
use Rattle.disk_model.specs.Changes.{replayed}
use Rattle.disk_model.specs.steps.Pending.{kept_changes}
use Rattle.disk_model.proofs.stop.replay.Given as goal

abbrev pub invariant-loop-i : goal.invariant-loop-i
invariant-loop-i l = replayed (kept_changes l.left (drop l.i l.changes)) l.files ≡ replayed (kept_changes l.fn.budget l.changes) l.first
