use Rattle.std.proofs.Common.{◌≡◌, false, take}
use Rattle.std.specs.List.{list_any}
use Rattle.disk_model.specs.Changes.{keeps_file}
use Rattle.disk_model.proofs.synced.keep.Given as goal

abbrev pub invariant-loop-change : goal.invariant-loop-change
invariant-loop-change l = list_any (keeps_file l.kind l.file) (take l.change-index l.changes) ≡ false
