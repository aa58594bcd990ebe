-- The bytes so far stand in their place.
use Rattle.std.proofs.Common.{◌≤◌, ◌-◌, IsTrue, length}
use Rattle.folder_model.specs.Whole.{IsWriting}
use Rattle.folder_model.proofs.whole.write_whole.Given as goal

abbrev pub invariant-loop-done : goal.invariant-loop-done
invariant-loop-done g l =
    (l.done ≤ length l.bytes)
    × (IsTrue g.F.Folder.tells → IsWriting (g.F.Folder.name_of l.file) l.at l.bytes l.done (g.F.Folder.past l.fn.folder) (g.F.Folder.past l.folder))

abbrev pub decreases-loop-done : goal.decreases-loop-done
decreases-loop-done g l = length l.bytes - l.done
