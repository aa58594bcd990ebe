-- The front of the range was read, and the folder's past is the same.
use Rattle.std.proofs.Common.{◌≡◌, ◌≤◌, ◌-◌, IsTrue, length, take, drop}
use Rattle.folder_model.specs.Folder.{bytes_of}
use Rattle.folder_model.proofs.whole.read_whole.Given as goal

abbrev pub invariant-loop-done : goal.invariant-loop-done
invariant-loop-done g l =
    (l.done ≤ length l.into)
    × (length l.into ≡ length l.initial.into)
    × (IsTrue g.F.Folder.tells → g.F.Folder.past l.folder ≡ g.F.Folder.past l.fn.folder)
    × (IsTrue g.F.Folder.tells → take l.done l.into ≡ take l.done (drop l.at (bytes_of (g.F.Folder.past l.fn.folder) (g.F.Folder.name_of l.file))))

abbrev pub decreases-loop-done : goal.decreases-loop-done
decreases-loop-done g l = length l.initial.into - l.done
