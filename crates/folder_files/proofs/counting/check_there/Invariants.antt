-- Each file so far is there, and the folder's past is the same.
use Rattle.std.proofs.Common.{◌≡◌, ◌≢◌, ◌<◌, ℕ, IsTrue}
use Rattle.std.specs.Prelude.{None}
use Rattle.folder_model.specs.Folder.{contents_of}
use Rattle.folder_files.proofs.counting.check_there.Given as goal

abbrev pub invariant-loop-file : goal.invariant-loop-file
invariant-loop-file g l =
    (IsTrue g.F.Folder.tells → g.F.Folder.past l.folder ≡ g.F.Folder.past l.fn.folder)
    × (IsTrue g.F.Folder.tells → (file : ℕ) → file < l.file → contents_of (g.F.Folder.past l.fn.folder) (g.N.FileNames.name l.kind file) ≢ None)
