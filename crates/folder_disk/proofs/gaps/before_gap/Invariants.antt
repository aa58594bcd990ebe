-- Each checkpoint so far is there, and the folder's past is the same.
use Rattle.std.proofs.Common.{◌≡◌, IsTrue}
use Rattle.disk_model.specs.declared.kind.Kind.TheVariants.{Cdxj}
use Rattle.folder_files.specs.Counting.{HasBelow}
use Rattle.folder_disk.proofs.gaps.before_gap.Given as goal

abbrev pub invariant-loop-file : goal.invariant-loop-file
invariant-loop-file g l =
    (IsTrue g.F.Folder.tells → g.F.Folder.past l.folder ≡ g.F.Folder.past l.fn.folder)
    × (IsTrue g.F.Folder.tells → HasBelow g.N.FileNames.name (g.F.Folder.past l.fn.folder) Cdxj l.file)
