-- Each checkpoint so far is there, and nothing was done but that missing ones were made.
use Rattle.std.proofs.Common.{IsTrue}
use Rattle.disk_model.specs.declared.kind.Kind.TheVariants.{Cdxj}
use Rattle.folder_files.specs.Counting.{HasBelow}
use Rattle.folder_disk.specs.Gaps.{OnlyFills}
use Rattle.folder_disk.proofs.gaps.fill_below.Given as goal

abbrev pub invariant-loop-file : goal.invariant-loop-file
invariant-loop-file g l =
    (IsTrue g.F.Folder.tells → OnlyFills g.N.FileNames.name (g.F.Folder.past l.fn.folder) (g.F.Folder.past l.folder))
    × (IsTrue g.F.Folder.tells → HasBelow g.N.FileNames.name (g.F.Folder.past l.folder) Cdxj l.file)
