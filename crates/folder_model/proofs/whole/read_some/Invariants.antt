-- An interrupted read leaves the folder's past.
use Rattle.std.proofs.Common.{◌≡◌, IsTrue}
use Rattle.folder_model.proofs.whole.read_some.Given as goal

abbrev pub invariant-loop : goal.invariant-loop
invariant-loop g l = IsTrue g.F.Folder.tells → g.F.Folder.past l.folder ≡ g.F.Folder.past l.fn.folder
