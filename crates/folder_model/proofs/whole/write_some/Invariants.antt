-- An interrupted write leaves the part so far.
use Rattle.std.proofs.Common.{◌≡◌, ◌+◌, ℕ, IsTrue}
use Rattle.folder_model.specs.Folder.{FolderPast}
use Rattle.folder_model.specs.Whole.{IsWriting}
use Rattle.folder_model.proofs.whole.write_some.Given as goal

abbrev pub invariant-loop : goal.invariant-loop
invariant-loop g l =
    IsTrue g.F.Folder.tells → (old : FolderPast) (at : ℕ) → l.place ≡ at + l.done
    → IsWriting (g.F.Folder.name_of l.file) at l.bytes l.done old (g.F.Folder.past l.fn.folder)
    → IsWriting (g.F.Folder.name_of l.file) at l.bytes l.done old (g.F.Folder.past l.folder)
