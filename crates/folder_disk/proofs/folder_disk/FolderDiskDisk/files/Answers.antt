-- What a crash may leave follows from what it might have left.
use Rattle.std.proofs.Common.{subst}
use Rattle.folder_disk.specs.Kept.{Kept, state_in}
use Rattle.held_folder.specs.State.{images}
use Rattle.folder_disk.proofs.folder_disk.FolderDiskDisk.files.Goals as goal

pub returns-clause-crash : goal.returns-clause-crash
returns-clause-crash g c = λ image left.
    subst (λ (d : Kept g.row.S-Folder.Denot). images g.S.Folder.Folder.tells g.N.FileNames.name (state_in g.S.Folder.Folder.past d.held) image) c.self.view_is (c.files-answer.ensures.looks.crash image left)
