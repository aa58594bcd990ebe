-- What a crash may leave follows from what it might have left.
use Rattle.std.proofs.Common.{subst}
use Rattle.folder_disk.specs.Reader.{KeptToRead, images_in}
use Rattle.folder_disk.proofs.reader.FolderReaderDisk.read.Goals as goal

pub returns-clause-crash : goal.returns-clause-crash
returns-clause-crash g c = λ image left.
    subst (λ (d : KeptToRead g.row.S-Folder.Denot). images_in g.S.Folder.Folder.tells g.N.FileNames.name g.S.Folder.Folder.past d.place image) c.self.view_is
    (c.fill-answer.ensures.stays.crash image left)
