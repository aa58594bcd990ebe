-- What a crash may leave follows from what it might have left.
use Rattle.std.proofs.Common.{◌∙◌, subst}
use Rattle.folder_disk.specs.Reader.{KeptToRead, place_of, reading_in, images_in}
use Rattle.folder_disk.specs.steps.ReaderLaws.{leaves_read}
use Rattle.folder_disk.proofs.reader.FolderReaderDisk.sync.Goals as goal

pub returns-clause-durable : goal.returns-clause-durable
returns-clause-durable g c =
    leaves_read g.S.Folder.Folder.tells g.N.FileNames.name g.S.Folder.Folder.past c.args.self.now.place (place_of c.check-answer.new.folder) c.args.kind c.args.file c.told.result c.requires
    (λ told. c.check-answer.ensures.stays.same told ∙ (λ i. reading_in g.N.FileNames.name g.S.Folder.Folder.past (c.self.view_is i).place))

pub returns-clause-crash : goal.returns-clause-crash
returns-clause-crash g c = λ image left.
    subst (λ (d : KeptToRead g.row.S-Folder.Denot). images_in g.S.Folder.Folder.tells g.N.FileNames.name g.S.Folder.Folder.past d.place image) c.self.view_is
    (c.check-answer.ensures.stays.crash image left)
