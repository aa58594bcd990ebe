-- Nothing was done.
use Rattle.std.proofs.Common.{refl, subst, inl}
use Rattle.std.proofs.lemmas.Result.{IfOk-from_err}
use Rattle.disk_model.specs.Crash.{MayCreate, Stepped}
use Rattle.disk_model.specs.Image.{Image, file_count}
use Rattle.folder_disk.specs.Reader.{KeptToRead, reading_in, images_in, place_of}
use Rattle.folder_disk.specs.steps.ReaderLaws.{never_done, left_so, nothing_elapses}
use Rattle.folder_disk.proofs.reader.FolderReaderDisk.create.Goals as goal

pub returns-clause-number : goal.returns-clause-number
returns-clause-number g c = λ told. IfOk-from_err c.refused.result _ c.refused.ensures.refused

pub returns-clause-created : goal.returns-clause-created
returns-clause-created g c = λ told. never_done _ c.refused.result c.refused.ensures.refused

pub returns-clause-partial : goal.returns-clause-partial
returns-clause-partial g c = λ told.
    left_so _ c.refused.result (inl (λ i. reading_in g.N.FileNames.name g.S.Folder.Folder.past (c.self.view_is i).place))

pub returns-clause-crash : goal.returns-clause-crash
returns-clause-crash g c = λ image left.
    let images : KeptToRead g.row.S-Folder.Denot → Image → Type 0 = λ d. images_in g.S.Folder.Folder.tells g.N.FileNames.name g.S.Folder.Folder.past d.place in
    subst (λ (d : KeptToRead g.row.S-Folder.Denot). Stepped (MayCreate c.args._kind (file_count (reading_in g.N.FileNames.name g.S.Folder.Folder.past d.place) c.args._kind)) (images d) image) c.self.view_is
    (image, left, inl refl)

pub returns-clause-durable : goal.returns-clause-durable
returns-clause-durable g c = IfOk-from_err c.refused.result _ c.refused.ensures.refused

pub returns-clause-time : goal.returns-clause-time
returns-clause-time g c =
    nothing_elapses g.S.Folder.Folder.tells g.N.FileNames.name g.S.Folder.Folder.past c.args.self.now.place (place_of c.self.inside.folder) _ (λ i. (c.self.view_is i).place)
