-- Nothing was done.
use Rattle.std.proofs.Common.{length, sym, subst}
use Rattle.disk_model.specs.Crash.{Torn, OnFile, Stepped}
use Rattle.disk_model.specs.Image.{Image, file_of}
use Rattle.disk_model.specs.steps.CrashLaws.{torn_none, on_file_none}
use Rattle.folder_disk.specs.Reader.{KeptToRead, reading_in, images_in, place_of}
use Rattle.folder_disk.specs.steps.ReaderLaws.{never_done, left_so, nothing_elapses}
use Rattle.folder_disk.proofs.reader.FolderReaderDisk.write_at.Goals as goal

pub returns-clause-written : goal.returns-clause-written
returns-clause-written g c = λ told. never_done _ c.refused.result c.refused.ensures.refused

pub returns-clause-partial : goal.returns-clause-partial
returns-clause-partial g c = λ told.
    let reads : KeptToRead g.row.S-Folder.Denot → Image = λ d. reading_in g.N.FileNames.name g.S.Folder.Folder.past d.place in
    let old : Image = reads c.args.self.now in
    let many = length c.args._bytes.now in
    left_so _ c.refused.result
    (subst (λ (d : KeptToRead g.row.S-Folder.Denot). OnFile c.args.kind c.args.file (Torn c.args._at many) old (reads d)) (sym c.self.view_is)
    (on_file_none c.args.kind c.args.file (Torn c.args._at many) old (torn_none c.args._at many (file_of old c.args.kind c.args.file))))

pub returns-clause-crash : goal.returns-clause-crash
returns-clause-crash g c = λ image left.
    let images : KeptToRead g.row.S-Folder.Denot → Image → Type 0 = λ d. images_in g.S.Folder.Folder.tells g.N.FileNames.name g.S.Folder.Folder.past d.place in
    let many = length c.args._bytes.now in
    subst (λ (d : KeptToRead g.row.S-Folder.Denot). Stepped (OnFile c.args.kind c.args.file (Torn c.args._at many)) (images d) image) c.self.view_is
    (image, left, on_file_none c.args.kind c.args.file (Torn c.args._at many) image (torn_none c.args._at many (file_of image c.args.kind c.args.file)))

pub returns-clause-time : goal.returns-clause-time
returns-clause-time g c =
    nothing_elapses g.S.Folder.Folder.tells g.N.FileNames.name g.S.Folder.Folder.past c.args.self.now.place (place_of c.self.inside.folder) _ (λ i. (c.self.view_is i).place)
