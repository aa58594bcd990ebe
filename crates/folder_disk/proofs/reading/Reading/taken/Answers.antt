-- The file is what it is taken for, and so are the others.
use Rattle.std.proofs.Common.{sym, subst}
use Rattle.folder_model.specs.Folder.{FolderPast}
use Rattle.folder_files.specs.OpenFiles.{AreOpen}
use Rattle.folder_files.specs.steps.OpenLaws.{was_in, read_open}
use Rattle.folder_disk.proofs.reading.Reading.taken.Goals as goal

pub returns-in-Some-clause-open : goal.returns-in-Some-clause-open
returns-in-Some-clause-open g c = λ told.
    was_in g.N.FileNames.name g.F.Folder.name_of (g.F.Folder.past c.args.self.now.folder) c.args.self.now.files _ (c.requires told) c.in-Some.ensures.this.2

pub returns-in-Some-clause-others : goal.returns-in-Some-clause-others
returns-in-Some-clause-others g c = λ told.
    read_open g.N.FileNames.name g.F.Folder.name_of (g.F.Folder.past c.args.self.now.folder) c.args.self.now.files c.take_for_reading.new.self (c.requires told)
    c.take_for_reading.ensures.written c.take_for_reading.ensures.read

pub returns-in-None-clause-others : goal.returns-in-None-clause-others
returns-in-None-clause-others g c = λ told.
    subst (λ (p : FolderPast). AreOpen g.N.FileNames.name g.F.Folder.name_of p c.opened.new.self.files) (sym (c.opened.ensures.same told))
    (subst (λ fs. AreOpen g.N.FileNames.name g.F.Folder.name_of (g.F.Folder.past c.args.self.now.folder) fs) (λ i. (sym c.opened.ensures.rest i).files)
    (read_open g.N.FileNames.name g.F.Folder.name_of (g.F.Folder.past c.args.self.now.folder) c.args.self.now.files c.take_for_reading.new.self (c.requires told)
    c.take_for_reading.ensures.written c.take_for_reading.ensures.read))
