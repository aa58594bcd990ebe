-- What stays open is what it is taken for.
use Rattle.folder_files.specs.steps.OpenLaws.{read_open}
use Rattle.held_folder.proofs.held.Held.sync_found.Goals as goal

pub returns-clause-open : goal.returns-clause-open
returns-clause-open g c = λ told.
    read_open g.N.FileNames.name g.F.Folder.name_of (g.F.Folder.past c.sync.new.self.timed.folder) c.sync.new.self.files c.leave_found.new.self (c.sync.ensures.open told)
    c.leave_found.ensures.written c.leave_found.ensures.read
