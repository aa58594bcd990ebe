-- What was only synced still is.
use Rattle.std.specs.Prelude.{is_ok}
use Rattle.folder_model.specs.steps.SyncLaws.{sync_more, names_synced}
use Rattle.folder_model.proofs.durable.synced_file.Goals as goal

pub returns-clause-only : goal.returns-clause-only
returns-clause-only g c = λ tells start only.
    sync_more (g.F.Folder.name_of c.args.file.now) start (g.F.Folder.past c.args.folder.now) (g.F.Folder.past c.sync_file.new.self)
    (is_ok c.sync_file.result) only (c.sync_file.ensures tells)

pub returns-clause-listed : goal.returns-clause-listed
returns-clause-listed g c = λ tells m sure.
    names_synced (g.F.Folder.past c.args.folder.now) (g.F.Folder.past c.sync_file.new.self) (g.F.Folder.name_of c.args.file.now) m
    (is_ok c.sync_file.result) (c.sync_file.ensures tells) sure
