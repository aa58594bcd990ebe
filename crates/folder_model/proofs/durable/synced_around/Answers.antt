-- What was only synced still is.
use Rattle.std.specs.Prelude.{is_ok}
use Rattle.folder_model.specs.steps.SyncLaws.{sync_around_more, names_around}
use Rattle.folder_model.proofs.durable.synced_around.Goals as goal

pub returns-clause-only : goal.returns-clause-only
returns-clause-only g c = λ tells name start only.
    sync_around_more name start (g.F.Folder.past c.args.folder.now) (g.F.Folder.past c.sync_around.new.self)
    (is_ok c.sync_around.result) only (c.sync_around.ensures tells)

pub returns-clause-listed : goal.returns-clause-listed
returns-clause-listed g c = λ tells m sure.
    names_around (g.F.Folder.past c.args.folder.now) (g.F.Folder.past c.sync_around.new.self) m
    (is_ok c.sync_around.result) (c.sync_around.ensures tells) sure
