-- What was only synced still is.
use Rattle.std.proofs.Common.{true, false}
use Rattle.folder_model.specs.steps.SyncLaws.{sync_folder_more, names_listed}
use Rattle.folder_model.proofs.durable.synced_folder.Goals as goal

pub returns-in-Ok-clause-only : goal.returns-in-Ok-clause-only
returns-in-Ok-clause-only g c = λ tells name start only.
    sync_folder_more name start (g.F.Folder.past c.args.folder.now) (g.F.Folder.past c.sync_folder.new.self) true only (c.in-Ok.ensures tells)

pub returns-in-Ok-clause-listed : goal.returns-in-Ok-clause-listed
returns-in-Ok-clause-listed g c = λ tells m sure.
    names_listed (g.F.Folder.past c.args.folder.now) (g.F.Folder.past c.sync_folder.new.self) m (c.in-Ok.ensures tells) sure

pub returns-in-Err-clause-only : goal.returns-in-Err-clause-only
returns-in-Err-clause-only g c = λ tells name start only.
    sync_folder_more name start (g.F.Folder.past c.args.folder.now) (g.F.Folder.past c.sync_folder.new.self) false only (c.in-Err.ensures tells)
