-- Nothing was done.
use Rattle.std.proofs.Common.{refl}
use Rattle.std.specs.declared.io.Error.{Error}
use Rattle.folder_disk.specs.Standing.{state_at}
use Rattle.held_folder.specs.State.{State}
use Rattle.held_folder.specs.steps.StateLaws.{cut_not_begun}
use Rattle.folder_disk.proofs.standing.Standing.cut.Goals as goal

pub returns-in-Absent-clause-cuts : goal.returns-in-Absent-clause-cuts
returns-in-Absent-clause-cuts g c =
    let s : State = state_at g.S.Folder.Folder.past c.args.self.now in
    cut_not_begun {E = Error} g.S.Folder.Folder.tells g.N.FileNames.name c.args.kind c.args.file c.args.len s s c.unknown.result (λ told. refl) refl c.requires.known

pub returns-in-Refused-clause-cuts : goal.returns-in-Refused-clause-cuts
returns-in-Refused-clause-cuts g c =
    let s : State = state_at g.S.Folder.Folder.past c.args.self.now in
    cut_not_begun {E = Error} g.S.Folder.Folder.tells g.N.FileNames.name c.args.kind c.args.file c.args.len s s c.stopped.result (λ told. refl) refl c.requires.known
