-- Nothing was done.
use Rattle.std.proofs.Common.{refl}
use Rattle.std.specs.declared.io.Error.{Error}
use Rattle.folder_disk.specs.Standing.{state_at}
use Rattle.held_folder.specs.State.{State}
use Rattle.held_folder.specs.steps.StateLaws.{write_not_begun}
use Rattle.folder_disk.proofs.standing.Standing.write_at.Goals as goal

pub returns-in-Absent-clause-writes : goal.returns-in-Absent-clause-writes
returns-in-Absent-clause-writes g c =
    let s : State = state_at g.S.Folder.Folder.past c.args.self.now in
    write_not_begun {E = Error} g.S.Folder.Folder.tells g.N.FileNames.name c.args.kind c.args.file c.args.at c.args.bytes.now s s c.unknown.result (λ told. refl) refl c.requires.known

pub returns-in-Refused-clause-writes : goal.returns-in-Refused-clause-writes
returns-in-Refused-clause-writes g c =
    let s : State = state_at g.S.Folder.Folder.past c.args.self.now in
    write_not_begun {E = Error} g.S.Folder.Folder.tells g.N.FileNames.name c.args.kind c.args.file c.args.at c.args.bytes.now s s c.stopped.result (λ told. refl) refl c.requires.known
