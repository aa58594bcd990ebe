-- A disk that has given up does nothing, and so does one that doesn't know of the file.
use Rattle.std.proofs.Common.{refl}
use Rattle.std.specs.declared.io.Error.{Error}
use Rattle.held_folder.specs.Held.{state_of}
use Rattle.held_folder.specs.State.{State}
use Rattle.held_folder.specs.steps.StateLaws.{sync_not_begun}
use Rattle.held_folder.proofs.held.Held.sync.Goals as goal

pub returns-then-self-clause-syncs : goal.returns-then-self-clause-syncs
returns-then-self-clause-syncs g c =
    let old : State = state_of g.F.Folder.past c.args.self.now in
    sync_not_begun {E = Error} g.F.Folder.tells g.N.FileNames.name c.args.kind c.args.file old old c.stopped.result (λ told. refl) refl c.requires.known

pub returns-then-is_unknown-clause-syncs : goal.returns-then-is_unknown-clause-syncs
returns-then-is_unknown-clause-syncs g c =
    let old : State = state_of g.F.Folder.past c.args.self.now in
    sync_not_begun {E = Error} g.F.Folder.tells g.N.FileNames.name c.args.kind c.args.file old old _ (λ told. refl) refl c.requires.known

pub sync_again-requires-clause-ours : goal.sync_again-requires-clause-ours
sync_again-requires-clause-ours g c = c.is_unknown.ensures c.if-is_unknown.false

pub sync_once-requires-clause-ours : goal.sync_once-requires-clause-ours
sync_once-requires-clause-ours g c = c.is_unknown.ensures c.if-is_unknown.false
