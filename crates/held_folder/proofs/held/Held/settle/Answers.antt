-- Where there is no such file nothing is done, and where its name is in doubt either.
use Rattle.std.proofs.Common.{refl, sym, ◌∙◌}
use Rattle.held_folder.specs.Held.{state_of}
use Rattle.held_folder.specs.State.{State}
use Rattle.held_folder.specs.steps.StateLaws.{looked}
use Rattle.held_folder.proofs.held.Held.settle.Goals as goal

pub returns-in-Absent-clause-looks : goal.returns-in-Absent-clause-looks
returns-in-Absent-clause-looks g c =
    let old : State = state_of g.F.Folder.past c.args.self.now in
    looked g.F.Folder.tells g.N.FileNames.name old old.past (λ told. refl) c.requires.known

pub returns-in-Absent-clause-settled : goal.returns-in-Absent-clause-settled
returns-in-Absent-clause-settled g c = sym c.further.ensures ∙ c.in-Absent.is

pub seek-requires-clause-unsettled : goal.seek-requires-clause-unsettled
seek-requires-clause-unsettled g c = sym c.further.ensures ∙ c.in-Unsettled.is

pub returns-in-Unlisted-clause-looks : goal.returns-in-Unlisted-clause-looks
returns-in-Unlisted-clause-looks g c =
    let old : State = state_of g.F.Folder.past c.args.self.now in
    looked g.F.Folder.tells g.N.FileNames.name old old.past (λ told. refl) c.requires.known
