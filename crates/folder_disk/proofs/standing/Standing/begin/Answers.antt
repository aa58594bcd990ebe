-- The folder's first file is the disk's, or nothing was done.
use Rattle.std.proofs.Common.{Err, sym, subst}
use Rattle.std.specs.declared.io.Error.{Error}
use Rattle.held_folder.specs.Calls.{Creates}
use Rattle.held_folder.specs.Held.{state_of}
use Rattle.held_folder.specs.State.{State, no_folder}
use Rattle.folder_disk.specs.steps.BegunLaws.{begun_creates, none_created, no_folder_known}
use Rattle.folder_disk.proofs.standing.Standing.begin.Goals as goal

pub returns-in-Held-clause-creates : goal.returns-in-Held-clause-creates
returns-in-Held-clause-creates g c =
    let tells = g.S.Folder.Folder.tells in
    let name = g.N.FileNames.name in
    let past_of = g.S.Folder.Folder.past in
    begun_creates tells name (state_of past_of c.in-Held.held) c.in-Held.ensures.1 (λ told. (c.in-Held.ensures.0 told).known) {E = Error} c.args.kind
    (state_of past_of c.create-answer.new.self) c.create-answer.result c.create-answer.ensures.creates

pub returns-in-Later-clause-creates : goal.returns-in-Later-clause-creates
returns-in-Later-clause-creates g c =
    let tells = g.S.Folder.Folder.tells in
    let name = g.N.FileNames.name in
    subst (λ (s : State). Creates {E = Error} tells name c.args.kind no_folder s (Err c.in-Later.error)) (sym c.requires)
    (none_created {E = Error} tells name c.args.kind no_folder c.in-Later.error (λ told. no_folder_known name))

pub returns-in-Never-clause-creates : goal.returns-in-Never-clause-creates
returns-in-Never-clause-creates g c =
    none_created {E = Error} g.S.Folder.Folder.tells g.N.FileNames.name c.args.kind no_folder c.in-Never.error (λ told. no_folder_known g.N.FileNames.name)
