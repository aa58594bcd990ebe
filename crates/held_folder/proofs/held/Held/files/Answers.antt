-- Where a file that was to be made is there it is one of the disk's, and then the files that are known are counted.
use Rattle.std.proofs.Common.{ap, sym, ◌∙◌}
use Rattle.disk_model.specs.Image.{Image, file_count}
use Rattle.folder_model.specs.Folder.{FolderPast}
use Rattle.held_folder.specs.Held.{state_of}
use Rattle.held_folder.specs.State.{State}
use Rattle.folder_files.specs.steps.OpenLaws.{all_same, same_contents}
use Rattle.held_folder.specs.steps.StateLaws.{counted, looks_behind}
use Rattle.held_folder.proofs.held.Held.files.Goals as goal

pub returns-in_err-check_in_place-clause-looks : goal.returns-in_err-check_in_place-clause-looks
returns-in_err-check_in_place-clause-looks g c =
    let past_of = g.F.Folder.past in
    looks_behind g.F.Folder.tells g.N.FileNames.name (state_of past_of c.args.self.now) (state_of past_of c.settle.new.self) (past_of c.check_in_place.new.folder)
    c.check_in_place.ensures c.settle.ensures.looks

pub returns-in_err-check_in_place-clause-open : goal.returns-in_err-check_in_place-clause-open
returns-in_err-check_in_place-clause-open g c = λ told.
    let past_of = g.F.Folder.past in
    let was : FolderPast = past_of c.settle.new.self.timed.folder in
    let now : FolderPast = past_of c.check_in_place.new.folder in
    all_same g.N.FileNames.name g.F.Folder.name_of was now c.settle.new.self.files (same_contents was now (c.check_in_place.ensures told)) (c.settle.ensures.open told)

pub returns-clause-looks : goal.returns-clause-looks
returns-clause-looks g c =
    let past_of = g.F.Folder.past in
    looks_behind g.F.Folder.tells g.N.FileNames.name (state_of past_of c.args.self.now) (state_of past_of c.settle.new.self) (past_of c.check_in_place.new.folder)
    c.check_in_place.ensures c.settle.ensures.looks

pub returns-clause-open : goal.returns-clause-open
returns-clause-open g c = λ told.
    let past_of = g.F.Folder.past in
    let was : FolderPast = past_of c.settle.new.self.timed.folder in
    let now : FolderPast = past_of c.check_in_place.new.folder in
    all_same g.N.FileNames.name g.F.Folder.name_of was now c.settle.new.self.files (same_contents was now (c.check_in_place.ensures told)) (c.settle.ensures.open told)

pub returns-clause-count : goal.returns-clause-count
returns-clause-count g c = λ told.
    let name = g.N.FileNames.name in
    let mid : State = state_of g.F.Folder.past c.settle.new.self in
    c.known.ensures
    ∙ sym (counted name mid c.args.kind (c.settle.ensures.looks.known told) c.in_ok-settle.ensures.settled)
    ∙ ap (λ (i : Image). file_count i c.args.kind) (c.settle.ensures.looks.same told)
