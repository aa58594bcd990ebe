-- The file is what it is taken for.
use Rattle.std.proofs.Common.{◌≡◌, sym, subst}
use Rattle.folder_model.specs.Folder.{FolderPast}
use Rattle.folder_files.specs.OpenFiles.{IsOpen}
use Rattle.folder_files.specs.steps.OpenLaws.{passed_on}
use Rattle.held_folder.proofs.held.Held.opened_as_left.Goals as goal

pub returns-clause-this : goal.returns-clause-this
returns-clause-this g c =
    passed_on (λ one. (one.kind ≡ c.args.kind) × (one.number ≡ c.args.number)) c.checked.result c.in_ok-one.one c.checked.ensures.this c.in_ok-one.ensures.this

pub returns-clause-open : goal.returns-clause-open
returns-clause-open g c = λ told.
    let name = g.N.FileNames.name in
    let name_of = g.F.Folder.name_of in
    let past_of = g.F.Folder.past in
    passed_on (IsOpen name name_of (past_of c.checked.new.self.timed.folder)) c.checked.result c.in_ok-one.one c.checked.ensures.this
    (subst (λ (p : FolderPast). IsOpen name name_of p c.in_ok-one.one) (sym (c.checked.ensures.same told)) (c.in_ok-one.ensures.open told))
