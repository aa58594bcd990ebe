-- The file is what it is taken for, and so are the others.
use Rattle.std.proofs.Common.{◌≡◌, sym, subst}
use Rattle.folder_model.specs.Folder.{FolderPast}
use Rattle.folder_files.specs.OpenFiles.{AreOpen, IsOpen}
use Rattle.folder_files.specs.steps.OpenLaws.{passed_on}
use Rattle.held_folder.proofs.held.Held.to_sync.Goals as goal

pub returns-clause-this : goal.returns-clause-this
returns-clause-this g c =
    passed_on (λ one. (one.kind ≡ c.args.kind) × (one.number ≡ c.args.number)) c.checked.result c.in_ok-one.one c.checked.ensures.this c.in_ok-one.ensures.this

pub returns-clause-open : goal.returns-clause-open
returns-clause-open g c = λ told.
    let name = g.N.FileNames.name in
    let name_of = g.F.Folder.name_of in
    let past_of = g.F.Folder.past in
    passed_on (IsOpen name name_of (past_of c.checked.new.self.timed.folder)) c.checked.result c.in_ok-one.one c.checked.ensures.this
    (subst (λ (p : FolderPast). IsOpen name name_of p c.in_ok-one.one) (sym (c.checked.ensures.same told)) (c.in_ok-one.ensures.open told))

pub returns-clause-others : goal.returns-clause-others
returns-clause-others g c = λ told.
    subst (λ (p : FolderPast). AreOpen g.N.FileNames.name g.F.Folder.name_of p c.checked.new.self.files) (sym (c.checked.ensures.same told))
    (subst (λ fs. AreOpen g.N.FileNames.name g.F.Folder.name_of (g.F.Folder.past c.to_read.new.self.timed.folder) fs) (λ i. (sym c.checked.ensures.rest i).files) (c.to_read.ensures.others told))
