-- The file is kept, or it is left.
use Rattle.std.proofs.Common.{sym, subst}
use Rattle.folder_model.specs.Folder.{FolderPast}
use Rattle.folder_files.specs.OpenFiles.{AreOpen}
use Rattle.folder_files.specs.steps.OpenLaws.{all_same, one_same, same_contents, kept_after, left_after}
use Rattle.held_folder.proofs.held.Held.keep_at_name.Goals as goal

pub returns-in-Ok-true-clause-open : goal.returns-in-Ok-true-clause-open
returns-in-Ok-true-clause-open g c = λ told.
    let name = g.N.FileNames.name in
    let name_of = g.F.Folder.name_of in
    let was : FolderPast = g.F.Folder.past c.args.self.now.timed.folder in
    let now : FolderPast = g.F.Folder.past c.is_at_name.new.folder in
    let same = same_contents was now (c.is_at_name.ensures told) in
    kept_after name name_of now c.args.self.now.files c.keep.new.self c.args.one c.keep.ensures
    (all_same name name_of was now c.args.self.now.files same (c.requires.others told))
    (one_same name name_of was now c.args.one same (c.requires.open told))

pub returns-in-Ok-false-clause-open : goal.returns-in-Ok-false-clause-open
returns-in-Ok-false-clause-open g c = λ told.
    let name = g.N.FileNames.name in
    let name_of = g.F.Folder.name_of in
    let was : FolderPast = g.F.Folder.past c.args.self.now.timed.folder in
    let now : FolderPast = g.F.Folder.past c.is_at_name.new.folder in
    subst (λ (p : FolderPast). AreOpen name name_of p c.note_replaced.new.self.files) (sym (c.note_replaced.ensures.same told))
    (subst (λ fs. AreOpen name name_of now fs) (λ i. (sym c.note_replaced.ensures.rest i).files)
    (left_after name name_of now c.args.self.now.files c.leave.new.self c.leave.ensures
    (all_same name name_of was now c.args.self.now.files (same_contents was now (c.is_at_name.ensures told)) (c.requires.others told))))

pub returns-in-Err-clause-open : goal.returns-in-Err-clause-open
returns-in-Err-clause-open g c = λ told.
    let name = g.N.FileNames.name in
    let name_of = g.F.Folder.name_of in
    let was : FolderPast = g.F.Folder.past c.args.self.now.timed.folder in
    let now : FolderPast = g.F.Folder.past c.is_at_name.new.folder in
    left_after name name_of now c.args.self.now.files c.leave-in-Err.new.self c.leave-in-Err.ensures
    (all_same name name_of was now c.args.self.now.files (same_contents was now (c.is_at_name.ensures told)) (c.requires.others told))
