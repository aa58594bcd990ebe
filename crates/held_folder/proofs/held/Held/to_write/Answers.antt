-- The file is what it is taken for, and so are the others.
use Rattle.std.proofs.Common.{◌≡◌, sym, subst}
use Rattle.folder_model.specs.Folder.{FolderPast}
use Rattle.folder_files.specs.OpenFiles.{AreOpen, AreOthers, IsOpen}
use Rattle.folder_files.specs.steps.OpenLaws.{was_written, taken_open, taken_apart, passed_on}
use Rattle.held_folder.proofs.held.Held.to_write.Goals as goal

pub as_left-requires : goal.as_left-requires
as_left-requires g c = λ told.
    was_written g.N.FileNames.name g.F.Folder.name_of (g.F.Folder.past c.args.self.now.timed.folder) c.args.self.now.files _ (c.requires told) c.in-Some.ensures.this.2

pub returns-in-Some-clause-this : goal.returns-in-Some-clause-this
returns-in-Some-clause-this g c =
    passed_on (λ one. (one.kind ≡ c.args.kind) × (one.number ≡ c.args.number)) c.as_left.result c.in-Some.one c.as_left.ensures.this (c.in-Some.ensures.this.0, c.in-Some.ensures.this.1)

pub returns-in-Some-clause-open : goal.returns-in-Some-clause-open
returns-in-Some-clause-open g c = λ told.
    let name = g.N.FileNames.name in
    let name_of = g.F.Folder.name_of in
    let past_of = g.F.Folder.past in
    passed_on (IsOpen name name_of (past_of c.as_left.new.self.timed.folder)) c.as_left.result c.in-Some.one c.as_left.ensures.this
    (subst (λ (p : FolderPast). IsOpen name name_of p c.in-Some.one) (sym (c.as_left.ensures.same told))
    (was_written name name_of (past_of c.args.self.now.timed.folder) c.args.self.now.files c.in-Some.one (c.requires told) c.in-Some.ensures.this.2))

pub returns-in-Some-clause-others : goal.returns-in-Some-clause-others
returns-in-Some-clause-others g c = λ told.
    subst (λ (p : FolderPast). AreOpen g.N.FileNames.name g.F.Folder.name_of p c.as_left.new.self.files) (sym (c.as_left.ensures.same told))
    (subst (λ fs. AreOpen g.N.FileNames.name g.F.Folder.name_of (g.F.Folder.past c.args.self.now.timed.folder) fs) (λ i. (sym c.as_left.ensures.all i).files)
    (taken_open g.N.FileNames.name g.F.Folder.name_of (g.F.Folder.past c.args.self.now.timed.folder) c.args.kind c.args.number c.args.self.now.files c.take_for_writing.new.self (c.requires told)
    c.take_for_writing.ensures.written c.take_for_writing.ensures.read))

pub returns-in-Some-clause-apart : goal.returns-in-Some-clause-apart
returns-in-Some-clause-apart g c =
    subst (λ fs. AreOthers c.args.kind c.args.number fs) (λ i. (sym c.as_left.ensures.all i).files)
    (taken_apart c.args.kind c.args.number c.args.self.now.files c.take_for_writing.new.self c.take_for_writing.ensures.written c.take_for_writing.ensures.read)

pub returns-in-None-clause-others : goal.returns-in-None-clause-others
returns-in-None-clause-others g c = λ told.
    subst (λ (p : FolderPast). AreOpen g.N.FileNames.name g.F.Folder.name_of p c.opened_as_left.new.self.files) (sym (c.opened_as_left.ensures.same told))
    (subst (λ fs. AreOpen g.N.FileNames.name g.F.Folder.name_of (g.F.Folder.past c.args.self.now.timed.folder) fs) (λ i. (sym c.opened_as_left.ensures.rest i).files)
    (taken_open g.N.FileNames.name g.F.Folder.name_of (g.F.Folder.past c.args.self.now.timed.folder) c.args.kind c.args.number c.args.self.now.files c.take_for_writing.new.self (c.requires told)
    c.take_for_writing.ensures.written c.take_for_writing.ensures.read))

pub returns-in-None-clause-apart : goal.returns-in-None-clause-apart
returns-in-None-clause-apart g c =
    subst (λ fs. AreOthers c.args.kind c.args.number fs) (λ i. (sym c.opened_as_left.ensures.rest i).files)
    (taken_apart c.args.kind c.args.number c.args.self.now.files c.take_for_writing.new.self c.take_for_writing.ensures.written c.take_for_writing.ensures.read)
