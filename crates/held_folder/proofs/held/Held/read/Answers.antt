-- Nothing is changed.
use Rattle.std.proofs.Common.{◌≡◌, ℕ, List, length, take, drop, sym, ap, ◌∙◌, subst}
use Rattle.std.proofs.lemmas.Result.{on_ok_weaker}
use Rattle.std.specs.Prelude.{Result, OnOk, ⊤}
use Rattle.std.specs.declared.io.Error.{Error}
use Rattle.disk_model.specs.Image.{file_of}
use Rattle.folder_model.specs.Folder.{FolderPast, bytes_of}
use Rattle.held_folder.specs.Calls.{Looks}
use Rattle.held_folder.specs.Held.{state_of}
use Rattle.held_folder.specs.State.{State, reading}
use Rattle.folder_files.specs.steps.OpenLaws.{open_named, all_same, one_same, same_contents, kept_behind}
use Rattle.held_folder.specs.steps.StateLaws.{looked, bytes_read}
use Rattle.held_folder.proofs.held.Held.read.Goals as goal

pub returns-in_err-one-clause-looks : goal.returns-in_err-one-clause-looks
returns-in_err-one-clause-looks g c =
    let tells = g.F.Folder.tells in
    let name = g.N.FileNames.name in
    let past_of = g.F.Folder.past in
    let old : State = state_of past_of c.args.self.now in
    let rest = c.to_read.ensures.rest in
    let past : FolderPast = past_of c.to_read.new.self.timed.folder in
    let went : state_of past_of c.to_read.new.self ≡ record old { past = past } = λ i. record (state_of past_of (rest i)) { past = past } in
    subst (λ (s : State). Looks tells name old s) (sym went) (looked tells name old past c.to_read.ensures.same c.requires.known)

pub returns-clause-bytes : goal.returns-clause-bytes
returns-clause-bytes g c = λ told.
    let name = g.N.FileNames.name in
    let name_of = g.F.Folder.name_of in
    let past_of = g.F.Folder.past in
    let old : State = state_of past_of c.args.self.now in
    let past : FolderPast = past_of c.to_read.new.self.timed.folder in
    let its = c.in_ok-one.ensures.this in
    let text : List ℕ → List ℕ = λ b. take (length c.args.into.now) (drop c.args.at b) in
    let is : text (bytes_of past (name_of c.in_ok-one.one.file)) ≡ text (bytes_of old.past (name c.args.kind c.args.file)) =
    ap (λ (n : List ℕ). text (bytes_of past n)) (open_named name name_of c.args.kind c.args.file c.in_ok-one.one its.0 its.1 past (c.in_ok-one.ensures.open told))
    ∙ ap (λ (p : FolderPast). text (bytes_of p (name c.args.kind c.args.file))) (c.to_read.ensures.same told) in
    subst (λ (r : Result ⊤ Error). OnOk r (c.read_open-done.new.into ≡ text (file_of (reading name old) c.args.kind c.args.file))) (sym c.keep_after.ensures.passed_on)
    (on_ok_weaker c.read_open-done.result
    (λ read. read ∙ is ∙ ap text (bytes_read name old c.args.kind c.args.file (c.requires.known told) (c.requires.there told)))
    (c.read_open-done.ensures.bytes told))

pub returns-clause-looks : goal.returns-clause-looks
returns-clause-looks g c =
    let tells = g.F.Folder.tells in
    let name = g.N.FileNames.name in
    let past_of = g.F.Folder.past in
    let old : State = state_of past_of c.args.self.now in
    let rest = c.to_read.ensures.rest in
    let last : FolderPast = past_of c.read_open-done.new.folder in
    let went : record (state_of past_of c.to_read.new.self) { past = last } ≡ record old { past = last } = λ i. record (state_of past_of (rest i)) { past = last } in
    subst (λ (s : State). Looks tells name old s) (sym went)
    (looked tells name old last (λ told. c.read_open-done.ensures.past told ∙ c.to_read.ensures.same told) c.requires.known)

pub returns-clause-open : goal.returns-clause-open
returns-clause-open g c = λ told.
    let name = g.N.FileNames.name in
    let name_of = g.F.Folder.name_of in
    let mid : FolderPast = g.F.Folder.past c.to_read.new.self.timed.folder in
    let last : FolderPast = g.F.Folder.past c.read_open-done.new.folder in
    let same = same_contents mid last (c.read_open-done.ensures.past told) in
    kept_behind name name_of last c.to_read.new.self.files c.keep_after.new.self c.in_ok-one.one c.read_open-done.result c.keep_after.ensures.kept c.keep_after.ensures.left
    (all_same name name_of mid last c.to_read.new.self.files same (c.to_read.ensures.others told))
    (one_same name name_of mid last c.in_ok-one.one same (c.in_ok-one.ensures.open told))
