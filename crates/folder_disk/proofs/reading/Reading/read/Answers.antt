-- Nothing is changed.
use Rattle.std.proofs.Common.{◌≡◌, ℕ, List, length, take, drop, refl, sym, ap, ◌∙◌, subst}
use Rattle.std.proofs.lemmas.Result.{on_ok_weaker}
use Rattle.std.specs.Prelude.{Some, Result, OnOk, ⊤}
use Rattle.std.specs.declared.io.Error.{Error}
use Rattle.disk_model.specs.Image.{file_of}
use Rattle.folder_model.specs.Folder.{FolderPast, bytes_of}
use Rattle.folder_files.specs.steps.OpenLaws.{open_named, all_same, one_same, same_contents, kept_behind}
use Rattle.folder_disk.specs.Reader.{read_folder, read_image, StaysRead}
use Rattle.folder_disk.specs.steps.ReaderLaws.{its_bytes, stays_there}
use Rattle.folder_disk.proofs.reading.Reading.read.Goals as goal

pub returns-in_err-one-clause-stays : goal.returns-in_err-one-clause-stays
returns-in_err-one-clause-stays g c =
    let old = read_folder c.args.self.now in
    let rest = c.taken.ensures.rest in
    let went : read_folder c.taken.new.self ≡ record old { folder = c.taken.new.self.folder } = λ i. record (read_folder (rest i)) { folder = c.taken.new.self.folder } in
    subst (λ now. StaysRead g.F.Folder.tells g.N.FileNames.name g.F.Folder.past (Some old) (Some now)) (sym went)
    (stays_there g.F.Folder.tells g.N.FileNames.name g.F.Folder.past old (record old { folder = c.taken.new.self.folder }) refl refl c.taken.ensures.same)

pub returns-clause-bytes : goal.returns-clause-bytes
returns-clause-bytes g c = λ told.
    let name = g.N.FileNames.name in
    let name_of = g.F.Folder.name_of in
    let past_of = g.F.Folder.past in
    let old = read_folder c.args.self.now in
    let past : FolderPast = past_of c.taken.new.self.folder in
    let its = c.in_ok-one.ensures.this in
    let text : List ℕ → List ℕ = λ b. take (length c.args.into.now) (drop c.args.at b) in
    let is : text (bytes_of past (name_of c.in_ok-one.one.file)) ≡ text (bytes_of (past_of c.args.self.now.folder) (name c.args.kind c.args.file)) =
    ap (λ (n : List ℕ). text (bytes_of past n)) (open_named name name_of c.args.kind c.args.file c.in_ok-one.one its.0 its.1 past (c.in_ok-one.ensures.open told))
    ∙ ap (λ (p : FolderPast). text (bytes_of p (name c.args.kind c.args.file))) (c.taken.ensures.same told) in
    subst (λ (r : Result ⊤ Error). OnOk r (c.read_open-done.new.into ≡ text (file_of (read_image name past_of old) c.args.kind c.args.file))) (sym c.keep_after.ensures.passed_on)
    (on_ok_weaker c.read_open-done.result
    (λ read. read ∙ is ∙ ap text (its_bytes name past_of old c.args.kind c.args.file (c.requires.there told)))
    (c.read_open-done.ensures.bytes told))

pub returns-clause-stays : goal.returns-clause-stays
returns-clause-stays g c =
    let old = read_folder c.args.self.now in
    let rest = c.taken.ensures.rest in
    let last = c.read_open-done.new.folder in
    let went : record (read_folder c.taken.new.self) { folder = last } ≡ record old { folder = last } = λ i. record (read_folder (rest i)) { folder = last } in
    subst (λ now. StaysRead g.F.Folder.tells g.N.FileNames.name g.F.Folder.past (Some old) (Some now)) (sym went)
    (stays_there g.F.Folder.tells g.N.FileNames.name g.F.Folder.past old (record old { folder = last }) refl refl
    (λ told. c.read_open-done.ensures.past told ∙ c.taken.ensures.same told))

pub returns-clause-open : goal.returns-clause-open
returns-clause-open g c = λ told.
    let name = g.N.FileNames.name in
    let name_of = g.F.Folder.name_of in
    let mid : FolderPast = g.F.Folder.past c.taken.new.self.folder in
    let last : FolderPast = g.F.Folder.past c.read_open-done.new.folder in
    let same = same_contents mid last (c.read_open-done.ensures.past told) in
    kept_behind name name_of last c.taken.new.self.files c.keep_after.new.self c.in_ok-one.one c.read_open-done.result c.keep_after.ensures.kept c.keep_after.ensures.left
    (all_same name name_of mid last c.taken.new.self.files same (c.taken.ensures.others told))
    (one_same name name_of mid last c.in_ok-one.one same (c.in_ok-one.ensures.open told))
