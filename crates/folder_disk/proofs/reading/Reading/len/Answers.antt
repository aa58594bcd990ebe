-- Nothing is changed.
use Rattle.std.proofs.Common.{◌≡◌, refl, sym, subst}
use Rattle.std.specs.Prelude.{Some}
use Rattle.folder_files.specs.steps.OpenLaws.{remembered, kept_after}
use Rattle.folder_disk.specs.Reader.{read_folder, StaysRead}
use Rattle.folder_disk.specs.steps.ReaderLaws.{its_bytes, stays_there}
use Rattle.folder_disk.proofs.reading.Reading.len.Goals as goal

pub returns-in_err-one-clause-stays : goal.returns-in_err-one-clause-stays
returns-in_err-one-clause-stays g c =
    let old = read_folder c.args.self.now in
    let rest = c.taken.ensures.rest in
    let went : read_folder c.taken.new.self ≡ record old { folder = c.taken.new.self.folder } = λ i. record (read_folder (rest i)) { folder = c.taken.new.self.folder } in
    subst (λ now. StaysRead g.F.Folder.tells g.N.FileNames.name g.F.Folder.past (Some old) (Some now)) (sym went)
    (stays_there g.F.Folder.tells g.N.FileNames.name g.F.Folder.past old (record old { folder = c.taken.new.self.folder }) refl refl c.taken.ensures.same)

pub returns-clause-length : goal.returns-clause-length
returns-clause-length g c = λ told.
    let past_of = g.F.Folder.past in
    remembered g.N.FileNames.name g.F.Folder.name_of (past_of c.taken.new.self.folder) (past_of c.args.self.now.folder) _ c.args.kind c.args.file c.in_ok-one.one
    c.in_ok-one.ensures.this.0 c.in_ok-one.ensures.this.1 (c.taken.ensures.same told)
    (its_bytes g.N.FileNames.name past_of (read_folder c.args.self.now) c.args.kind c.args.file (c.requires.there told)) (c.in_ok-one.ensures.open told)

pub returns-clause-stays : goal.returns-clause-stays
returns-clause-stays g c =
    let old = read_folder c.args.self.now in
    let rest = c.taken.ensures.rest in
    let went : read_folder c.taken.new.self ≡ record old { folder = c.taken.new.self.folder } = λ i. record (read_folder (rest i)) { folder = c.taken.new.self.folder } in
    subst (λ now. StaysRead g.F.Folder.tells g.N.FileNames.name g.F.Folder.past (Some old) (Some now)) (sym went)
    (stays_there g.F.Folder.tells g.N.FileNames.name g.F.Folder.past old (record old { folder = c.taken.new.self.folder }) refl refl c.taken.ensures.same)

pub returns-clause-open : goal.returns-clause-open
returns-clause-open g c = λ told.
    kept_after g.N.FileNames.name g.F.Folder.name_of (g.F.Folder.past c.taken.new.self.folder) c.taken.new.self.files c.keep.new.self c.in_ok-one.one c.keep.ensures
    (c.taken.ensures.others told) (c.in_ok-one.ensures.open told)
