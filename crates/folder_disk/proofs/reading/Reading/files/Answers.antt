-- Nothing is changed.
use Rattle.std.proofs.Common.{◌∙◌, refl}
use Rattle.folder_disk.specs.Reader.{read_folder}
use Rattle.folder_disk.specs.steps.ReaderLaws.{all_counted, stays_there}
use Rattle.folder_disk.proofs.reading.Reading.files.Goals as goal

pub returns-in_err-check_in_place-clause-stays : goal.returns-in_err-check_in_place-clause-stays
returns-in_err-check_in_place-clause-stays g c =
    let old = read_folder c.args.self.now in
    stays_there g.F.Folder.tells g.N.FileNames.name g.F.Folder.past old (record old { folder = c.check_in_place.new.folder }) refl refl c.check_in_place.ensures

pub returns-clause-count : goal.returns-clause-count
returns-clause-count g c =
    c.of.ensures ∙ all_counted g.N.FileNames.name g.F.Folder.past (read_folder c.args.self.now) c.args.kind

pub returns-clause-stays : goal.returns-clause-stays
returns-clause-stays g c =
    let old = read_folder c.args.self.now in
    stays_there g.F.Folder.tells g.N.FileNames.name g.F.Folder.past old (record old { folder = c.check_in_place.new.folder }) refl refl c.check_in_place.ensures
