-- The folder's files, or none.
use Rattle.std.proofs.Common.{◌≡◌, sym, subst}
use Rattle.disk_model.specs.Image.{file_count}
use Rattle.folder_disk.specs.Reader.{place_of, reading_in}
use Rattle.folder_disk.specs.steps.ReaderLaws.{none_read}
use Rattle.folder_disk.proofs.reader.count.Goals as goal

pub returns-in-None-clause-count : goal.returns-in-None-clause-count
returns-in-None-clause-count g c =
    subst (λ p. 0 ≡ file_count (reading_in g.N.FileNames.name g.F.Folder.past (place_of p)) c.args.kind) (sym c.in-None.is) (none_read c.args.kind)
