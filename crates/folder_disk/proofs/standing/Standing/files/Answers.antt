-- The folder's files, or none.
use Rattle.std.proofs.Common.{◌≡◌, sym, subst}
use Rattle.disk_model.specs.Image.{file_count}
use Rattle.folder_disk.specs.Standing.{state_at}
use Rattle.held_folder.specs.State.{IsKnown, reading}
use Rattle.folder_disk.specs.steps.BegunLaws.{none_counted}
use Rattle.folder_disk.proofs.standing.Standing.files.Goals as goal

pub files-requires-clause-known : goal.files-requires-clause-known
files-requires-clause-known g c = λ told.
    subst (λ s. IsKnown g.N.FileNames.name (state_at g.S.Folder.Folder.past s)) c.in-Held.is (c.requires.known told)

pub returns-in-Absent-clause-count : goal.returns-in-Absent-clause-count
returns-in-Absent-clause-count g c = λ told.
    subst (λ s. 0 ≡ file_count (reading g.N.FileNames.name (state_at g.S.Folder.Folder.past s)) c.args.kind) (sym c.in-Absent.is)
    (none_counted g.N.FileNames.name c.args.kind)
