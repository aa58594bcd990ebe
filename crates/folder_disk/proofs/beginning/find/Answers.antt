-- The disk has the files of the folder that was found, or none where there was none.
use Rattle.std.proofs.Common.{◌≡◌, Option, sym, subst}
use Rattle.std.specs.Prelude.{IfOk}
use Rattle.std.specs.IoError.{error_kind}
use Rattle.std.specs.declared.io.ErrorKind.TheVariants.{NotFound}
use Rattle.folder_model.specs.Folder.{FolderPast}
use Rattle.folder_disk.specs.Standing.{state_at}
use Rattle.folder_disk.specs.Found.{IsAsFound}
use Rattle.held_folder.specs.State.{reading}
use Rattle.folder_disk.specs.steps.BegunLaws.{none_found}
use Rattle.folder_disk.proofs.beginning.find.Goals as goal

pub returns-in-Ok-clause-found : goal.returns-in-Ok-clause-found
returns-in-Ok-clause-found g c = λ told alone.
    subst (λ (o : Option FolderPast). IfOk c.found.result (λ s. IsAsFound g.N.FileNames.name o (reading g.N.FileNames.name (state_at g.S.Folder.Folder.past s))))
    (sym (c.in-Ok.ensures.there told alone)) (c.found.ensures.seen told)

pub returns-in-Err-clause-found : goal.returns-in-Err-clause-found
returns-in-Err-clause-found g c = λ told alone.
    none_found g.N.FileNames.name (λ s. reading g.N.FileNames.name (state_at g.S.Folder.Folder.past s)) (error_kind c.in-Err.error ≡ NotFound) _ c.absent.result
    (c.in-Err.ensures.none told alone) c.absent.ensures.missing c.absent.ensures.none
