-- Where no folder is, nothing is known of one, and no file is there.
use Rattle.folder_disk.specs.steps.BegunLaws.{no_folder_known, nothing_read}
use Rattle.folder_disk.proofs.beginning.absent.Goals as goal

pub returns-clause-known : goal.returns-clause-known
returns-clause-known g c = no_folder_known g.N.FileNames.name

pub returns-clause-none : goal.returns-clause-none
returns-clause-none g c = nothing_read g.N.FileNames.name
