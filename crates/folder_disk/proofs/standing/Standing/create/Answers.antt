-- What the disk knows of its folder.
use Rattle.std.proofs.Common.{subst}
use Rattle.folder_disk.specs.Standing.{state_at}
use Rattle.held_folder.specs.State.{IsKnown}
use Rattle.folder_disk.proofs.standing.Standing.create.Goals as goal

pub create-requires-clause-known : goal.create-requires-clause-known
create-requires-clause-known g c = λ told.
    subst (λ s. IsKnown g.N.FileNames.name (state_at g.S.Folder.Folder.past s)) c.in-Held.is (c.requires.known told)
