-- The capture as it was taken, with what it refers to.
use Rattle.archive_shelf.specs.Storing.{as_stored}
use Rattle.archive_volumes.proofs.stored_ghost.StoredGhost.of_taken.Given as goal

abbrev pub ghost-told_by : goal.ghost-told_by
ghost-told_by a = as_stored a.from.now.taken.now a.from.now.same
