-- The capture that is passed.
use Rattle.archive_volumes.proofs.stored_ghost.StoredGhost.of.Given as goal

abbrev pub ghost-told_by : goal.ghost-told_by
ghost-told_by a = a.from.now
