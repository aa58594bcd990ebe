-- The capture that is named.
use Rattle.archive_volumes.proofs.stored_ghost.StoredGhost.named_by.Given as goal

abbrev pub ghost-told_by : goal.ghost-told_by
ghost-told_by g a = g.named
