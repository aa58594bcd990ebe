-- The book is known where the disk tells.
use Rattle.archive_opening.specs.Telling.{known_to}
use Rattle.archive_opening.proofs.telling.open_by_checkpoints.Given as goal

abbrev pub ghost-told_by : goal.ghost-told_by
ghost-told_by g a = known_to g.D.Disk.tells a.from.now.value
