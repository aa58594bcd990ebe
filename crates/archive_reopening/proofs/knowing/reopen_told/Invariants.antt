-- The book is told where it is known and the disk tells.
use Rattle.archive_shelf.specs.declared.depth.Depth.TheVariants.{Checkpoints}
use Rattle.archive_reopening.specs.Known.{told_at}
use Rattle.archive_reopening.proofs.knowing.reopen_told.Given as goal

abbrev pub ghost-told_by : goal.ghost-told_by
ghost-told_by g a = told_at Checkpoints g.D.Disk.tells a.from.now.value
