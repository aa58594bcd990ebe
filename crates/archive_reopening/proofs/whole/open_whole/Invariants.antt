-- The book is told where the disk tells.
use Rattle.archive_reopening.proofs.whole.open_whole.Given as goal

abbrev pub ghost-told_by : goal.ghost-told_by
ghost-told_by g a = g.D.Disk.tells
