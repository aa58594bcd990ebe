-- The book that is known.
use Rattle.archive_reopening.proofs.knowing.reopen_known.Given as goal

abbrev pub ghost-told_by : goal.ghost-told_by
ghost-told_by g a = g.known
