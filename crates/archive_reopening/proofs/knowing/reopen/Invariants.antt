-- Nothing is known of the book.
use Rattle.std.specs.Prelude.{None}
use Rattle.archive_reopening.proofs.knowing.reopen.Given as goal

abbrev pub ghost-reopen_known : goal.ghost-reopen_known
ghost-reopen_known g a = None
