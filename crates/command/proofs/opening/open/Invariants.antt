-- The book that is named.
use Rattle.command.proofs.opening.open.Given as goal

abbrev pub ghost-reopen_known : goal.ghost-reopen_known
ghost-reopen_known g a = g.K.Known.book
