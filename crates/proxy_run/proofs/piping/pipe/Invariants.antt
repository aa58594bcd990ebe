-- The disk as it is given, and what stood on it.
use Rattle.proxy_run.proofs.piping.pipe.Given as goal

abbrev pub ghost-told_by : goal.ghost-told_by
ghost-told_by g a = a.from.now

abbrev pub ghosts-serve_watched : goal.ghosts-serve_watched
ghosts-serve_watched g a = record { stood = a.stood.now.value }
