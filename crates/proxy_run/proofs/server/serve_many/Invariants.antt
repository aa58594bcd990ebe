-- The disk as it is given.
use Rattle.proxy_run.proofs.server.serve_many.Given as goal

abbrev pub ghost-told_by : goal.ghost-told_by
ghost-told_by g a = a.from.now

abbrev pub ghosts-serve_named : goal.ghosts-serve_named
ghosts-serve_named g a = record { vault = a.unnamed }
