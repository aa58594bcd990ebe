-- The disk as it is given, and what stood on it.
use Rattle.importing.proofs.importing.import.Given as goal

abbrev pub ghost-told_by : goal.ghost-told_by
ghost-told_by g a = a.from.now

abbrev pub ghosts-import_watched : goal.ghosts-import_watched
ghosts-import_watched g a = record { stood = a.stood.now.value }
