-- The capture of the known book, or one that is made up for the line.
use Rattle.archive_gathering.specs.Lines.{capture_by}
use Rattle.archive_gathering.proofs.gathered.told_ghost.Given as goal

abbrev pub ghost-named_by : goal.ghost-named_by
ghost-named_by a = capture_by a.from.now.known.now.value a.from.now.line.now
