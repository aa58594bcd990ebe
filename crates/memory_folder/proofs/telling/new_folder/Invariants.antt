-- Nothing was done.
use Rattle.memory_folder.specs.Past.{nothing_done}
use Rattle.memory_folder.proofs.telling.new_folder.Given as goal

abbrev pub ghost-told_by : goal.ghost-told_by
ghost-told_by a = nothing_done a.from.now
