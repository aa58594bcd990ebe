-- All is on the disk.
use Rattle.memory_folder.specs.Past.{all_settled}
use Rattle.memory_folder.proofs.telling.settled.Given as goal

abbrev pub ghost-told_by : goal.ghost-told_by
ghost-told_by a = all_settled a.from.now.items
