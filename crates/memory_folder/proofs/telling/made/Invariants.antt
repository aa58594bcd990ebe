-- The deed, before the others.
use Rattle.folder_model.specs.File.{Made}
use Rattle.memory_folder.specs.Past.{noted_of}
use Rattle.memory_folder.proofs.telling.made.Given as goal

abbrev pub ghost-told_by : goal.ghost-told_by
ghost-told_by a = noted_of a.from.now.past.now.value a.from.now.name.now Made
