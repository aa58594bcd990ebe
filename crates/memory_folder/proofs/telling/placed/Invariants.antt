-- The deed, before the others.
use Rattle.folder_model.specs.Folder.{SyncedAround}
use Rattle.memory_folder.specs.Past.{noted}
use Rattle.memory_folder.proofs.telling.placed.Given as goal

abbrev pub ghost-told_by : goal.ghost-told_by
ghost-told_by a = noted a.from.now.past.now.value (SyncedAround a.from.now.done)
