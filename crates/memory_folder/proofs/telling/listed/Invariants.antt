-- The deed, before the others.
use Rattle.folder_model.specs.Folder.{SyncedFolder}
use Rattle.memory_folder.specs.Past.{noted}
use Rattle.memory_folder.proofs.telling.listed.Given as goal

abbrev pub ghost-told_by : goal.ghost-told_by
ghost-told_by a = noted a.from.now.past.now.value (SyncedFolder a.from.now.done)
