-- A cut to more bytes than there are, before the other deeds.
use Rattle.std.proofs.Common.{◌+◌}
use Rattle.folder_model.specs.File.{Shortened}
use Rattle.memory_folder.specs.Past.{noted_of}
use Rattle.memory_folder.specs.Entry.{found}
use Rattle.memory_folder.specs.Past.{entry_bound}
use Rattle.memory_folder.proofs.telling.uncut.Given as goal

abbrev pub ghost-told_by : goal.ghost-told_by
ghost-told_by a =
    let rest = entry_bound (found a.from.now.entries.now a.from.now.name.now) in
    noted_of a.from.now.past.now.value a.from.now.name.now (Shortened (a.from.now.len + rest) rest)
