-- The name, behind the others.
use Rattle.std.proofs.Common.{[], ◌∷◌, ◌++◌}
use Rattle.folder_files.proofs.counting.one_more.Given as goal

abbrev pub ghost-told_by : goal.ghost-told_by
ghost-told_by a = a.from.now.given.now.value ++ a.from.now.name.now ∷ []
