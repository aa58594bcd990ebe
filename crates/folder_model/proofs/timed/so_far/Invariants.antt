-- The number of the deeds.
use Rattle.std.proofs.Common.{length}
use Rattle.folder_model.proofs.timed.so_far.Given as goal

abbrev pub ghost-told_by : goal.ghost-told_by
ghost-told_by g a = length (g.F.Folder.past a.from.now).deeds
