-- No number.
use Rattle.std.proofs.Common.{[]}
use Rattle.folder_model.proofs.timed.none_begun.Given as goal

abbrev pub ghost-told_by : goal.ghost-told_by
ghost-told_by g a = []
