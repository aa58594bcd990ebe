-- At first nothing is written.
use Rattle.std.proofs.Common.{arith}
use Rattle.folder_model.specs.steps.WholeLaws.{none_written}
use Rattle.folder_model.proofs.whole.write_whole.Goals as goal

pub loop-done-init : goal.loop-done-init
loop-done-init g c = (
  omega arith,
  λ told. none_written (g.F.Folder.name_of c.args.file.now) c.args.at c.args.bytes.now (g.F.Folder.past c.args.folder.now) (c.requires told),
)
