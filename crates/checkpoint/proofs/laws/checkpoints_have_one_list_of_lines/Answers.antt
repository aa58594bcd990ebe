use Rattle.checkpoint.proofs.ReadingLaws.{one_list}
use Rattle.checkpoint.proofs.laws.checkpoints_have_one_list_of_lines.Goals as goal

pub returns : goal.returns
returns c = one_list
