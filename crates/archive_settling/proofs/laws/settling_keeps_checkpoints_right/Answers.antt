use Rattle.checkpoint.proofs.LeftLaws.{finished_is_given}
use Rattle.archive_settling.proofs.SettledLaws.{settled_stays}
use Rattle.archive_settling.proofs.laws.settling_keeps_checkpoints_right.Goals as goal

pub returns : goal.returns
returns c = settled_stays finished_is_given
