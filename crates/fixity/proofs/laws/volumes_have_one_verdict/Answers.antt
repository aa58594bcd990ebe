use Rattle.fixity.proofs.OneVerdict.{one_verdict}
use Rattle.fixity.proofs.laws.volumes_have_one_verdict.Goals as goal

pub returns : goal.returns
returns c = one_verdict
