use Rattle.http_wire.proofs.RespondLaws.{responses_can_be_stored}
use Rattle.http_wire.proofs.laws.responses_can_be_stored.Goals as goal

pub returns : goal.returns
returns c = responses_can_be_stored
