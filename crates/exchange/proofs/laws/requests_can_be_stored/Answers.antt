use Rattle.exchange.proofs.SentLaws.{requests_can_be_stored}
use Rattle.exchange.proofs.laws.requests_can_be_stored.Goals as goal

pub returns : goal.returns
returns c = requests_can_be_stored
