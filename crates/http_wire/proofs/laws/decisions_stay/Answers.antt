use Rattle.http_head.proofs.FrontLaws.{heads_stay, too_long_stays}
use Rattle.http_wire.proofs.DecisionLaws.{messages_stay, refusals_stay}
use Rattle.http_wire.proofs.laws.decisions_stay.Goals as goal

pub returns-clause-messages : goal.returns-clause-messages
returns-clause-messages c = messages_stay heads_stay

pub returns-clause-refusals : goal.returns-clause-refusals
returns-clause-refusals c = refusals_stay heads_stay too_long_stays
