-- By the one way in which a chunked wire splits.
use Rattle.capture.proofs.PayloadLaws.{one_payload, body_has_payload, cut_has_payload}
use Rattle.capture.proofs.laws.wires_have_one_payload.Goals as goal

pub returns-clause-one : goal.returns-clause-one
returns-clause-one c = one_payload

pub returns-clause-whole : goal.returns-clause-whole
returns-clause-whole c = body_has_payload

pub returns-clause-cut : goal.returns-clause-cut
returns-clause-cut c = cut_has_payload
