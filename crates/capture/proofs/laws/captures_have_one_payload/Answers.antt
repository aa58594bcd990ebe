-- By the one payload of the wire that is kept.
use Rattle.capture.proofs.PayloadLaws.{captures_have_one}
use Rattle.capture.proofs.laws.captures_have_one_payload.Goals as goal

pub returns : goal.returns
returns c = captures_have_one
