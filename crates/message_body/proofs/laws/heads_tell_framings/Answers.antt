use Rattle.message_body.proofs.HeldLaws.{request_tells, response_tells}
use Rattle.message_body.proofs.laws.heads_tell_framings.Goals as goal

pub returns-clause-requests : goal.returns-clause-requests
returns-clause-requests c = request_tells

pub returns-clause-responses : goal.returns-clause-responses
returns-clause-responses c = response_tells
