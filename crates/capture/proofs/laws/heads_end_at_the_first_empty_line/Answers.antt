-- By the parts of a head that hold no LF.
use Rattle.capture.proofs.HeadLaws.{request_heads_end, response_heads_end}
use Rattle.capture.proofs.LineFeeds.{section_len-section}
use Rattle.capture.proofs.laws.heads_end_at_the_first_empty_line.Goals as goal

pub returns-clause-requests : goal.returns-clause-requests
returns-clause-requests c = request_heads_end

pub returns-clause-responses : goal.returns-clause-responses
returns-clause-responses c = response_heads_end

pub returns-clause-sections : goal.returns-clause-sections
returns-clause-sections c = section_len-section
