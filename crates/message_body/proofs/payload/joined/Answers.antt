use Rattle.message_body.proofs.DecodeLaws.{cut_is_no_body}
use Rattle.message_body.proofs.payload.joined.Goals as goal

pub returns-in-Cut-clause-malformed : goal.returns-in-Cut-clause-malformed
returns-in-Cut-clause-malformed c = λ _. cut_is_no_body c.args.wire.now _ (rw c.in-Cut.is at c.in_ok-payload.ensures)
