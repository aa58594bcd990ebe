use Rattle.message_body.proofs.DecodeLaws.{cut_is_no_body}
use Rattle.message_body.proofs.in_place.whole_in_place.Goals as goal

pub returns-in-Cut-clause-malformed : goal.returns-in-Cut-clause-malformed
returns-in-Cut-clause-malformed c = λ _. cut_is_no_body c.args.wire.items _ (rw c.in-Cut.is at c.in_ok-payload.ensures)
