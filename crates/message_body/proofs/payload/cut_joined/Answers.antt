use Rattle.message_body.proofs.DecodeLaws.{body_is_no_cut}
use Rattle.message_body.proofs.payload.cut_joined.Goals as goal

pub returns-in-Whole-clause-malformed : goal.returns-in-Whole-clause-malformed
returns-in-Whole-clause-malformed c = λ _. body_is_no_cut c.args.wire.now _ (rw c.in-Whole.is at c.in_ok-decode.ensures)
