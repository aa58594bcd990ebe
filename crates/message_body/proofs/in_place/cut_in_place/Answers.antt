use Rattle.message_body.proofs.DecodeLaws.{body_is_no_cut}
use Rattle.message_body.proofs.in_place.cut_in_place.Goals as goal

pub returns-in-Whole-clause-malformed : goal.returns-in-Whole-clause-malformed
returns-in-Whole-clause-malformed c = λ _. body_is_no_cut c.args.wire.items _ (rw c.in-Whole.is at c.in_ok-decode_in_place.ensures)
