use Rattle.std.proofs.Common.{length}
use Rattle.message_body.proofs.DecodeLaws.{Decodes}
use Rattle.message_body.proofs.decode.decode.Given as goal

abbrev pub invariant-chunks : goal.invariant-chunks
invariant-chunks l = Decodes l.wire l.payload.items l.rest

abbrev pub decreases-chunks : goal.decreases-chunks
decreases-chunks l = length l.rest
