use Rattle.std.proofs.Common.{length}
use Rattle.message_body.proofs.CutLimits.{GoesOn}
use Rattle.message_body.proofs.limits.is_within_limits.Given as goal

abbrev pub invariant-chunks : goal.invariant-chunks
invariant-chunks l = GoesOn l.wire l.rest

abbrev pub decreases-chunks : goal.decreases-chunks
decreases-chunks l = length l.rest
