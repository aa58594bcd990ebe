-- What was walked over stands behind the text.
use Rattle.std.proofs.Common.{ℕ, Bool, List, length}
use Rattle.capture.specs.Payload.{IsPayload}
use Rattle.request_answer.proofs.PassLaws.{IsPut}
use Rattle.request_answer.proofs.passing.put_payload.Given as goal

abbrev pub invariant-putting : goal.invariant-putting
invariant-putting l =
    (cut : Bool) (payload : List ℕ) → IsPayload cut l.fn.framing l.fn.wire payload → IsPut l.fn.out.items payload l.slices.chunked l.slices.rest.now l.out.items

abbrev pub decreases-putting : goal.decreases-putting
decreases-putting l = length l.slices.rest.now
