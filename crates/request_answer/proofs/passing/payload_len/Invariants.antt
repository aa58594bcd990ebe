-- So many bytes were walked over.
use Rattle.std.proofs.Common.{ℕ, ◌+◌, ◌≤◌, Bool, List, length}
use Rattle.capture.specs.Payload.{IsPayload}
use Rattle.request_answer.proofs.PassLaws.{Counted}
use Rattle.request_answer.proofs.passing.payload_len.Given as goal

abbrev pub invariant-counting : goal.invariant-counting
invariant-counting l =
    (l.len + length l.slices.rest.now ≤ l.most)
    × ((cut : Bool) (payload : List ℕ) → IsPayload cut l.fn.framing l.fn.wire payload → Counted payload l.slices.chunked l.slices.rest.now l.len)

abbrev pub decreases-counting : goal.decreases-counting
decreases-counting l = length l.slices.rest.now
