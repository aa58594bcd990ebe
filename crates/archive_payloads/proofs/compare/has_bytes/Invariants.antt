-- What was walked over is the same of both.
use Rattle.std.proofs.Common.{ℕ, List, false, length}
use Rattle.capture.specs.Payload.{IsPayload}
use Rattle.archive_payloads.proofs.SliceLaws.{Walked}
use Rattle.archive_payloads.proofs.compare.has_bytes.Given as goal

abbrev pub invariant-walking : goal.invariant-walking
invariant-walking l =
    (payload : List ℕ) → IsPayload false l.fn.framing l.fn.wire payload → Walked payload l.fn.bytes l.slices.chunked l.slices.rest.now l.rest

abbrev pub decreases-walking : goal.decreases-walking
decreases-walking l = length l.slices.rest.now
