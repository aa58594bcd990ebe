-- The digest holds what was walked over.
use Rattle.std.proofs.Common.{ℕ, Bool, List, length}
use Rattle.capture.specs.Payload.{IsPayload}
use Rattle.archive_core.proofs.DigestLaws.{Digested}
use Rattle.archive_core.proofs.comparing.digest_of_wire.Given as goal

abbrev pub invariant-walking : goal.invariant-walking
invariant-walking l =
    (cut : Bool) (payload : List ℕ) → IsPayload cut l.fn.framing l.fn.wire payload → Digested payload l.slices.chunked l.slices.rest.now l.hasher

abbrev pub decreases-walking : goal.decreases-walking
decreases-walking l = length l.slices.rest.now
