-- A final response that was read is what a capture holds.
use Rattle.std.specs.Prelude.{ℕ, ◌≤◌, List, length}
use Rattle.capture.specs.Methods.{asks_for_head}
use Rattle.capture.specs.WellFormed.{RespondsTo}
use Rattle.capture.specs.declared.limits.TheConstants.{HEAD_LIMIT}
use Rattle.http_head.specs.declared.head.Received.{Received}
use Rattle.http_wire.specs.Messages.{IsOneResponse}

-- the response is one to a request of this method, whole or cut, and has a head within the limit
pub record CanBeStored (received : Received) (method : List ℕ) : Type 0 where
  pub responds : RespondsTo received.cut method received.head.text received.wire
  pub short : length received.head.text ≤ HEAD_LIMIT

-- so it is with each final response that was read
abbrev pub ResponsesCanBeStored : Type 0
ResponsesCanBeStored =
    (received : Received) (method : List ℕ) → IsOneResponse (asks_for_head method) received → 200 ≤ received.head.status
    → CanBeStored received method
