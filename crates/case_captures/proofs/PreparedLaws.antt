-- A response that was read has the payload that its wire has, and so has its capture.
use Rattle.std.proofs.Common.{ℕ, List}
use Rattle.capture.specs.Methods.{asks_for_head}
use Rattle.capture.specs.Payload.{IsPayload}
use Rattle.capture.specs.declared.captured.Taken.{Taken}
use Rattle.http_wire.specs.Messages.{IsOneResponse}
use Rattle.http_head.specs.declared.head.Received.{Received}
use Rattle.case_captures.specs.Preparing.{IsOf, IsPayloadOfTaken}

pub has_payload : (method : List ℕ) (response : Received) (taken : Taken) (payload : List ℕ) → IsOneResponse (asks_for_head method) response
    → IsPayload response.cut response.framing response.wire payload → IsOf method response taken → IsPayloadOfTaken taken payload
has_payload method response taken payload one decoded of = rw of.method_is (rw of.head_is (rw of.wire_is (rw of.cut_is (record {
  parsed = one.1.tells.0;
  framing = response.framing;
  whole = one.1.tells.1;
  framed = one.1.tells.2;
  wire_is = one.1.wire_is;
  decoded = decoded;
}))))
