-- The message that a stream holds, in parts.
use Rattle.std.specs.Prelude.{◌≡◌, ℕ, Bool, false, true, List, ◌++◌, length, drop, Ok}
use Rattle.capture.specs.Body.{IsWire}
use Rattle.capture.specs.First.{Requests, Responses, HeadTells, HoldsBody}
use Rattle.capture.specs.Head.{front_of, Head as HeadAt}
use Rattle.capture.specs.Payload.{IsPayload}
use Rattle.http_head.specs.Heads.{HoldsRequest, HoldsResponse}
use Rattle.http_head.specs.declared.head.Received.{Received}
use Rattle.http_head.specs.declared.head.RequestMessage.{RequestMessage}

-- the stream is line ends that are skipped, a head of these parts, and the body that it tells of, which has this payload
pub record IsRequest (stream : List ℕ) (message : RequestMessage) : Type 0 where
  pub skipped : ℕ
  pub wire : List ℕ
  pub front : front_of stream ≡ HeadAt skipped message.head.text
  pub composed : drop skipped stream ≡ message.head.text ++ wire
  pub holds : HoldsRequest message.head.text message.head
  pub tells : HeadTells Requests message.head.text (Ok message.framing)
  pub body : HoldsBody message.framing true wire (length wire)
  pub payload : IsPayload false message.framing wire message.payload

-- the stream is line ends that are skipped, a head of these parts, and the wire of the body that it tells of, whole or as
-- far as it came
pub record IsResponse (answers_head : Bool) (stream : List ℕ) (received : Received) : Type 0 where
  pub skipped : ℕ
  pub front : front_of stream ≡ HeadAt skipped received.head.text
  pub composed : drop skipped stream ≡ received.head.text ++ received.wire
  pub holds : HoldsResponse received.head.text received.head
  pub tells : HeadTells (Responses answers_head) received.head.text (Ok received.framing)
  pub wire_is : IsWire received.cut received.framing received.wire

-- the response is one of some stream, whole or cut
abbrev pub IsOneResponse : Bool → Received → Type 0
IsOneResponse answers_head received = (stream : List ℕ) × IsResponse answers_head stream received
