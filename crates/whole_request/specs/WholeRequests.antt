-- A text that is one whole request, in parts. It has no limits.
use Rattle.std.specs.Prelude.{List, ℕ, false}
use Rattle.httparse.specs.Grammar as grammar
use Rattle.capture.specs.Message.{IsWholeRequest}
use Rattle.capture.specs.Payload.{IsPayload}
use Rattle.http_head.specs.Heads.{HoldsRequestParts}
use Rattle.http_head.specs.declared.head.RequestMessage.{RequestMessage}

-- the text is one request, and these are its parts and its payload
pub record IsRequestText (text : List ℕ) (message : RequestMessage) : Type 0 where
  pub h : grammar.RequestHead
  pub wire : List ℕ
  pub whole : IsWholeRequest text h message.framing wire
  pub parts : HoldsRequestParts message.head.text h message.head
  pub payload : IsPayload false message.framing wire message.payload
