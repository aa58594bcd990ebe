-- One response that is read from a link, interim or final: what stood first in the stream, by what came of it.
use Rattle.std.specs.Prelude.{◌≡◌, ◌⊎◌, ℕ, Bool, true, false, List, [], ◌++◌, length, Result, Ok, Err, ⊤}
use Rattle.capture.specs.First.{Responses, Message, Refused, HeadNeeded, BodyNeeded, IsFirst}
use Rattle.capture.specs.declared.framing.MessageFault.TheVariants as message_fault
use Rattle.http_head.specs.declared.head.Received.{Received}
use Rattle.http_head.specs.declared.head.WireFault.{WireFault}
use Rattle.http_head.specs.declared.head.WireFault.TheVariants as wire_fault
use Rattle.http_wire.specs.Messages.{IsResponse}
use Rattle.exchange.specs.declared.fetching.FetchFault.{FetchFault}
use Rattle.exchange.specs.declared.fetching.FetchFault.TheVariants.{DialFault, OriginFault, OriginEnded, OriginMalformed, OriginTooLong, TooManyInterim, Memory}

-- the response stands first in the stream, these bytes behind it; or the stream has ended inside it
pub record TakesFirst (answers_head ended : Bool) (stream : List ℕ) (received : Received) (behind : List ℕ) : Type 0 where
  pub text : List ℕ
  pub composed : stream ≡ text ++ behind
  pub response : IsResponse answers_head text received
  pub whole : received.cut ≡ false → IsFirst (Responses answers_head) ended stream (Message (length text))
  pub cut : received.cut ≡ true → (ended ≡ true) × (behind ≡ []) × IsFirst (Responses answers_head) true stream BodyNeeded

-- what stands first in the stream, by what came of it
abbrev pub Yields : Bool → Result Received FetchFault → (stream behind : List ℕ) → Bool → Type 0
Yields answers_head (Ok received) stream behind ended = TakesFirst answers_head ended stream received behind
Yields answers_head (Err DialFault) stream behind ended = ⊥
Yields answers_head (Err OriginFault) stream behind ended =
    IsFirst (Responses answers_head) false stream HeadNeeded ⊎ IsFirst (Responses answers_head) false stream BodyNeeded
Yields answers_head (Err OriginEnded) stream behind ended =
    (ended ≡ true) × IsFirst (Responses answers_head) ended stream HeadNeeded
Yields answers_head (Err OriginMalformed) stream behind ended =
    IsFirst (Responses answers_head) ended stream (Refused message_fault.Malformed)
    ⊎ IsFirst (Responses answers_head) ended stream (Refused message_fault.CodingRefused)
Yields answers_head (Err OriginTooLong) stream behind ended =
    IsFirst (Responses answers_head) ended stream (Refused message_fault.HeadTooLong)
    ⊎ IsFirst (Responses answers_head) ended stream (Refused message_fault.BodyTooLong)
Yields answers_head (Err TooManyInterim) stream behind ended = ⊥
Yields answers_head (Err Memory) stream behind ended = ⊤

-- what a link gave so far, and those of these bytes that nobody has used yet
pub record Inflow : Type 0 where
  pub given : List ℕ
  pub window : List ℕ

-- the bytes that were given go on behind those done with this stream
pub record GoesOnWith (answers_head : Bool) (result : Result Received FetchFault) (done : List ℕ) (now : Inflow) (ended : Bool) : Type 0 where
  pub stream : List ℕ
  pub composed : now.given ≡ done ++ stream
  pub yields : Yields answers_head result stream now.window ended

-- where the bytes given were those done and those in the window, they go on with what came of this
abbrev pub Answers : Bool → Result Received FetchFault → (old now : Inflow) → (ended : Bool) → Type 0
Answers answers_head result old now ended =
    (done : List ℕ) → old.given ≡ done ++ old.window → GoesOnWith answers_head result done now ended

-- why a message that is refused before the link's end gives no response
abbrev pub IsFaultOf : WireFault → FetchFault → Type 0
IsFaultOf wire_fault.Malformed fault = fault ≡ OriginMalformed
IsFaultOf wire_fault.CodingRefused fault = fault ≡ OriginMalformed
IsFaultOf wire_fault.HeadTooLong fault = fault ≡ OriginTooLong
IsFaultOf wire_fault.BodyTooLong fault = fault ≡ OriginTooLong
IsFaultOf wire_fault.EndedEarly fault = ⊥
IsFaultOf wire_fault.Memory fault = fault ≡ Memory
