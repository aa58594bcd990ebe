-- What a reader of messages says of the stream so far, by what stands first in it (RFC 9112, sections 2 to 7).
use Rattle.std.specs.Prelude.{◌≡◌, ◌⊎◌, ℕ, ◌-◌, ◌<◌, ◌≤◌, Bool, true, false, List, [], ◌++◌, length, take, drop, None, Ok, ⊤}
use Rattle.capture.specs.First.{Side, Requests, Responses, Message, Refused, NothingBegun, HeadNeeded, BodyNeeded, IsFirst, BehindHead, IsNoHead, fault_at_head}
use Rattle.capture.specs.Head.{front_of, Head as HeadAt}
use Rattle.capture.specs.declared.framing.Framing.{Framing}
use Rattle.capture.specs.declared.framing.MessageFault.{MessageFault}
use Rattle.capture.specs.declared.framing.MessageFault.TheVariants as message_fault
use Rattle.http_head.specs.declared.head.WireFault.{WireFault}
use Rattle.http_head.specs.declared.head.WireFault.TheVariants.{Malformed, HeadTooLong, BodyTooLong, CodingRefused, EndedEarly, Memory}

-- what a reader has come to: more of a message is to come; it is whole; it was cut; or it has this fault
pub data Standing : Type 0 where
  Open : Standing
  Whole : Standing
  Cut : Standing
  Failed : (fault : WireFault) → Standing

-- nothing is decided: more of a message is to come
abbrev pub IsUndecided : Side → Bool → List ℕ → Type 0
IsUndecided side ended stream =
    IsFirst side ended stream NothingBegun ⊎ IsFirst side ended stream HeadNeeded ⊎ IsFirst side ended stream BodyNeeded

-- the stream ends with its head, which tells this framing, within the limit
pub record EndsWithHead (side : Side) (stream : List ℕ) (framing : Framing) : Type 0 where
  pub head : BehindHead side stream (Ok framing) (length stream) []
  pub text_is : head.text ≡ drop head.skipped stream
  pub short : fault_at_head (Ok framing) ≡ None

-- the stream ends with its head, which tells a body within the limit
abbrev pub TellsBody : Side → List ℕ → Type 0
TellsBody side stream = (framing : Framing) × EndsWithHead side stream framing

-- a fault of a message, among those of a reader
abbrev pub fault_in : MessageFault → WireFault
fault_in message_fault.Malformed = Malformed
fault_in message_fault.HeadTooLong = HeadTooLong
fault_in message_fault.BodyTooLong = BodyTooLong
fault_in message_fault.CodingRefused = CodingRefused

-- an end there is inside a message: inside a request, or before a response's head is whole
abbrev pub EndsInside : Side → List ℕ → Type 0
EndsInside Requests stream = IsFirst Requests true stream HeadNeeded ⊎ IsFirst Requests true stream BodyNeeded
EndsInside (Responses answers_head) stream = IsFirst (Responses answers_head) true stream HeadNeeded

-- why the stream gives no message
abbrev pub HasFault : Side → WireFault → List ℕ → Type 0
HasFault side Malformed stream = IsFirst side false stream (Refused message_fault.Malformed)
HasFault side HeadTooLong stream = IsFirst side false stream (Refused message_fault.HeadTooLong)
HasFault side BodyTooLong stream = IsFirst side false stream (Refused message_fault.BodyTooLong)
HasFault side CodingRefused stream = IsFirst side false stream (Refused message_fault.CodingRefused)
HasFault side EndedEarly stream = EndsInside side stream
HasFault side Memory stream = ⊤

-- the fault comes before the stream ends
abbrev pub ComesBeforeTheEnd : WireFault → Type 0
ComesBeforeTheEnd Malformed = ⊤
ComesBeforeTheEnd HeadTooLong = ⊤
ComesBeforeTheEnd BodyTooLong = ⊤
ComesBeforeTheEnd CodingRefused = ⊤
ComesBeforeTheEnd EndedEarly = ⊥
ComesBeforeTheEnd Memory = ⊤

-- what a reader has come to is what stands first in its stream
abbrev pub Stands : Side → List ℕ → Standing → Type 0
Stands side stream Open = IsUndecided side false stream
Stands side stream Whole = IsFirst side true stream (Message (length stream))
Stands side stream Cut = IsFirst side true stream BodyNeeded
Stands side stream (Failed fault) = HasFault side fault stream

-- the stream went on by so many bytes from the piece's front, and nothing is decided by them, or nothing was before the last
pub record Takes (side : Side) (old piece : List ℕ) (used : ℕ) (new : List ℕ) : Type 0 where
  pub fits : used ≤ length piece
  pub stream_is : new ≡ old ++ take used piece
  pub soonest : IsUndecided side false new ⊎ (0 < used → IsUndecided side false (old ++ take (used - 1) piece))

-- the stream went on so by some bytes
abbrev pub TakesSome : Side → (old piece new : List ℕ) → Type 0
TakesSome side old piece new = (used : ℕ) × Takes side old piece used new

-- no head has come, or there was no memory for one
abbrev pub LacksHead : Side → List ℕ → Standing → Type 0
LacksHead side stream standing =
    (standing ≡ Failed Memory) ⊎ ((skipped : ℕ) (text : List ℕ) → front_of stream ≡ HeadAt skipped text → IsNoHead side text)

-- a message that has come to its end, whole or cut
abbrev pub IsEnded : Standing → Type 0
IsEnded standing = (standing ≡ Whole) ⊎ (standing ≡ Cut)
