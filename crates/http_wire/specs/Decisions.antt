-- What is decided of a stream is one thing, and stays so, however the stream goes on.
use Rattle.std.specs.Prelude.{◌≡◌, ℕ, Bool, false, List, ◌++◌}
use Rattle.capture.specs.Final.{Arrival, IsArrival}
use Rattle.capture.specs.First.{Side, First, Message, Refused, IsFirst}
use Rattle.capture.specs.declared.framing.MessageFault.{MessageFault}

-- a message that is whole while the stream goes on stays so
abbrev pub MessagesStay : Type 0
MessagesStay =
    (side : Side) (ended : Bool) (stream more : List ℕ) (used : ℕ) → IsFirst side false stream (Message used)
    → IsFirst side ended (stream ++ more) (Message used)

-- and so does a fault
abbrev pub RefusalsStay : Type 0
RefusalsStay =
    (side : Side) (ended : Bool) (stream more : List ℕ) (fault : MessageFault) → IsFirst side false stream (Refused fault)
    → IsFirst side ended (stream ++ more) (Refused fault)

-- one thing stands first in a stream
abbrev pub FirstsAreOne : Type 0
FirstsAreOne =
    (side : Side) (ended : Bool) (stream : List ℕ) (first other : First) → IsFirst side ended stream first → IsFirst side ended stream other
    → first ≡ other

-- and an origin's stream comes to one thing
abbrev pub ArrivalsAreOne : Type 0
ArrivalsAreOne =
    (answers_head ended : Bool) (stream : List ℕ) (arrival other : Arrival) → IsArrival answers_head ended stream arrival
    → IsArrival answers_head ended stream other → arrival ≡ other
