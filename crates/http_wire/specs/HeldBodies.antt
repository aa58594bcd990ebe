-- What came of a body, behind the head that tells of it.
use Rattle.std.specs.Prelude.{◌≡◌, ◌⊎◌, ℕ, ◌-◌, ◌<◌, ◌≤◌, Bool, true, false, List, [], ◌++◌, length, take, Option, Some, None, Result, Ok, Err, ⊤}
use Rattle.capture.specs.Body.{IsCutWire}
use Rattle.capture.specs.First.{Side, HoldsBody, RefusesBody}
use Rattle.capture.specs.declared.framing.Framing.{Framing}
use Rattle.capture.specs.declared.framing.MessageFault.{MessageFault}
use Rattle.http_head.specs.HeadReading.{IsOpen}
use Rattle.http_head.specs.declared.head.WireFault.{WireFault}
use Rattle.http_head.specs.declared.head.WireFault.TheVariants as wire_fault
use Rattle.body_reader.specs.BodySoFar.{IsOpenBody}
use Rattle.body_reader.specs.BodyStream.{BodyStream, further_on}
use Rattle.http_wire.specs.Reading.{Standing, Open, Whole, Cut, Failed, EndsWithHead, HasFault, fault_in}
use Rattle.http_wire.specs.declared.held.Held.{Held}
use Rattle.http_wire.specs.declared.held.Held.TheVariants as held
use Rattle.http_wire.specs.declared.progress.Fed.{Fed}
use Rattle.http_wire.specs.declared.progress.Progress.{Progress}
use Rattle.http_wire.specs.declared.progress.Progress.TheVariants as progress

-- the bytes that came
abbrev pub held_bytes : Held → List ℕ
held_bytes held.Before = []
held_bytes (held.Open body) = body.stream
held_bytes (held.Closed closed) = closed.wire

-- a body that has come to its end is whole, or was cut
abbrev pub IsClosed : Bool → Framing → List ℕ → Type 0
IsClosed false framing wire = HoldsBody framing true wire (length wire)
IsClosed true framing wire = IsCutWire framing wire

-- a front that goes on: its head is to come; or it ends with its head, and of the body more is to come, or none is
abbrev pub GoesOn : Side → List ℕ → Held → Type 0
GoesOn side front held.Before = IsOpen front
GoesOn side front (held.Open body) = EndsWithHead side front body.framing × IsOpenBody body
GoesOn side front (held.Closed closed) = EndsWithHead side front closed.framing × IsClosed closed.cut closed.framing closed.wire

-- what a reader without a fault has come to
abbrev pub closed_standing : Bool → Standing
closed_standing false = Whole
closed_standing true = Cut

abbrev pub held_standing : Held → Standing
held_standing held.Before = Open
held_standing (held.Open body) = Open
held_standing (held.Closed closed) = closed_standing closed.cut

-- what a reader has come to
abbrev pub standing_of : Option WireFault → Held → Standing
standing_of None h = held_standing h
standing_of (Some fault) h = Failed fault

-- without a fault the front goes on, and a fault is the stream's
abbrev pub Agrees : Side → List ℕ → Held → Option WireFault → Type 0
Agrees side front h None = GoesOn side front h
Agrees side front h (Some fault) = HasFault side fault (front ++ held_bytes h)

-- the fault of an answer
abbrev pub fault_of : {T : Type 0} → Result T WireFault → Option WireFault
fault_of (Ok value) = None
fault_of (Err fault) = Some fault

-- the fault of an end, which is between messages or not
abbrev pub fault_of_end : Bool → Option WireFault
fault_of_end true = None
fault_of_end false = Some wire_fault.EndedEarly

-- a body of which nothing has come: more is to come, or it has no byte
abbrev pub IsBegun : Framing → Held → Type 0
IsBegun framing held.Before = ⊥
IsBegun framing (held.Open body) = (body ≡ record { framing = framing; stream = [] }) × IsOpenBody body
IsBegun framing (held.Closed closed) =
    (closed ≡ record { framing = framing; wire = []; cut = false }) × HoldsBody framing false [] 0

-- ---- feeding a body

-- so many bytes came of the body, and more is to come, or was before the last of them
pub record TakesBody (body : BodyStream) (piece : List ℕ) (used : ℕ) (h : Held) : Type 0 where
  pub fits : used ≤ length piece
  pub bytes_are : held_bytes h ≡ body.stream ++ take used piece
  pub soonest : IsOpenBody (further_on body (take used piece)) ⊎ (0 < used → IsOpenBody (further_on body (take (used - 1) piece)))

-- some bytes came of it
abbrev pub TakesSomeBody : BodyStream → List ℕ → Held → Type 0
TakesSomeBody body piece h = (used : ℕ) × TakesBody body piece used h

-- what is held after an answer
abbrev pub HoldsAt : Framing → Progress → Held → Type 0
HoldsAt framing progress.More (held.Open body) = (body.framing ≡ framing) × IsOpenBody body
HoldsAt framing progress.Whole (held.Closed closed) =
    (closed.framing ≡ framing) × (closed.cut ≡ false) × HoldsBody framing false closed.wire (length closed.wire)
HoldsAt framing other h = ⊥

-- what is held after a fault, which the body shows unless it is want of memory
abbrev pub HoldsFault : Framing → WireFault → Held → Type 0
HoldsFault framing wire_fault.Memory h = ⊤
HoldsFault framing fault (held.Open body) =
    (body.framing ≡ framing) × ((due : MessageFault) × RefusesBody framing body.stream due × (fault ≡ fault_in due))
HoldsFault framing fault h = ⊥

abbrev pub Holds : Framing → Result Fed WireFault → Held → Type 0
Holds framing (Ok fed) h = HoldsAt framing fed.progress h
Holds framing (Err fault) h = HoldsFault framing fault h
