-- The framing of a new capture, and which capture has a payload, of all that there are.
use Rattle.std.specs.Prelude.{ℕ, ◌<◌, Bool, List, length, Option, Result, Ok, Err, ⊤}
use Rattle.capture.specs.Body.{IsWire}
use Rattle.capture.specs.Captures.{captures, HasPayload}
use Rattle.capture.specs.Payload.{IsPayload}
use Rattle.capture.specs.declared.book.Book.{Book}
use Rattle.capture.specs.declared.captured.Taken.{Taken}
use Rattle.capture.specs.declared.framing.Framing.{Framing}
use Rattle.archive_shelf.specs.Answers.{IsDamaged}
use Rattle.archive_shelf.specs.Comparing.{IsRight}
use Rattle.archive_shelf.specs.declared.fault.StoreFault.{StoreFault}
use Rattle.archive_shelf.specs.declared.fault.StoreFault.TheVariants as stores

-- what looking for a payload among all captures answers: the first that has it
abbrev pub FindsAmongAll : Bool → Book → List ℕ → Result (Option ℕ) StoreFault → Type 0
FindsAmongAll tells book payload (Ok same) = IsRight tells book payload (record { upto = length (captures book); same = same })
FindsAmongAll tells book payload (Err (stores.Full count limit)) = ⊥
FindsAmongAll tells book payload (Err stores.DiskFault) = ⊤
FindsAmongAll tells book payload (Err (stores.Damaged at kept found)) = (at < length (captures book)) × IsDamaged tells kept found
FindsAmongAll tells book payload (Err stores.Memory) = ⊤

-- the capture's wire is a body of this framing, and is decoded by that to the capture's payload
pub record IsFramedBy (taken : Taken) (framing : Framing) : Type 0 where
  pub wire : IsWire taken.cut framing taken.wire
  pub gives : (payload : List ℕ) → IsPayload taken.cut framing taken.wire payload → HasPayload taken.cut taken.method taken.head taken.wire payload
  pub needs : (payload : List ℕ) → HasPayload taken.cut taken.method taken.head taken.wire payload → IsPayload taken.cut framing taken.wire payload
