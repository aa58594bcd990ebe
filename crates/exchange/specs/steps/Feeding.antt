-- One feeding of a window to a reader.
use Rattle.std.specs.Prelude.{◌≡◌, false, [], length, Option, None, Result, Ok, Err, IsSome}
use Rattle.capture.specs.First.{Side, Message, IsFirst}
use Rattle.http_head.specs.declared.head.WireFault.{WireFault}
use Rattle.http_wire.specs.Reading.{Standing, Open, Whole, Failed, IsUndecided, TellsBody, HasFault, ComesBeforeTheEnd}
use Rattle.http_wire.specs.declared.progress.Progress.{Progress}
use Rattle.http_wire.specs.declared.progress.Progress.TheVariants as progress
use Rattle.exchange.specs.Receiving.{IsFrontOf, Input, pending, MayGoOn}

-- What is left of the message so far and of the window, and what is said of the message. Bytes behind a fault are nobody's: the
-- window is empty.
abbrev pub Feeds : Side → Result Progress WireFault → (old new : Input) → Standing → Type 0
Feeds side (Ok progress.More) old new standing =
    (new.stream ≡ pending old) × (new.window ≡ []) × (standing ≡ Open) × IsUndecided side false new.stream
Feeds side (Ok progress.Head) old new standing =
    (pending new ≡ pending old) × TellsBody side new.stream × MayGoOn side new.stream standing
Feeds side (Ok progress.Whole) old new standing =
    (pending new ≡ pending old) × (standing ≡ Whole) × IsFirst side false new.stream (Message (length new.stream))
Feeds side (Err fault) old new standing =
    IsFrontOf new.stream (pending old) × (new.window ≡ []) × (standing ≡ Failed fault) × HasFault side fault new.stream
    × ComesBeforeTheEnd fault

-- the head comes once, with the answer Head, or with a fault that comes in its place; the message isn't whole without it
abbrev pub BringsHead : {H : Type 0} → Result Progress WireFault → Option H → Option H → Type 0
BringsHead (Ok progress.More) old new = new ≡ old
BringsHead (Ok progress.Head) old new = (old ≡ None) × IsSome new
BringsHead (Ok progress.Whole) old new = IsSome old × (new ≡ old)
BringsHead (Err fault) old new = IsSome old → new ≡ old
