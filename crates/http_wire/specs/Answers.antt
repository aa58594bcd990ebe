-- What a reader answers, and what it leaves.
use Rattle.std.specs.Prelude.{◌≡◌, ◌⊎◌, ℕ, false, List, length, Option, None, Result, Ok, Err, IsSome}
use Rattle.capture.specs.First.{Side, Message, IsFirst}
use Rattle.http_head.specs.declared.head.WireFault.{WireFault}
use Rattle.http_wire.specs.Reading.{Standing, Open, Whole, Failed, IsUndecided, TellsBody}
use Rattle.http_wire.specs.declared.progress.Fed.{Fed}
use Rattle.http_wire.specs.declared.progress.Progress.{Progress}
use Rattle.http_wire.specs.declared.progress.Progress.TheVariants as progress

-- what an answer says of the stream so far
abbrev pub Reaches : Side → Progress → List ℕ → Type 0
Reaches side progress.More stream = IsUndecided side false stream
Reaches side progress.Head stream = TellsBody side stream
Reaches side progress.Whole stream = IsFirst side false stream (Message (length stream))

-- the head comes with the answer Head, once, and before the message is whole
abbrev pub HeadsBy : {H : Type 0} → Progress → Option H → Option H → Type 0
HeadsBy progress.More old new = new ≡ old
HeadsBy progress.Head old new = (old ≡ None) × IsSome new
HeadsBy progress.Whole old new = IsSome old × (new ≡ old)

-- what a reader has come to by an answer
abbrev pub LeavesAt : Progress → Standing → Type 0
LeavesAt progress.More standing = standing ≡ Open
LeavesAt progress.Head standing = (standing ≡ Open) ⊎ (standing ≡ Whole)
LeavesAt progress.Whole standing = standing ≡ Whole

abbrev pub Leaves : Result Fed WireFault → Standing → Type 0
Leaves (Ok fed) standing = LeavesAt fed.progress standing
Leaves (Err fault) standing = standing ≡ Failed fault

-- a message that is whole is so in a stream that goes on
abbrev pub IsWholeNow : Side → List ℕ → Standing → Type 0
IsWholeNow side stream standing = standing ≡ Whole → IsFirst side false stream (Message (length stream))
