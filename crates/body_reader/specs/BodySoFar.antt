-- A body that is read piece by piece: its framing, and the bytes of the body that came.
use Rattle.std.specs.Prelude.{◌≡◌, ◌≢◌, ◌-◌, ◌<◌, ℕ, false, true, List, take, length, None, Ok}
use Rattle.capture.specs.First.{BeginsBody, HoldsBody, RefusesBody, fault_at_head}
use Rattle.capture.specs.Body.{IsCutWire}
use Rattle.capture.specs.declared.framing.Framing.{Framing}
use Rattle.body_reader.specs.BodyStream.{BodyStream, further_on}
use Rattle.body_reader.specs.declared.fed.BodyFed.{BodyFed}
use Rattle.body_reader.specs.declared.fed.BodyProgress.{BodyProgress}
use Rattle.body_reader.specs.declared.fed.BodyProgress.TheVariants.{More, Whole, Refused}

-- the head tells a body within the limit
abbrev pub IsShortFraming : Framing → Type 0
IsShortFraming framing = fault_at_head (Ok framing) ≡ None

-- the bytes that came are one whole body
abbrev pub IsWholeBody : BodyStream → Type 0
IsWholeBody body = HoldsBody body.framing false body.stream (length body.stream)

-- more of the body is to come
abbrev pub IsOpenBody : BodyStream → Type 0
IsOpenBody body = BeginsBody body.framing false body.stream

-- the stream has ended, and what came of the body is whole
abbrev pub EndsWhole : BodyStream → Type 0
EndsWhole body = HoldsBody body.framing true body.stream (length body.stream)

-- the bytes that came are a body that was cut
abbrev pub EndsCut : BodyStream → Type 0
EndsCut body = IsCutWire body.framing body.stream

-- what is said of the bytes that came
abbrev pub ReachesBody : BodyProgress → BodyStream → Type 0
ReachesBody More body = IsOpenBody body
ReachesBody Whole body = IsWholeBody body
ReachesBody (Refused fault) body = RefusesBody body.framing body.stream fault

-- an end or a fault comes with the last byte that was taken of the piece: before it more was to come
abbrev pub IsSoonest : BodyStream → List ℕ → BodyFed → Type 0
IsSoonest before piece fed =
    fed.progress ≢ More → 0 < fed.used → IsOpenBody (further_on before (take (fed.used - 1) piece))
