-- A reader of requests, as contracts see it.
use Rattle.std.specs.Prelude.{◌≡◌, ◌⊎◌, ℕ, true, List, [], length, Option, None}
use Rattle.capture.specs.First.{Requests, Message, NothingBegun, IsFirst}
use Rattle.http_head.specs.declared.head.RequestHead.{RequestHead}
use Rattle.http_wire.specs.Reading.{Standing, Open, Whole}

-- the bytes that came since it was new, the head once it has come, and what the reader has come to
pub record RequestReading : Type 0 where
  pub stream : List ℕ
  pub head : Option RequestHead
  pub standing : Standing

-- nothing has come
abbrev pub new_request : RequestReading
new_request = record { stream = []; head = None; standing = Open }

-- an end between messages: nothing but skipped line ends has come, or the message is whole
abbrev pub EndsBetween : List ℕ → Standing → Type 0
EndsBetween stream standing =
    ((standing ≡ Open) × IsFirst Requests true stream NothingBegun)
    ⊎ ((standing ≡ Whole) × IsFirst Requests true stream (Message (length stream)))
