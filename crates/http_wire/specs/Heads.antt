-- The head that a reader holds.
use Rattle.std.specs.Prelude.{◌≡◌, ℕ, Bool, List, Option, Some, None}
use Rattle.capture.specs.First.{Requests, Responses}
use Rattle.capture.specs.Head.{front_of, Head as HeadAt}
use Rattle.http_head.specs.Heads.{HoldsRequest, HoldsResponse}
use Rattle.http_head.specs.declared.head.RequestHead.{RequestHead}
use Rattle.http_head.specs.declared.head.ResponseHead.{ResponseHead}
use Rattle.http_wire.specs.Reading.{Standing, LacksHead}

-- the head stands first in the stream, behind line ends that are skipped, and these are its parts
pub record BeginsWithRequest (stream : List ℕ) (head : RequestHead) : Type 0 where
  pub skipped : ℕ
  pub front : front_of stream ≡ HeadAt skipped head.text
  pub holds : HoldsRequest head.text head

-- the head that a reader of requests holds is the one that came
abbrev pub HoldsHead : List ℕ → Standing → Option RequestHead → Type 0
HoldsHead stream standing None = LacksHead Requests stream standing
HoldsHead stream standing (Some head) = BeginsWithRequest stream head

-- the head stands first in the stream, behind line ends that are skipped, and these are its parts
pub record BeginsWithResponse (stream : List ℕ) (head : ResponseHead) : Type 0 where
  pub skipped : ℕ
  pub front : front_of stream ≡ HeadAt skipped head.text
  pub holds : HoldsResponse head.text head

-- the head that a reader of responses holds is the one that came
abbrev pub HoldsResponseHead : Bool → List ℕ → Standing → Option ResponseHead → Type 0
HoldsResponseHead answers_head stream standing None = LacksHead (Responses answers_head) stream standing
HoldsResponseHead answers_head stream standing (Some head) = BeginsWithResponse stream head
