-- What the definitions promise to those who read bodies.
use Rattle.std.specs.Prelude.{Bool, ℕ, List, length}
use Rattle.capture.specs.Body.{IsBody}
use Rattle.capture.specs.First.{Requests, Responses, HeadTells, HoldsBody}
use Rattle.capture.specs.declared.framing.Framing.{Framing}
use Rattle.http_head.specs.Heads.{HoldsRequest, HoldsResponse}
use Rattle.http_head.specs.declared.head.RequestHead.{RequestHead}
use Rattle.http_head.specs.declared.head.ResponseHead.{ResponseHead}
use Rattle.message_body.specs.Framings.{told_by_request, told_by_response}

-- a whole body within the limits that is all of a stream is a body of its framing
abbrev pub HeldBodiesAreBodies : Type 0
HeldBodiesAreBodies =
    (framing : Framing) (ended : Bool) (stream : List ℕ) → HoldsBody framing ended stream (length stream) → IsBody framing stream

-- the parts of a request's head tell what its text tells
abbrev pub RequestHeadsTell : Type 0
RequestHeadsTell =
    (text : List ℕ) (head : RequestHead) → HoldsRequest text head → HeadTells Requests text (told_by_request head)

-- the parts of a response's head tell what its text tells
abbrev pub ResponseHeadsTell : Type 0
ResponseHeadsTell =
    (answers_head : Bool) (text : List ℕ) (head : ResponseHead) → HoldsResponse text head
    → HeadTells (Responses answers_head) text (told_by_response answers_head head)
