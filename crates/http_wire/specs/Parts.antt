-- The parts of a reader.
use Rattle.std.specs.Prelude.{Bool, List, [], ℕ, ◌++◌, Option, None}
use Rattle.capture.specs.First.{Requests, Responses}
use Rattle.http_head.specs.declared.head.WireFault.{WireFault}
use Rattle.http_wire.specs.Heads.{HoldsHead, HoldsResponseHead}
use Rattle.http_wire.specs.HeldBodies.{held_bytes, standing_of, Agrees}
use Rattle.http_wire.specs.declared.held.Held.TheVariants as held
use Rattle.http_wire.specs.declared.request.parts.RequestParts.{RequestParts}
use Rattle.http_wire.specs.declared.response.parts.ResponseParts.{ResponseParts}

-- the stream so far
abbrev pub request_bytes : RequestParts → List ℕ
request_bytes parts = parts.front ++ held_bytes parts.held

-- the parts agree with one another and with the fault that was answered
pub record RequestAgrees (parts : RequestParts) (fault : Option WireFault) : Type 0 where
  pub body : Agrees Requests parts.front parts.held fault
  pub head : HoldsHead (request_bytes parts) (standing_of fault parts.held) parts.head

-- nothing has come
abbrev pub new_parts : RequestParts
new_parts = record { front = []; head = None; held = held.Before }

-- the same of responses, to HEAD or to another method
abbrev pub response_bytes : ResponseParts → List ℕ
response_bytes parts = parts.front ++ held_bytes parts.held

pub record ResponseAgrees (answers_head : Bool) (parts : ResponseParts) (fault : Option WireFault) : Type 0 where
  pub body : Agrees (Responses answers_head) parts.front parts.held fault
  pub head : HoldsResponseHead answers_head (response_bytes parts) (standing_of fault parts.held) parts.head

abbrev pub new_response_parts : ResponseParts
new_response_parts = record { front = []; head = None; held = held.Before }
