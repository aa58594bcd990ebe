-- Which captures are well formed, but for their dates, whose range is told with their texts: an accepted target, one
-- whole request, and one final response to its method, whole or cut.
use Rattle.std.specs.Prelude.{◌≡◌, ◌≢◌, ℕ, ◌≤◌, Bool, true, false, List, ◌++◌, length, IsTrue, Ok}
use Rattle.httparse.specs.Grammar.{RequestHead, ResponseHead, status_code}
use Rattle.capture.specs.Framing.{response_framing}
use Rattle.capture.specs.Message.{IsResponseHeadText, IsWholeRequest, IsWholeResponse, IsCutResponse}
use Rattle.capture.specs.Methods.{asks_for_head}
use Rattle.capture.specs.Target.{is_accepted_uri}
use Rattle.capture.specs.declared.captured.Taken.{Taken}
use Rattle.capture.specs.declared.framing.Framing.{Framing}
use Rattle.capture.specs.declared.framing.Framing.TheVariants.{Empty, Length}

-- the text is one whole request of this method
pub record IsRequestOf (method text : List ℕ) : Type 0 where
  pub head : RequestHead
  pub framing : Framing
  pub wire : List ℕ
  pub whole : IsWholeRequest text head framing wire
  pub named : head.method ≡ method

-- the text is the head of a final response
pub record IsFinalHead (text : List ℕ) (parsed : ResponseHead) : Type 0 where
  pub whole : IsResponseHeadText text parsed
  pub final : 200 ≤ status_code parsed

-- the head and the wire are one whole final response to a request of this method
pub record IsResponseTo (method head wire : List ℕ) : Type 0 where
  pub parsed : ResponseHead
  pub framing : Framing
  pub head_is : IsFinalHead head parsed
  pub whole : IsWholeResponse (asks_for_head method) (head ++ wire) parsed framing wire

-- the head and the wire are what came of one final response to a request of this method, which ended inside its body
pub record IsCutResponseTo (method head wire : List ℕ) : Type 0 where
  pub parsed : ResponseHead
  pub framing : Framing
  pub head_is : IsFinalHead head parsed
  pub cut : IsCutResponse (asks_for_head method) head wire parsed framing

-- the response is whole, or cut, as is told
abbrev pub RespondsTo : Bool → List ℕ → List ℕ → List ℕ → Type 0
RespondsTo false method head wire = IsResponseTo method head wire
RespondsTo true method head wire = IsCutResponseTo method head wire

-- the head is that of a final response to a request of this method, and tells that there is a body
pub record TellsBody (method head : List ℕ) (parsed : ResponseHead) (framing : Framing) : Type 0 where
  pub head_is : IsFinalHead head parsed
  pub framed : response_framing (asks_for_head method) parsed ≡ Ok framing
  pub some : framing ≢ Empty

-- the head is one whose body has this payload and is left out: a length that it tells is the payload's
pub record IsHeadBefore (method head payload : List ℕ) : Type 0 where
  pub parsed : ResponseHead
  pub framing : Framing
  pub tells : TellsBody method head parsed framing
  pub told : (n : ℕ) → framing ≡ Length n → length payload ≡ n

-- the target is an accepted one, the request is whole, and the response is whole or cut, as is told
pub record IsWellFormed (taken : Taken) : Type 0 where
  pub target : IsTrue (is_accepted_uri taken.uri)
  pub request : IsRequestOf taken.method taken.request
  pub response : RespondsTo taken.cut taken.method taken.head taken.wire
