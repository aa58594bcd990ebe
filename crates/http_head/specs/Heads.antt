-- A head in parts stands for the head of the grammar that its text is.
use Rattle.std.specs.Prelude.{◌≡◌, ℕ, Bool, ◌||◌, List, map, ⊤}
use Rattle.httparse.specs.Grammar as grammar
use Rattle.capture.specs.Fields.{NamedValue, named_values, has_field}
use Rattle.capture.specs.Framing.{transfer_encoding, content_length}
use Rattle.capture.specs.Message.{IsRequestHeadText, IsResponseHeadText}
use Rattle.http_head.specs.declared.head.Field.{Field}
use Rattle.http_head.specs.declared.head.RequestHead.{RequestHead}
use Rattle.http_head.specs.declared.head.RequestOutline.{RequestOutline}
use Rattle.http_head.specs.declared.head.ResponseHead.{ResponseHead}
use Rattle.http_head.specs.declared.head.Version.{Version}
use Rattle.http_head.specs.declared.head.Version.TheVariants.{Http10, Http11}
use Rattle.http_head.specs.declared.head.WireFault.{WireFault}
use Rattle.http_head.specs.declared.head.WireFault.TheVariants.{Malformed, HeadTooLong, BodyTooLong, CodingRefused, EndedEarly, Memory}

-- the minor version's digit
abbrev pub minor_of : Version → ℕ
minor_of Http10 = 0
minor_of Http11 = 1

-- a field's name and value
abbrev pub named_value : Field → NamedValue
named_value f = (f.name, f.value)

-- some field tells a length of the body
abbrev pub has_framing : List NamedValue → Bool
has_framing fields = has_field transfer_encoding fields || has_field content_length fields

-- the parts are those of the request head h, whose text this is
pub record HoldsRequestParts (text : List ℕ) (h : grammar.RequestHead) (head : RequestHead) : Type 0 where
  pub reads : IsRequestHeadText text h
  pub method : head.method ≡ h.method
  pub target : head.target ≡ h.target
  pub version : minor_of head.version ≡ h.minor
  pub fields : map named_value head.fields ≡ named_values h.fields
  pub text_is : head.text ≡ text

-- the method is that of the request head h, whose text this is, and it is told whether its fields tell a length of the body
pub record HoldsOutlineParts (text : List ℕ) (h : grammar.RequestHead) (outline : RequestOutline) : Type 0 where
  pub reads : IsRequestHeadText text h
  pub method : outline.method ≡ h.method
  pub framed : outline.is_framed ≡ has_framing (named_values h.fields)

-- the parts are those of the response head h, whose text this is
pub record HoldsResponseParts (text : List ℕ) (h : grammar.ResponseHead) (head : ResponseHead) : Type 0 where
  pub reads : IsResponseHeadText text h
  pub status : head.status ≡ grammar.status_code h
  pub reason : head.reason ≡ grammar.reason_phrase h.reason
  pub version : minor_of head.version ≡ h.minor
  pub fields : map named_value head.fields ≡ named_values h.fields
  pub text_is : head.text ≡ text

-- the parts are those of a request head
abbrev pub HoldsRequest : List ℕ → RequestHead → Type 0
HoldsRequest text head = (h : grammar.RequestHead) × HoldsRequestParts text h head

-- the outline is that of a request head
abbrev pub HoldsOutline : List ℕ → RequestOutline → Type 0
HoldsOutline text outline = (h : grammar.RequestHead) × HoldsOutlineParts text h outline

-- the parts are those of a response head
abbrev pub HoldsResponse : List ℕ → ResponseHead → Type 0
HoldsResponse text head = (h : grammar.ResponseHead) × HoldsResponseParts text h head

-- the faults of a text that is read without limits
abbrev pub IsHeadFault : WireFault → Type 0
IsHeadFault Malformed = ⊤
IsHeadFault HeadTooLong = ⊥
IsHeadFault BodyTooLong = ⊥
IsHeadFault CodingRefused = ⊥
IsHeadFault EndedEarly = ⊥
IsHeadFault Memory = ⊤
