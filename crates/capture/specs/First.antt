-- What stands at the front of a stream: a whole message within the limits; a fault, which is due at the first byte that
-- shows it; nothing yet; or the beginning of a message.
use Rattle.std.specs.Prelude.{◌≡◌, ◌≢◌, ◌⊎◌, ℕ, ◌+◌, ◌<◌, ◌≤◌, Bool, true, false, nat_lt, if◌then◌else◌, List, length, drop, Option, Some, None, Result, Ok, Err}
use Rattle.httparse.specs.Grammar.{RequestHead, ResponseHead}
use Rattle.capture.specs.Body.{IsCutWire}
use Rattle.capture.specs.FirstChunks.{HoldsChunked, RefusesChunked}
use Rattle.capture.specs.Framing.{request_framing, response_framing}
use Rattle.capture.specs.Head.{front_of}
use Rattle.capture.specs.Head as head
use Rattle.capture.specs.Message.{IsRequestHeadText, IsResponseHeadText}
use Rattle.capture.specs.declared.framing.Framing.{Framing}
use Rattle.capture.specs.declared.framing.Framing.TheVariants.{Empty, Length, Chunked, ToEnd}
use Rattle.capture.specs.declared.framing.FramingFault.{FramingFault}
use Rattle.capture.specs.declared.framing.FramingFault.TheVariants as framing_fault
use Rattle.capture.specs.declared.framing.MessageFault.{MessageFault}
use Rattle.capture.specs.declared.framing.MessageFault.TheVariants.{Malformed, HeadTooLong, BodyTooLong, CodingRefused}
use Rattle.capture.specs.declared.limits.TheConstants.{BODY_LIMIT}

-- whose messages a stream has: a client's, or an origin's, to HEAD or to another method
pub data Side : Type 0 where
  Requests : Side
  Responses : (answers_head : Bool) → Side

-- ---- the head

-- the text is a head of that side, and its parts tell this framing or this fault
abbrev pub HeadTells : Side → List ℕ → Result Framing FramingFault → Type 0
HeadTells Requests text framing = (h : RequestHead) × IsRequestHeadText text h × (request_framing h ≡ framing)
HeadTells (Responses answers_head) text framing =
    (h : ResponseHead) × IsResponseHeadText text h × (response_framing answers_head h ≡ framing)

-- the text is no head of that side
abbrev pub IsNoHead : Side → List ℕ → Type 0
IsNoHead Requests text = (h : RequestHead) → ¬ (IsRequestHeadText text h)
IsNoHead (Responses answers_head) text = (h : ResponseHead) → ¬ (IsResponseHeadText text h)

-- a head within the limits that tells this, up to this place; the rest stands behind it
pub record BehindHead (side : Side) (stream : List ℕ) (framing : Result Framing FramingFault) (end : ℕ) (rest : List ℕ) : Type 0 where
  pub skipped : ℕ
  pub text : List ℕ
  pub front : front_of stream ≡ head.Head skipped text
  pub tells : HeadTells side text framing
  pub end_is : end ≡ skipped + length text
  pub rest_is : rest ≡ drop end stream

-- a text within the limits of a head, up to its empty line, that is no head of that side
pub record HasNoHead (side : Side) (stream : List ℕ) : Type 0 where
  pub skipped : ℕ
  pub text : List ℕ
  pub front : front_of stream ≡ head.Head skipped text
  pub none : IsNoHead side text

-- the fault of a message whose head tells no framing
abbrev pub fault_of : FramingFault → MessageFault
fault_of framing_fault.Malformed = Malformed
fault_of framing_fault.CodingRefused = CodingRefused

-- the fault that a head tells of: it tells no framing, or a length past the limit of a body
abbrev pub fault_at_head : Result Framing FramingFault → Option MessageFault
fault_at_head (Err fault) = Some (fault_of fault)
fault_at_head (Ok Empty) = None
fault_at_head (Ok (Length n)) = if nat_lt BODY_LIMIT n then Some BodyTooLong else None
fault_at_head (Ok Chunked) = None
fault_at_head (Ok ToEnd) = None

-- a head of that side that tells of a fault
pub record RefusesAtHead (side : Side) (stream : List ℕ) (fault : MessageFault) : Type 0 where
  pub framing : Result Framing FramingFault
  pub end : ℕ
  pub rest : List ℕ
  pub head : BehindHead side stream framing end rest
  pub told : fault_at_head framing ≡ Some fault

-- ---- the body

-- a whole body within the limit stands at the front and has so many bytes; one up to the stream's end has all of them
abbrev pub HoldsBody : Framing → Bool → List ℕ → ℕ → Type 0
HoldsBody Empty ended stream used = used ≡ 0
HoldsBody (Length n) ended stream used = (n ≤ BODY_LIMIT) × (n ≤ length stream) × (used ≡ n)
HoldsBody Chunked ended stream used = HoldsChunked stream used
HoldsBody ToEnd ended stream used = (ended ≡ true) × (length stream ≤ BODY_LIMIT) × (used ≡ length stream)

-- the body has a fault, of which the head didn't tell
abbrev pub RefusesBody : Framing → List ℕ → MessageFault → Type 0
RefusesBody Empty stream fault = ⊥
RefusesBody (Length n) stream fault = ⊥
RefusesBody Chunked stream fault = RefusesChunked stream fault
RefusesBody ToEnd stream fault = (BODY_LIMIT < length stream) × (fault ≡ BodyTooLong)

-- more of the body is to come
abbrev pub BeginsBody : Framing → Bool → List ℕ → Type 0
BeginsBody Empty ended stream = ⊥
BeginsBody (Length n) ended stream = IsCutWire (Length n) stream
BeginsBody Chunked ended stream = IsCutWire Chunked stream
BeginsBody ToEnd ended stream = (ended ≡ false) × (length stream ≤ BODY_LIMIT)

-- ---- the message

-- a whole message, of so many bytes with the line ends before it
pub record HoldsMessage (side : Side) (ended : Bool) (stream : List ℕ) (used : ℕ) : Type 0 where
  pub framing : Framing
  pub end : ℕ
  pub rest : List ℕ
  pub body_len : ℕ
  pub head : BehindHead side stream (Ok framing) end rest
  pub body : HoldsBody framing ended rest body_len
  pub used_is : used ≡ end + body_len

-- a head whose body has a fault
pub record RefusesBehindHead (side : Side) (stream : List ℕ) (fault : MessageFault) : Type 0 where
  pub framing : Framing
  pub end : ℕ
  pub rest : List ℕ
  pub head : BehindHead side stream (Ok framing) end rest
  pub body : RefusesBody framing rest fault

-- the fault that is due: the head is too long, none, or tells of a fault; or the body has one
abbrev pub IsRefused : Side → List ℕ → MessageFault → Type 0
IsRefused side stream fault =
    ((front_of stream ≡ head.TooLong) × (fault ≡ HeadTooLong)) ⊎ (HasNoHead side stream × (fault ≡ Malformed))
    ⊎ RefusesAtHead side stream fault ⊎ RefusesBehindHead side stream fault

-- a head whose body is to go on
pub record BeginsBehindHead (side : Side) (ended : Bool) (stream : List ℕ) : Type 0 where
  pub framing : Framing
  pub end : ℕ
  pub rest : List ℕ
  pub head : BehindHead side stream (Ok framing) end rest
  pub body : BeginsBody framing ended rest

-- more of the head is needed; where no byte came but skipped line ends, that is so of a response alone
abbrev pub NeedsHead : Side → List ℕ → Type 0
NeedsHead side stream = ((front_of stream ≡ head.Nothing) × (side ≢ Requests)) ⊎ (front_of stream ≡ head.More)

-- what may stand first
pub data First : Type 0 where
  Message : (used : ℕ) → First
  Refused : (fault : MessageFault) → First
  NothingBegun : First
  HeadNeeded : First
  BodyNeeded : First

-- what stands first in a stream so far, which has ended or goes on
abbrev pub IsFirst : Side → Bool → List ℕ → First → Type 0
IsFirst side ended stream (Message used) = HoldsMessage side ended stream used
IsFirst side ended stream (Refused fault) = IsRefused side stream fault
IsFirst side ended stream NothingBegun = (front_of stream ≡ head.Nothing) × (side ≡ Requests)
IsFirst side ended stream HeadNeeded = NeedsHead side stream
IsFirst side ended stream BodyNeeded = BeginsBehindHead side ended stream
