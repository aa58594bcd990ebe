-- What a client's bytes ask, and why they are refused for themselves (RFC 9112, sections 2 and 3). A head is looked at
-- first, then the method CONNECT, then the target, then what tells of a body, then the body.
use Rattle.std.specs.Prelude.{◌≡◌, ◌⊎◌, ℕ, ◌+◌, Bool, true, false, not, ◌&&◌, ◌||◌, ◌==◌, nat_le, List, [], map, codes, Option, Some, None, Result, Ok, Err, is_ok, if◌then◌else◌}
use Rattle.std.specs.List.{list_any}
use Rattle.std.specs.Str.{bytes_eq}
use Rattle.capture.specs.Fields.{NamedValue, is_named, lowered}
use Rattle.capture.specs.First.{Requests, NothingBegun, HeadNeeded, BodyNeeded, IsFirst, HasNoHead, RefusesAtHead, RefusesBehindHead}
use Rattle.capture.specs.Head.{front_of}
use Rattle.capture.specs.Head as head_front
use Rattle.capture.specs.declared.framing.Framing.{Framing}
use Rattle.capture.specs.declared.framing.Framing.TheVariants.{Empty, Length, Chunked, ToEnd}
use Rattle.capture.specs.declared.framing.FramingFault.{FramingFault}
use Rattle.capture.specs.declared.framing.MessageFault.{MessageFault}
use Rattle.capture.specs.declared.framing.MessageFault.TheVariants as message_fault
use Rattle.capture.specs.declared.limits.TheConstants.{BODY_LIMIT}
use Rattle.capture.specs.declared.refusal.Refusal.{Refusal}
use Rattle.capture.specs.declared.refusal.Refusal.TheVariants.{Malformed, HeadTooLong, BodyTooLong, CodingRefused, ConnectRefused, SecureRefused, TargetRefused}
use Rattle.capture.specs.declared.site.Site.{Site}
use Rattle.exchange.specs.Aim.{aim_of}
use Rattle.exchange.specs.Texts.{connection}
use Rattle.exchange.specs.declared.aim.Aim.{Aim}
use Rattle.exchange.specs.declared.aim.AimFault.TheVariants as aim_fault
use Rattle.http_head.specs.Heads.{named_value}
use Rattle.http_head.specs.declared.head.RequestHead.{RequestHead}
use Rattle.http_head.specs.declared.head.RequestMessage.{RequestMessage}
use Rattle.http_head.specs.declared.head.Version.{Version}
use Rattle.http_head.specs.declared.head.Version.TheVariants.{Http10, Http11}
use Rattle.http_wire.specs.Heads.{BeginsWithRequest}
use Rattle.http_wire.specs.Messages.{IsRequest}
use Rattle.message_body.specs.Framings.{members, told_by_request}
use Rattle.request_answer.specs.declared.TheConstants.{REQUEST_LIMIT}

-- ---- heads

-- it tells of a body, within the limit
abbrev pub tells_body : Result Framing FramingFault → Bool
tells_body (Ok Empty) = false
tells_body (Ok (Length n)) = nat_le n BODY_LIMIT
tells_body (Ok Chunked) = true
tells_body (Ok ToEnd) = true
tells_body (Err fault) = false

-- HTTP/1.1 has many requests a connection, HTTP/1.0 has one
abbrev pub is_persistent : Version → Bool
is_persistent Http10 = false
is_persistent Http11 = true

-- What is written before the body of a request with this head is read: the answer that asks for it (RFC 9110, section 15.2.1), where the head goes somewhere,
-- tells of a body, and a field `Expect: 100-continue` says that the client waits for that (section 10.1.1); else nothing.
abbrev pub interim_of : Site → RequestHead → List ℕ
interim_of site head =
    if is_ok (aim_of site head.method head.target)
    && (tells_body (told_by_request head) && is_persistent head.version
    && list_any (λ (field : NamedValue). is_named (codes "expect") field && bytes_eq (lowered field.1) (codes "100-continue")) (map named_value head.fields))
    then codes "HTTP/1.1 100 Continue\r\n\r\n" else []

-- the connection closes after a request with this head, behind so many others: by its version, by a field Connection that lists `close`, in whatever
-- case (RFC 9112, section 9.6), or by its number
abbrev pub closes_after : ℕ → RequestHead → Bool
closes_after served head =
    not (is_persistent head.version)
    || list_any (λ (field : NamedValue). is_named connection field && list_any (λ member. bytes_eq (lowered member) (codes "close")) (members field.1)) (map named_value head.fields)
    || (served + 1 == REQUEST_LIMIT)

-- ---- streams

-- what is written in the middle of the stream: what its head asks for, before its body is read, or nothing, where no head stands first
abbrev pub IsInterim : Site → List ℕ → List ℕ → Type 0
IsInterim site stream text =
    ((head : RequestHead) × BeginsWithRequest stream head × (text ≡ interim_of site head))
    ⊎ (((head : RequestHead) → ¬ (BeginsWithRequest stream head)) × (text ≡ []))

-- a request has begun, and more of it is needed: of its head, or of the body behind a head that asks to go somewhere
abbrev pub IsInside : Site → List ℕ → Type 0
IsInside site stream =
    IsFirst Requests true stream HeadNeeded
    ⊎ ((head : RequestHead) × BeginsWithRequest stream head × ((aim : Aim) × (aim_of site head.method head.target ≡ Ok aim))
    × IsFirst Requests false stream BodyNeeded)

-- no request as yet, and no refusal: nothing has begun but line ends that are skipped, or more is needed
abbrev pub IsUndecided : Site → List ℕ → Type 0
IsUndecided site stream = IsFirst Requests true stream NothingBegun ⊎ IsInside site stream

-- the bytes are one request, with the line ends that are skipped before it, which asks to go there
pub record IsAsked (site : Site) (wire : List ℕ) (message : RequestMessage) (aim : Aim) : Type 0 where
  pub is : IsRequest wire message
  pub aimed : aim_of site message.head.method message.head.target ≡ Ok aim

-- ---- refusals

-- the refusal of what is no message
abbrev pub refusal_of : MessageFault → Refusal
refusal_of message_fault.Malformed = Malformed
refusal_of message_fault.HeadTooLong = HeadTooLong
refusal_of message_fault.BodyTooLong = BodyTooLong
refusal_of message_fault.CodingRefused = CodingRefused

-- The bytes are refused for themselves, with this head or without one. A head asks to go nowhere; or it asks to go somewhere, and it or the body behind it
-- is no message.
abbrev pub IsRefused : Site → List ℕ → Option RequestHead → Refusal → Type 0
IsRefused site wire None refusal =
    ((front_of wire ≡ head_front.TooLong) × (refusal ≡ HeadTooLong)) ⊎ (HasNoHead Requests wire × (refusal ≡ Malformed))
IsRefused site wire (Some head) refusal =
    BeginsWithRequest wire head
    × ((((aim_of site head.method head.target ≡ Err aim_fault.ConnectRefused) × (refusal ≡ ConnectRefused))
    ⊎ ((aim_of site head.method head.target ≡ Err aim_fault.SecureRefused) × (refusal ≡ SecureRefused))
    ⊎ ((aim_of site head.method head.target ≡ Err aim_fault.TargetRefused) × (refusal ≡ TargetRefused)))
    ⊎ ((fault : MessageFault) × ((aim : Aim) × (aim_of site head.method head.target ≡ Ok aim))
    × (RefusesAtHead Requests wire fault ⊎ RefusesBehindHead Requests wire fault) × (refusal ≡ refusal_of fault)))
