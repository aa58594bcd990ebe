-- The head of a request that a reader holds.
use Rattle.std.proofs.Common.{◌≡◌, ℕ, Bool, true, false, List, [], ◌++◌, length, Option, Some, None, Ok, Err, inl, inr, refl, sym, ap, subst, ◌∙◌, arith}
use Rattle.std.specs.Prelude.{Result, IsSome, IfOk, IfErr, map}
use Rattle.std.proofs.lemmas.Bool.{false≢true}
use Rattle.std.proofs.lemmas.List.{append-nil, drop-append-le}
use Rattle.capture.specs.Body.{IsCutWire}
use Rattle.capture.specs.First.{Requests, HeadTells, IsNoHead, HoldsBody, fault_at_head}
use Rattle.capture.specs.Fields.{named_values}
use Rattle.capture.specs.Framing.{framing_of_request}
use Rattle.capture.specs.Head.{line_ends_len, after_line_ends, front_of, Head as HeadAt}
use Rattle.capture.specs.Payload.{IsPayload}
use Rattle.capture.specs.declared.framing.Framing.{Framing}
use Rattle.capture.specs.declared.framing.FramingFault.{FramingFault}
use Rattle.http_head.specs.FrontLaws.{HeadsStay}
use Rattle.http_head.specs.HeadReading.{IsOpen, IsTooLong}
use Rattle.http_head.specs.HeadReading as reading
use Rattle.http_head.specs.Heads.{HoldsRequest, IsHeadFault, minor_of, named_value}
use Rattle.http_head.specs.declared.head.RequestHead.{RequestHead}
use Rattle.http_head.specs.declared.head.WireFault.{WireFault}
use Rattle.http_head.specs.declared.head.WireFault.TheVariants.{Malformed, HeadTooLong, BodyTooLong, CodingRefused, EndedEarly, Memory}
use Rattle.body_reader.specs.BodySoFar.{IsOpenBody}
use Rattle.body_reader.specs.BodyStream.{BodyStream}
use Rattle.http_wire.specs.Answers.{Reaches, HeadsBy, IsWholeNow}
use Rattle.http_wire.specs.Heads.{BeginsWithRequest, HoldsHead}
use Rattle.http_wire.specs.HeldBodies.{held_bytes, held_standing, closed_standing, standing_of, fault_of, GoesOn, IsClosed, IsBegun, HoldsAt, Holds, TakesBody, TakesSomeBody}
use Rattle.http_wire.specs.Messages.{IsRequest}
use Rattle.http_wire.specs.Parts.{RequestAgrees, request_bytes}
use Rattle.http_wire.specs.Reading.{EndsWithHead, HasFault, LacksHead, Takes, TakesSome, Standing, Open, Whole, Failed}
use Rattle.http_wire.specs.RequestReading.{EndsBetween}
use Rattle.http_wire.specs.steps.Told.{IsTold}
use Rattle.http_wire.specs.declared.held.Held.{Held}
use Rattle.http_wire.specs.declared.held.ClosedBody.{ClosedBody}
use Rattle.http_wire.specs.declared.held.Held.TheVariants.{Before, Open as OpenBody, Closed}
use Rattle.http_wire.specs.declared.progress.Fed.{Fed}
use Rattle.http_wire.specs.declared.progress.Progress.{Progress}
use Rattle.http_wire.specs.declared.progress.Progress.TheVariants as progress
use Rattle.http_wire.specs.declared.request.parts.RequestParts.{RequestParts}
use Rattle.http_wire.proofs.HeldLaws.{begun_goes_on, agrees_behind, held_reaches, held_whole}
use Rattle.http_wire.proofs.StandingLaws.{goes_on_behind, holds_message, needs_body, cut_needs, ends_with, lacks_none, none_lacks_head, open_lacks_head, too_long_lacks_head, open_has_no_head, too_long, told_fault, no_head as no_head_fault}

-- the parts of a head tell what its text tells
pub request_tells : (text : List ℕ) (head : RequestHead) (told : Result Framing FramingFault) → HoldsRequest text head
    → framing_of_request (minor_of head.version) (map named_value head.fields) ≡ told → HeadTells Requests text told
request_tells text head told holds is =
    let of = holds.1 in (
      holds.0,
      of.reads,
      ap (λ m. framing_of_request m (named_values holds.0.fields)) (sym of.version)
          ∙ ap (λ fields. framing_of_request (minor_of head.version) fields) (sym of.fields) ∙ is,
    )

-- a head that was read at the front's end stands first, whatever follows
pub begins_here : HeadsStay → (front bytes : List ℕ) (head : RequestHead) → reading.EndsWithHead front
    → HoldsRequest (after_line_ends front) head → BeginsWithRequest (front ++ bytes) head
begins_here stay front bytes head ends holds =
    let same : after_line_ends front ≡ head.text = sym holds.1.text_is in
    record {
      skipped = line_ends_len front;
      front = stay front bytes (line_ends_len front) (after_line_ends front) ends ∙ ap (λ t. HeadAt (line_ends_len front) t) same;
      holds = subst (λ t. HoldsRequest t head) same holds;
    }

-- a reader without a fault
unfoldable pub Sound : Standing → Type 0
Sound standing = standing ≡ Failed Memory → ⊥

pub open_is_sound : Sound Open
unfolding Sound
open_is_sound e = cc

pub closed_is_sound : (cut : Bool) → Sound (closed_standing cut)
unfolding Sound
closed_is_sound false e = cc
closed_is_sound true e = cc

-- behind its head the stream goes on, and the head stays
pub head_goes_on : HeadsStay → (front bytes now : List ℕ) (framing : Framing) (before after : Standing) (h : Option RequestHead)
    → EndsWithHead Requests front framing → Sound before → HoldsHead (front ++ bytes) before h → HoldsHead (front ++ now) after h
unfolding Sound
head_goes_on stay front bytes now framing before after None ends sound lacks =
    absurd (lacks_none stay Requests front bytes framing before ends lacks sound)
head_goes_on stay front bytes now framing before after (Some head) ends sound begins =
    let at = ends.head in
    let was = stay front bytes at.skipped at.text at.front in
    record {
      skipped = begins.skipped;
      front = stay front now at.skipped at.text at.front ∙ sym was ∙ begins.front;
      holds = begins.holds;
    }

pub head_is_some : HeadsStay → (front bytes : List ℕ) (framing : Framing) (before : Standing) (h : Option RequestHead)
    → EndsWithHead Requests front framing → Sound before → HoldsHead (front ++ bytes) before h → IsSome h
unfolding Sound
head_is_some stay front bytes framing before None ends sound lacks =
    absurd (lacks_none stay Requests front bytes framing before ends lacks sound)
head_is_some stay front bytes framing before (Some head) ends sound begins = refl

-- ---- the front alone

-- nothing came of the body
pub bytes_of_front : (front bytes : List ℕ) → bytes ≡ [] → front ≡ front ++ bytes
bytes_of_front front bytes none = sym (append-nil front) ∙ ap (λ b. front ++ b) (sym none)

-- a fault of the front
pub refused_front : (parts : RequestParts) (fault : WireFault) → held_bytes parts.held ≡ [] → HasFault Requests fault parts.front
    → HoldsHead (request_bytes parts) (Failed fault) parts.head → RequestAgrees parts (Some fault)
refused_front parts fault none due head = record {
  body = subst (HasFault Requests fault) (bytes_of_front parts.front (held_bytes parts.held) none) due;
  head = head;
}

lacks_at : (parts : RequestParts) (fault : WireFault) → held_bytes parts.held ≡ [] → parts.head ≡ None
    → LacksHead Requests parts.front (Failed fault) → HoldsHead (request_bytes parts) (Failed fault) parts.head
lacks_at parts fault none no_head lacks =
    subst (HoldsHead (request_bytes parts) (Failed fault)) (sym no_head)
    (subst (λ s. LacksHead Requests s (Failed fault)) (bytes_of_front parts.front (held_bytes parts.held) none) lacks)

-- a head that wasn't read
pub unread_front : (parts : RequestParts) (fault : WireFault) → held_bytes parts.held ≡ [] → parts.head ≡ None
    → reading.EndsWithHead parts.front → IsHeadFault fault → (fault ≡ Malformed → IsNoHead Requests (after_line_ends parts.front))
    → RequestAgrees parts (Some fault)
unread_front parts Malformed none no_head ends is text =
    refused_front parts Malformed none (no_head_fault Requests parts.front ends (text refl))
    (lacks_at parts Malformed none no_head (none_lacks_head Requests parts.front (Failed Malformed) ends (text refl)))
unread_front parts Memory none no_head ends is text =
    refused_front parts Memory none tt (lacks_at parts Memory none no_head (inl refl))
unread_front parts HeadTooLong none no_head ends is text = absurd is
unread_front parts BodyTooLong none no_head ends is text = absurd is
unread_front parts CodingRefused none no_head ends is text = absurd is
unread_front parts EndedEarly none no_head ends is text = absurd is

-- a head that tells of a fault
pub refused_head : HeadsStay → (front : List ℕ) (h : Held) (head : RequestHead) (fault : WireFault) → held_bytes h ≡ []
    → reading.EndsWithHead front → HoldsRequest (after_line_ends front) head
    → IsTold (framing_of_request (minor_of head.version) (map named_value head.fields)) (Err fault)
    → RequestAgrees (record { front = front; head = Some head; held = h }) (Some fault)
refused_head stay front h head fault none ends holds told =
    refused_front (record { front = front; head = Some head; held = h }) fault none
    (told_fault Requests front _ told.0 fault ends (request_tells (after_line_ends front) head _ holds refl) told.1 told.2)
    (begins_here stay front (held_bytes h) head ends holds)

-- a head for whose body there was no memory
pub head_without_memory : HeadsStay → (front : List ℕ) (h : Held) (head : RequestHead) → held_bytes h ≡ []
    → reading.EndsWithHead front → HoldsRequest (after_line_ends front) head
    → RequestAgrees (record { front = front; head = Some head; held = h }) (Some Memory)
head_without_memory stay front h head none ends holds =
    refused_front (record { front = front; head = Some head; held = h }) Memory none tt
    (begins_here stay front (held_bytes h) head ends holds)

-- a head that tells a framing
pub ends_told : (front : List ℕ) (head : RequestHead) (framing : Framing) → reading.EndsWithHead front
    → HoldsRequest (after_line_ends front) head → IsTold (framing_of_request (minor_of head.version) (map named_value head.fields)) (Ok framing)
    → EndsWithHead Requests front framing
unfolding ends_with
ends_told front head framing ends holds told = record {
  head = ends_with Requests front (Ok framing) ends (request_tells (after_line_ends front) head (Ok framing) holds told.0);
  text_is = refl;
  short = ap fault_at_head (sym told.0) ∙ told.1;
}

pub begun_agrees : HeadsStay → (front : List ℕ) (h : Held) (head : RequestHead) (framing : Framing) → reading.EndsWithHead front
    → HoldsRequest (after_line_ends front) head → IsTold (framing_of_request (minor_of head.version) (map named_value head.fields)) (Ok framing)
    → IsBegun framing h → RequestAgrees (record { front = front; head = Some head; held = h }) None
begun_agrees stay front h head framing ends holds told begun = record {
  body = begun_goes_on Requests front framing h (ends_told front head framing ends holds told) begun;
  head = begins_here stay front (held_bytes h) head ends holds;
}

-- ---- feeding the front

pub still_open : (parts : RequestParts) → parts.held ≡ Before → parts.head ≡ None → IsOpen parts.front → RequestAgrees parts None
still_open parts before no_head going = record {
  body = subst (GoesOn Requests parts.front) (sym before) going;
  head = subst (HoldsHead (request_bytes parts) (held_standing parts.held)) (sym no_head)
      (subst (λ s. LacksHead Requests s (held_standing parts.held)) (bytes_of_front parts.front (held_bytes parts.held) (ap held_bytes before))
      (open_lacks_head Requests parts.front (held_standing parts.held) going));
}

pub too_long_front : (parts : RequestParts) → parts.held ≡ Before → parts.head ≡ None → IsTooLong parts.front
    → RequestAgrees parts (Some HeadTooLong)
too_long_front parts before no_head long =
    refused_front parts HeadTooLong (ap held_bytes before) (too_long Requests parts.front long)
    (lacks_at parts HeadTooLong (ap held_bytes before) no_head (too_long_lacks_head Requests parts.front (Failed HeadTooLong) long))

pub front_without_memory : (parts : RequestParts) → parts.held ≡ Before → parts.head ≡ None → RequestAgrees parts (Some Memory)
front_without_memory parts before no_head =
    refused_front parts Memory (ap held_bytes before) tt (lacks_at parts Memory (ap held_bytes before) no_head (inl refl))

-- while its head is to come a reader holds none
pub none_while_open : (front bytes : List ℕ) (standing : Standing) (h : Option RequestHead) → bytes ≡ [] → IsOpen front
    → HoldsHead (front ++ bytes) standing h → h ≡ None
none_while_open front bytes standing None none going lacks = refl
none_while_open front bytes standing (Some head) none going begins =
    absurd (open_has_no_head front begins.skipped head.text going (ap front_of (bytes_of_front front bytes none) ∙ begins.front))

-- ---- feeding the body

-- parts with a body of which more is to come
pub record OpenParts (parts : RequestParts) (body : BodyStream) : Type 0 where
  pub ends : EndsWithHead Requests parts.front body.framing
  pub open_is : IsOpenBody body
  pub head : HoldsHead (parts.front ++ body.stream) Open parts.head
  pub bytes_are : request_bytes parts ≡ parts.front ++ body.stream

pub open_parts : (parts : RequestParts) (body : BodyStream) → OpenBody body ≡ parts.held → RequestAgrees parts None → OpenParts parts body
open_parts parts body is agrees =
    let goes : GoesOn Requests parts.front (OpenBody body) = subst (GoesOn Requests parts.front) (sym is) agrees.body in
    record {
      ends = goes.0;
      open_is = goes.1;
      head = subst (λ h. HoldsHead (parts.front ++ held_bytes h) (held_standing h) parts.head) (sym is) agrees.head;
      bytes_are = ap (λ h. parts.front ++ held_bytes h) (sym is);
    }

pub body_agrees : HeadsStay → (parts : RequestParts) (body : BodyStream) (came : Result Fed WireFault) (now : Held) → OpenParts parts body
    → Holds body.framing came now → RequestAgrees (record { front = parts.front; head = parts.head; held = now }) (fault_of came)
body_agrees stay parts body came now open_is holds = record {
  body = agrees_behind stay Requests parts.front body.framing came now open_is.ends holds;
  head = head_goes_on stay parts.front body.stream (held_bytes now) body.framing Open (standing_of (fault_of came) now) parts.head
      open_is.ends open_is_sound open_is.head;
}

body_takes_so_many : HeadsStay → (parts : RequestParts) (body : BodyStream) (piece : List ℕ) (used : ℕ) (now : Held) → OpenParts parts body
    → TakesBody body piece used now → Takes Requests (request_bytes parts) piece used (parts.front ++ held_bytes now)
body_takes_so_many stay parts body piece used now open_is takes =
    subst (λ old. Takes Requests old piece used (parts.front ++ held_bytes now)) (sym open_is.bytes_are)
    (goes_on_behind stay Requests parts.front body.stream piece (held_bytes now) body.framing used open_is.ends takes.fits takes.bytes_are takes.soonest)

pub body_takes : HeadsStay → (parts : RequestParts) (body : BodyStream) (piece : List ℕ) (came : Result Fed WireFault) (now : Held)
    → OpenParts parts body → IfOk came (λ fed. TakesBody body piece fed.used now)
    → IfOk came (λ fed. Takes Requests (request_bytes parts) piece fed.used (parts.front ++ held_bytes now))
body_takes stay parts body piece (Ok fed) now open_is takes = body_takes_so_many stay parts body piece fed.used now open_is takes
body_takes stay parts body piece (Err fault) now open_is takes = takes

pub body_takes_some : HeadsStay → (parts : RequestParts) (body : BodyStream) (piece : List ℕ) (came : Result Fed WireFault) (now : Held)
    → OpenParts parts body → IfErr came (λ fault. TakesSomeBody body piece now)
    → IfErr came (λ fault. TakesSome Requests (request_bytes parts) piece (parts.front ++ held_bytes now))
body_takes_some stay parts body piece (Ok fed) now open_is takes = takes
body_takes_some stay parts body piece (Err fault) now open_is takes =
    (takes.0, body_takes_so_many stay parts body piece takes.0 now open_is takes.1)

pub body_reaches : HeadsStay → (parts : RequestParts) (body : BodyStream) (came : Result Fed WireFault) (now : Held) → OpenParts parts body
    → Holds body.framing came now → IfOk came (λ fed. Reaches Requests fed.progress (parts.front ++ held_bytes now))
body_reaches stay parts body (Ok fed) now open_is holds = held_reaches stay Requests parts.front body.framing fed.progress now open_is.ends holds
body_reaches stay parts body (Err fault) now open_is holds = tt

pub body_whole : HeadsStay → (parts : RequestParts) (body : BodyStream) (came : Result Fed WireFault) (now : Held) → OpenParts parts body
    → Holds body.framing came now → IfOk came (λ fed. IsWholeNow Requests (parts.front ++ held_bytes now) (held_standing now))
body_whole stay parts body (Ok fed) now open_is holds = held_whole stay Requests parts.front body.framing fed.progress now open_is.ends holds
body_whole stay parts body (Err fault) now open_is holds = tt

heads_at : (framing : Framing) (p : Progress) (now : Held) (h : Option RequestHead) → HoldsAt framing p now → IsSome h → HeadsBy p h h
heads_at framing progress.More now h holds some = refl
heads_at framing progress.Head now h holds some = absurd holds
heads_at framing progress.Whole now h holds some = (some, refl)

pub body_heads : HeadsStay → (parts : RequestParts) (body : BodyStream) (came : Result Fed WireFault) (now : Held) → OpenParts parts body
    → Holds body.framing came now → IfOk came (λ fed. HeadsBy fed.progress parts.head parts.head)
body_heads stay parts body (Ok fed) now open_is holds =
    heads_at body.framing fed.progress now parts.head holds
    (head_is_some stay parts.front body.stream body.framing Open parts.head open_is.ends open_is_sound open_is.head)
body_heads stay parts body (Err fault) now open_is holds = tt

-- ---- parts that are put together again

pub same_parts : (parts : RequestParts) (h : Held) → h ≡ parts.held → RequestAgrees parts None
    → RequestAgrees (record { front = parts.front; head = parts.head; held = h }) None
same_parts parts h is agrees =
    subst (λ x. RequestAgrees (record { front = parts.front; head = parts.head; held = x }) None) (sym is) agrees

-- parts whose head is to come
pub front_parts : (parts : RequestParts) → Before ≡ parts.held → RequestAgrees parts None → IsOpen parts.front × (parts.head ≡ None)
front_parts parts is agrees =
    let going : IsOpen parts.front = subst (GoesOn Requests parts.front) (sym is) agrees.body in
    (going, none_while_open parts.front (held_bytes parts.held) (held_standing parts.held) parts.head (ap held_bytes (sym is)) going agrees.head)

-- ---- the end of the stream

-- a body that has come to its end
pub closed_agrees : HeadsStay → (parts : RequestParts) (body : BodyStream) (now : Held) (cut : Bool) → OpenParts parts body
    → now ≡ Closed (record { framing = body.framing; wire = body.stream; cut = cut }) → IsClosed cut body.framing body.stream
    → RequestAgrees (record { front = parts.front; head = parts.head; held = now }) None
closed_agrees stay parts body now cut open_is is closed =
    subst (λ h. RequestAgrees (record { front = parts.front; head = parts.head; held = h }) None) (sym is)
    (record {
      body = (open_is.ends, closed);
      head = head_goes_on stay parts.front body.stream body.stream body.framing Open (closed_standing cut) parts.head
          open_is.ends open_is_sound open_is.head;
    })

pub closed_between : HeadsStay → (parts : RequestParts) (body : BodyStream) (now : Held) → OpenParts parts body
    → now ≡ Closed (record { framing = body.framing; wire = body.stream; cut = false }) → IsClosed false body.framing body.stream
    → EndsBetween (parts.front ++ held_bytes now) (held_standing now)
closed_between stay parts body now open_is is closed =
    subst (λ h. EndsBetween (parts.front ++ held_bytes h) (held_standing h)) (sym is)
    (inr (refl, holds_message stay Requests true parts.front body.stream body.framing open_is.ends closed))

-- an end inside a body
pub cut_agrees : HeadsStay → (parts : RequestParts) (body : BodyStream) → OpenParts parts body → IsCutWire body.framing body.stream
    → RequestAgrees (record { front = parts.front; head = parts.head; held = OpenBody body }) (Some EndedEarly)
cut_agrees stay parts body open_is cut = record {
  body = inr (needs_body stay Requests true parts.front body.stream body.framing open_is.ends (cut_needs body.framing body.stream cut));
  head = head_goes_on stay parts.front body.stream body.stream body.framing Open (Failed EndedEarly) parts.head
      open_is.ends open_is_sound open_is.head;
}

-- parts with a body that has come to its end
pub record ClosedParts (parts : RequestParts) (closed : ClosedBody) : Type 0 where
  pub ends : EndsWithHead Requests parts.front closed.framing
  pub closed_is : IsClosed closed.cut closed.framing closed.wire
  pub head : HoldsHead (parts.front ++ closed.wire) (closed_standing closed.cut) parts.head
  pub bytes_are : request_bytes parts ≡ parts.front ++ closed.wire

pub closed_parts : (parts : RequestParts) (closed : ClosedBody) → Closed closed ≡ parts.held → RequestAgrees parts None
    → ClosedParts parts closed
closed_parts parts closed is agrees =
    let goes : GoesOn Requests parts.front (Closed closed) = subst (GoesOn Requests parts.front) (sym is) agrees.body in
    record {
      ends = goes.0;
      closed_is = goes.1;
      head = subst (λ h. HoldsHead (parts.front ++ held_bytes h) (held_standing h) parts.head) (sym is) agrees.head;
      bytes_are = ap (λ h. parts.front ++ held_bytes h) (sym is);
    }

-- one that was cut, where the stream has ended
pub closed_cut : HeadsStay → (parts : RequestParts) (closed : ClosedBody) → ClosedParts parts closed → closed.cut ≡ true
    → RequestAgrees (record { front = parts.front; head = parts.head; held = Closed closed }) (Some EndedEarly)
closed_cut stay parts closed at is =
    let cut : IsCutWire closed.framing closed.wire = subst (λ b. IsClosed b closed.framing closed.wire) is at.closed_is in
    record {
      body = inr (needs_body stay Requests true parts.front closed.wire closed.framing at.ends (cut_needs closed.framing closed.wire cut));
      head = head_goes_on stay parts.front closed.wire closed.wire closed.framing (closed_standing closed.cut) (Failed EndedEarly)
          parts.head at.ends (closed_is_sound closed.cut) at.head;
    }

-- a whole one
pub closed_whole : HeadsStay → (parts : RequestParts) (closed : ClosedBody) → ClosedParts parts closed → closed.cut ≡ false
    → EndsBetween (parts.front ++ closed.wire) (closed_standing closed.cut)
closed_whole stay parts closed at is =
    let whole : IsClosed false closed.framing closed.wire = subst (λ b. IsClosed b closed.framing closed.wire) is at.closed_is in
    inr (ap closed_standing is, holds_message stay Requests true parts.front closed.wire closed.framing at.ends whole)

-- ---- the message

cut_is_not_whole : (cut : Bool) → closed_standing cut ≡ Whole → cut ≡ false
cut_is_not_whole false e = refl
cut_is_not_whole true e = cc

none_is_not_some : (h : Option RequestHead) → h ≡ None → IsSome h → ⊥
none_is_not_some None none some = false≢true some
none_is_not_some (Some head) none some = cc

pub closed_has_head : HeadsStay → (parts : RequestParts) (closed : ClosedBody) → ClosedParts parts closed → parts.head ≡ None → ⊥
closed_has_head stay parts closed at none =
    let some = head_is_some stay parts.front closed.wire closed.framing (closed_standing closed.cut) parts.head at.ends
    (closed_is_sound closed.cut) at.head in
    none_is_not_some parts.head none some

pub same_text : (skipped other : ℕ) (text text_too : List ℕ) → HeadAt skipped text ≡ HeadAt other text_too → text ≡ text_too
same_text skipped other text text_too e = cc

request_there : HeadsStay → (front wire : List ℕ) (framing : Framing) (head : RequestHead) (payload : List ℕ)
    → EndsWithHead Requests front framing → HoldsBody framing true wire (length wire) → BeginsWithRequest (front ++ wire) head
    → IsPayload false framing wire payload → IsRequest (front ++ wire) (record { head = head; framing = framing; payload = payload })
request_there stay front wire framing head payload ends body begins decoded =
    let at = ends.head in
    let stays = stay front wire at.skipped at.text at.front in
    let same = same_text at.skipped begins.skipped at.text head.text (sym stays ∙ begins.front) in
    record {
      skipped = at.skipped;
      wire = wire;
      front = stays ∙ ap (λ t. HeadAt at.skipped t) same;
      composed = drop-append-le at.skipped front wire (omega (arith, at.end_is)) ∙ ap (λ t. t ++ wire) (sym ends.text_is ∙ same);
      holds = begins.holds;
      tells = subst (λ t. HeadTells Requests t (Ok framing)) same at.tells;
      body = body;
      payload = decoded;
    }

pub whole_request : HeadsStay → (parts : RequestParts) (closed : ClosedBody) (head : RequestHead) (payload : List ℕ) → Closed closed ≡ parts.held
    → RequestAgrees parts None → held_standing parts.held ≡ Whole → Some head ≡ parts.head → IsPayload false closed.framing closed.wire payload
    → IsRequest (request_bytes parts) (record { head = head; framing = closed.framing; payload = payload })
whole_request stay parts closed head payload is agrees whole some decoded =
    let at = closed_parts parts closed is agrees in
    let uncut = cut_is_not_whole closed.cut (ap held_standing is ∙ whole) in
    subst (λ s. IsRequest s (record { head = head; framing = closed.framing; payload = payload })) (sym at.bytes_are)
    (request_there stay parts.front closed.wire closed.framing head payload at.ends
    (subst (λ b. IsClosed b closed.framing closed.wire) uncut at.closed_is)
    (subst (HoldsHead (parts.front ++ closed.wire) (closed_standing closed.cut)) (sym some) at.head) decoded)

-- ---- the head that is given

pub lacks_where_none : (stream : List ℕ) (standing : Standing) (h : Option RequestHead) → HoldsHead stream standing h
    → h ≡ None → LacksHead Requests stream standing
lacks_where_none stream standing None holds none = holds
lacks_where_none stream standing (Some head) holds none = cc
