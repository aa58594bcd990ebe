-- The head of a response that a reader holds.
use Rattle.std.proofs.Common.{◌≡◌, ℕ, Bool, true, false, List, [], ◌++◌, Option, Some, None, Ok, Err, inl, refl, sym, ap, subst, ◌∙◌, arith}
use Rattle.std.specs.Prelude.{Result, IsSome, IfOk, IfErr, map}
use Rattle.std.proofs.lemmas.Bool.{false≢true}
use Rattle.std.proofs.lemmas.List.{drop-append-le}
use Rattle.httparse.specs.Grammar.{status_code}
use Rattle.capture.specs.Body.{IsWire}
use Rattle.capture.specs.First.{Responses, HeadTells, IsNoHead, fault_at_head}
use Rattle.capture.specs.Fields.{named_values}
use Rattle.capture.specs.Framing.{framing_of_response}
use Rattle.capture.specs.Head.{line_ends_len, after_line_ends, front_of, Head as HeadAt}
use Rattle.capture.specs.declared.framing.Framing.{Framing}
use Rattle.capture.specs.declared.framing.FramingFault.{FramingFault}
use Rattle.http_head.specs.FrontLaws.{HeadsStay}
use Rattle.http_head.specs.HeadReading.{IsOpen, IsTooLong}
use Rattle.http_head.specs.HeadReading as reading
use Rattle.http_head.specs.Heads.{HoldsResponse, IsHeadFault, minor_of, named_value}
use Rattle.http_head.specs.declared.head.ResponseHead.{ResponseHead}
use Rattle.http_head.specs.declared.head.WireFault.{WireFault}
use Rattle.http_head.specs.declared.head.WireFault.TheVariants.{Malformed, HeadTooLong, BodyTooLong, CodingRefused, EndedEarly, Memory}
use Rattle.message_body.specs.BodyLaws.{HeldBodiesAreBodies}
use Rattle.body_reader.specs.BodySoFar.{IsOpenBody}
use Rattle.body_reader.specs.BodyStream.{BodyStream}
use Rattle.http_wire.specs.Answers.{Reaches, HeadsBy, IsWholeNow}
use Rattle.http_wire.specs.Heads.{BeginsWithResponse, HoldsResponseHead}
use Rattle.http_wire.specs.HeldBodies.{held_bytes, held_standing, closed_standing, standing_of, fault_of, GoesOn, IsClosed, IsBegun, HoldsAt, Holds, TakesBody, TakesSomeBody}
use Rattle.http_wire.specs.Messages.{IsResponse}
use Rattle.http_wire.specs.Parts.{ResponseAgrees, response_bytes}
use Rattle.http_wire.specs.Reading.{EndsWithHead, HasFault, LacksHead, Takes, TakesSome, Standing, Open, Failed}
use Rattle.http_wire.specs.steps.Told.{IsTold}
use Rattle.http_wire.specs.declared.held.Held.{Held}
use Rattle.http_wire.specs.declared.held.ClosedBody.{ClosedBody}
use Rattle.http_wire.specs.declared.held.Held.TheVariants.{Before, Open as OpenBody, Closed}
use Rattle.http_wire.specs.declared.progress.Fed.{Fed}
use Rattle.http_wire.specs.declared.progress.Progress.{Progress}
use Rattle.http_wire.specs.declared.progress.Progress.TheVariants as progress
use Rattle.http_wire.specs.declared.response.parts.ResponseParts.{ResponseParts}
use Rattle.http_wire.proofs.HeldLaws.{begun_goes_on, agrees_behind, held_reaches, held_whole}
use Rattle.http_wire.proofs.RequestLaws.{Sound, open_is_sound, closed_is_sound, bytes_of_front, same_text}
use Rattle.http_wire.proofs.StandingLaws.{needs_head, goes_on_behind, ends_with, lacks_none, none_lacks_head, open_lacks_head, too_long_lacks_head, open_has_no_head, too_long, told_fault, no_head as no_head_fault}

-- parts with a body of which more is to come
pub record OpenParts (ah : Bool) (parts : ResponseParts) (body : BodyStream) : Type 0 where
  pub ends : EndsWithHead (Responses ah) parts.front body.framing
  pub open_is : IsOpenBody body
  pub head : HoldsResponseHead ah (parts.front ++ body.stream) Open parts.head
  pub bytes_are : response_bytes parts ≡ parts.front ++ body.stream

-- parts with a body that has come to its end
pub record ClosedParts (ah : Bool) (parts : ResponseParts) (closed : ClosedBody) : Type 0 where
  pub ends : EndsWithHead (Responses ah) parts.front closed.framing
  pub closed_is : IsClosed closed.cut closed.framing closed.wire
  pub head : HoldsResponseHead ah (parts.front ++ closed.wire) (closed_standing closed.cut) parts.head
  pub bytes_are : response_bytes parts ≡ parts.front ++ closed.wire

module _ (ah : Bool) where
  -- the parts of a head tell what its text tells
  pub response_tells : (text : List ℕ) (head : ResponseHead) (told : Result Framing FramingFault) → HoldsResponse text head
      → framing_of_response ah (minor_of head.version) head.status (map named_value head.fields) ≡ told → HeadTells (Responses ah) text told
  response_tells text head told holds is =
      let of = holds.1 in (
        holds.0,
        of.reads,
        ap (λ m. framing_of_response ah m (status_code holds.0) (named_values holds.0.fields)) (sym of.version)
            ∙ ap (λ st. framing_of_response ah (minor_of head.version) st (named_values holds.0.fields)) (sym of.status)
            ∙ ap (λ fields. framing_of_response ah (minor_of head.version) head.status fields) (sym of.fields) ∙ is,
      )

  -- a head that was read at the front's end stands first, whatever follows
  pub begins_here : HeadsStay → (front bytes : List ℕ) (head : ResponseHead) → reading.EndsWithHead front
      → HoldsResponse (after_line_ends front) head → BeginsWithResponse (front ++ bytes) head
  begins_here stay front bytes head ends holds =
      let same : after_line_ends front ≡ head.text = sym holds.1.text_is in
      record {
        skipped = line_ends_len front;
        front = stay front bytes (line_ends_len front) (after_line_ends front) ends ∙ ap (λ t. HeadAt (line_ends_len front) t) same;
        holds = subst (λ t. HoldsResponse t head) same holds;
      }

  -- behind its head the stream goes on, and the head stays
  pub head_goes_on : HeadsStay → (front bytes now : List ℕ) (framing : Framing) (before after : Standing) (h : Option ResponseHead)
      → EndsWithHead (Responses ah) front framing → Sound before → HoldsResponseHead ah (front ++ bytes) before h → HoldsResponseHead ah (front ++ now) after h
  unfolding Sound
  head_goes_on stay front bytes now framing before after None ends sound lacks =
      absurd (lacks_none stay (Responses ah) front bytes framing before ends lacks sound)
  head_goes_on stay front bytes now framing before after (Some head) ends sound begins =
      let at = ends.head in
      let was = stay front bytes at.skipped at.text at.front in
      record {
        skipped = begins.skipped;
        front = stay front now at.skipped at.text at.front ∙ sym was ∙ begins.front;
        holds = begins.holds;
      }

  pub head_is_some : HeadsStay → (front bytes : List ℕ) (framing : Framing) (before : Standing) (h : Option ResponseHead)
      → EndsWithHead (Responses ah) front framing → Sound before → HoldsResponseHead ah (front ++ bytes) before h → IsSome h
  unfolding Sound
  head_is_some stay front bytes framing before None ends sound lacks =
      absurd (lacks_none stay (Responses ah) front bytes framing before ends lacks sound)
  head_is_some stay front bytes framing before (Some head) ends sound begins = refl

  -- ---- the front alone

  -- a fault of the front
  pub refused_front : (parts : ResponseParts) (fault : WireFault) → held_bytes parts.held ≡ [] → HasFault (Responses ah) fault parts.front
      → HoldsResponseHead ah (response_bytes parts) (Failed fault) parts.head → ResponseAgrees ah parts (Some fault)
  refused_front parts fault none due head = record {
    body = subst (HasFault (Responses ah) fault) (bytes_of_front parts.front (held_bytes parts.held) none) due;
    head = head;
  }

  lacks_at : (parts : ResponseParts) (fault : WireFault) → held_bytes parts.held ≡ [] → parts.head ≡ None
      → LacksHead (Responses ah) parts.front (Failed fault) → HoldsResponseHead ah (response_bytes parts) (Failed fault) parts.head
  lacks_at parts fault none no_head lacks =
      subst (HoldsResponseHead ah (response_bytes parts) (Failed fault)) (sym no_head)
      (subst (λ s. LacksHead (Responses ah) s (Failed fault)) (bytes_of_front parts.front (held_bytes parts.held) none) lacks)

  -- a head that wasn't read
  pub unread_front : (parts : ResponseParts) (fault : WireFault) → held_bytes parts.held ≡ [] → parts.head ≡ None
      → reading.EndsWithHead parts.front → IsHeadFault fault → (fault ≡ Malformed → IsNoHead (Responses ah) (after_line_ends parts.front))
      → ResponseAgrees ah parts (Some fault)
  unread_front parts Malformed none no_head ends is text =
      refused_front parts Malformed none (no_head_fault (Responses ah) parts.front ends (text refl))
      (lacks_at parts Malformed none no_head (none_lacks_head (Responses ah) parts.front (Failed Malformed) ends (text refl)))
  unread_front parts Memory none no_head ends is text =
      refused_front parts Memory none tt (lacks_at parts Memory none no_head (inl refl))
  unread_front parts HeadTooLong none no_head ends is text = absurd is
  unread_front parts BodyTooLong none no_head ends is text = absurd is
  unread_front parts CodingRefused none no_head ends is text = absurd is
  unread_front parts EndedEarly none no_head ends is text = absurd is

  -- a head that tells of a fault
  pub refused_head : HeadsStay → (front : List ℕ) (h : Held) (head : ResponseHead) (fault : WireFault) → held_bytes h ≡ []
      → reading.EndsWithHead front → HoldsResponse (after_line_ends front) head
      → IsTold (framing_of_response ah (minor_of head.version) head.status (map named_value head.fields)) (Err fault)
      → ResponseAgrees ah (record { front = front; head = Some head; held = h }) (Some fault)
  refused_head stay front h head fault none ends holds told =
      refused_front (record { front = front; head = Some head; held = h }) fault none
      (told_fault (Responses ah) front _ told.0 fault ends (response_tells (after_line_ends front) head _ holds refl) told.1 told.2)
      (begins_here stay front (held_bytes h) head ends holds)

  -- a head for whose body there was no memory
  pub head_without_memory : HeadsStay → (front : List ℕ) (h : Held) (head : ResponseHead) → held_bytes h ≡ []
      → reading.EndsWithHead front → HoldsResponse (after_line_ends front) head
      → ResponseAgrees ah (record { front = front; head = Some head; held = h }) (Some Memory)
  head_without_memory stay front h head none ends holds =
      refused_front (record { front = front; head = Some head; held = h }) Memory none tt
      (begins_here stay front (held_bytes h) head ends holds)

  -- a head that tells a framing
  pub ends_told : (front : List ℕ) (head : ResponseHead) (framing : Framing) → reading.EndsWithHead front
      → HoldsResponse (after_line_ends front) head → IsTold (framing_of_response ah (minor_of head.version) head.status (map named_value head.fields)) (Ok framing)
      → EndsWithHead (Responses ah) front framing
  unfolding ends_with
  ends_told front head framing ends holds told = record {
    head = ends_with (Responses ah) front (Ok framing) ends (response_tells (after_line_ends front) head (Ok framing) holds told.0);
    text_is = refl;
    short = ap fault_at_head (sym told.0) ∙ told.1;
  }

  pub begun_agrees : HeadsStay → (front : List ℕ) (h : Held) (head : ResponseHead) (framing : Framing) → reading.EndsWithHead front
      → HoldsResponse (after_line_ends front) head → IsTold (framing_of_response ah (minor_of head.version) head.status (map named_value head.fields)) (Ok framing)
      → IsBegun framing h → ResponseAgrees ah (record { front = front; head = Some head; held = h }) None
  begun_agrees stay front h head framing ends holds told begun = record {
    body = begun_goes_on (Responses ah) front framing h (ends_told front head framing ends holds told) begun;
    head = begins_here stay front (held_bytes h) head ends holds;
  }

  -- ---- feeding the front

  pub still_open : (parts : ResponseParts) → parts.held ≡ Before → parts.head ≡ None → IsOpen parts.front → ResponseAgrees ah parts None
  still_open parts before no_head going = record {
    body = subst (GoesOn (Responses ah) parts.front) (sym before) going;
    head = subst (HoldsResponseHead ah (response_bytes parts) (held_standing parts.held)) (sym no_head)
        (subst (λ s. LacksHead (Responses ah) s (held_standing parts.held)) (bytes_of_front parts.front (held_bytes parts.held) (ap held_bytes before))
        (open_lacks_head (Responses ah) parts.front (held_standing parts.held) going));
  }

  pub too_long_front : (parts : ResponseParts) → parts.held ≡ Before → parts.head ≡ None → IsTooLong parts.front
      → ResponseAgrees ah parts (Some HeadTooLong)
  too_long_front parts before no_head long =
      refused_front parts HeadTooLong (ap held_bytes before) (too_long (Responses ah) parts.front long)
      (lacks_at parts HeadTooLong (ap held_bytes before) no_head (too_long_lacks_head (Responses ah) parts.front (Failed HeadTooLong) long))

  pub front_without_memory : (parts : ResponseParts) → parts.held ≡ Before → parts.head ≡ None → ResponseAgrees ah parts (Some Memory)
  front_without_memory parts before no_head =
      refused_front parts Memory (ap held_bytes before) tt (lacks_at parts Memory (ap held_bytes before) no_head (inl refl))

  -- while its head is to come a reader holds none
  pub none_while_open : (front bytes : List ℕ) (standing : Standing) (h : Option ResponseHead) → bytes ≡ [] → IsOpen front
      → HoldsResponseHead ah (front ++ bytes) standing h → h ≡ None
  none_while_open front bytes standing None none going lacks = refl
  none_while_open front bytes standing (Some head) none going begins =
      absurd (open_has_no_head front begins.skipped head.text going (ap front_of (bytes_of_front front bytes none) ∙ begins.front))

  -- ---- feeding the body

  pub open_parts : (parts : ResponseParts) (body : BodyStream) → OpenBody body ≡ parts.held → ResponseAgrees ah parts None → OpenParts ah parts body
  open_parts parts body is agrees =
      let goes : GoesOn (Responses ah) parts.front (OpenBody body) = subst (GoesOn (Responses ah) parts.front) (sym is) agrees.body in
      record {
        ends = goes.0;
        open_is = goes.1;
        head = subst (λ h. HoldsResponseHead ah (parts.front ++ held_bytes h) (held_standing h) parts.head) (sym is) agrees.head;
        bytes_are = ap (λ h. parts.front ++ held_bytes h) (sym is);
      }

  pub body_agrees : HeadsStay → (parts : ResponseParts) (body : BodyStream) (came : Result Fed WireFault) (now : Held) → OpenParts ah parts body
      → Holds body.framing came now → ResponseAgrees ah (record { front = parts.front; head = parts.head; held = now }) (fault_of came)
  body_agrees stay parts body came now open_is holds = record {
    body = agrees_behind stay (Responses ah) parts.front body.framing came now open_is.ends holds;
    head = head_goes_on stay parts.front body.stream (held_bytes now) body.framing Open (standing_of (fault_of came) now) parts.head
        open_is.ends open_is_sound open_is.head;
  }

  body_takes_so_many : HeadsStay → (parts : ResponseParts) (body : BodyStream) (piece : List ℕ) (used : ℕ) (now : Held) → OpenParts ah parts body
      → TakesBody body piece used now → Takes (Responses ah) (response_bytes parts) piece used (parts.front ++ held_bytes now)
  body_takes_so_many stay parts body piece used now open_is takes =
      subst (λ old. Takes (Responses ah) old piece used (parts.front ++ held_bytes now)) (sym open_is.bytes_are)
      (goes_on_behind stay (Responses ah) parts.front body.stream piece (held_bytes now) body.framing used open_is.ends takes.fits takes.bytes_are takes.soonest)

  pub body_takes : HeadsStay → (parts : ResponseParts) (body : BodyStream) (piece : List ℕ) (came : Result Fed WireFault) (now : Held)
      → OpenParts ah parts body → IfOk came (λ fed. TakesBody body piece fed.used now)
      → IfOk came (λ fed. Takes (Responses ah) (response_bytes parts) piece fed.used (parts.front ++ held_bytes now))
  body_takes stay parts body piece (Ok fed) now open_is takes = body_takes_so_many stay parts body piece fed.used now open_is takes
  body_takes stay parts body piece (Err fault) now open_is takes = takes

  pub body_takes_some : HeadsStay → (parts : ResponseParts) (body : BodyStream) (piece : List ℕ) (came : Result Fed WireFault) (now : Held)
      → OpenParts ah parts body → IfErr came (λ fault. TakesSomeBody body piece now)
      → IfErr came (λ fault. TakesSome (Responses ah) (response_bytes parts) piece (parts.front ++ held_bytes now))
  body_takes_some stay parts body piece (Ok fed) now open_is takes = takes
  body_takes_some stay parts body piece (Err fault) now open_is takes =
      (takes.0, body_takes_so_many stay parts body piece takes.0 now open_is takes.1)

  pub body_reaches : HeadsStay → (parts : ResponseParts) (body : BodyStream) (came : Result Fed WireFault) (now : Held) → OpenParts ah parts body
      → Holds body.framing came now → IfOk came (λ fed. Reaches (Responses ah) fed.progress (parts.front ++ held_bytes now))
  body_reaches stay parts body (Ok fed) now open_is holds = held_reaches stay (Responses ah) parts.front body.framing fed.progress now open_is.ends holds
  body_reaches stay parts body (Err fault) now open_is holds = tt

  pub body_whole : HeadsStay → (parts : ResponseParts) (body : BodyStream) (came : Result Fed WireFault) (now : Held) → OpenParts ah parts body
      → Holds body.framing came now → IfOk came (λ fed. IsWholeNow (Responses ah) (parts.front ++ held_bytes now) (held_standing now))
  body_whole stay parts body (Ok fed) now open_is holds = held_whole stay (Responses ah) parts.front body.framing fed.progress now open_is.ends holds
  body_whole stay parts body (Err fault) now open_is holds = tt

  heads_at : (framing : Framing) (p : Progress) (now : Held) (h : Option ResponseHead) → HoldsAt framing p now → IsSome h → HeadsBy p h h
  heads_at framing progress.More now h holds some = refl
  heads_at framing progress.Head now h holds some = absurd holds
  heads_at framing progress.Whole now h holds some = (some, refl)

  pub body_heads : HeadsStay → (parts : ResponseParts) (body : BodyStream) (came : Result Fed WireFault) (now : Held) → OpenParts ah parts body
      → Holds body.framing came now → IfOk came (λ fed. HeadsBy fed.progress parts.head parts.head)
  body_heads stay parts body (Ok fed) now open_is holds =
      heads_at body.framing fed.progress now parts.head holds
      (head_is_some stay parts.front body.stream body.framing Open parts.head open_is.ends open_is_sound open_is.head)
  body_heads stay parts body (Err fault) now open_is holds = tt

  -- ---- parts that are put together again

  pub same_parts : (parts : ResponseParts) (h : Held) → h ≡ parts.held → ResponseAgrees ah parts None
      → ResponseAgrees ah (record { front = parts.front; head = parts.head; held = h }) None
  same_parts parts h is agrees =
      subst (λ x. ResponseAgrees ah (record { front = parts.front; head = parts.head; held = x }) None) (sym is) agrees

  -- parts whose head is to come
  pub front_parts : (parts : ResponseParts) → Before ≡ parts.held → ResponseAgrees ah parts None → IsOpen parts.front × (parts.head ≡ None)
  front_parts parts is agrees =
      let going : IsOpen parts.front = subst (GoesOn (Responses ah) parts.front) (sym is) agrees.body in
      (going, none_while_open parts.front (held_bytes parts.held) (held_standing parts.held) parts.head (ap held_bytes (sym is)) going agrees.head)

  -- ---- the end of the stream

  -- a body that has come to its end
  pub closed_agrees : HeadsStay → (parts : ResponseParts) (body : BodyStream) (now : Held) (cut : Bool) → OpenParts ah parts body
      → now ≡ Closed (record { framing = body.framing; wire = body.stream; cut = cut }) → IsClosed cut body.framing body.stream
      → ResponseAgrees ah (record { front = parts.front; head = parts.head; held = now }) None
  closed_agrees stay parts body now cut open_is is closed =
      subst (λ h. ResponseAgrees ah (record { front = parts.front; head = parts.head; held = h }) None) (sym is)
      (record {
        body = (open_is.ends, closed);
        head = head_goes_on stay parts.front body.stream body.stream body.framing Open (closed_standing cut) parts.head
            open_is.ends open_is_sound open_is.head;
      })

  pub closed_parts : (parts : ResponseParts) (closed : ClosedBody) → Closed closed ≡ parts.held → ResponseAgrees ah parts None
      → ClosedParts ah parts closed
  closed_parts parts closed is agrees =
      let goes : GoesOn (Responses ah) parts.front (Closed closed) = subst (GoesOn (Responses ah) parts.front) (sym is) agrees.body in
      record {
        ends = goes.0;
        closed_is = goes.1;
        head = subst (λ h. HoldsResponseHead ah (parts.front ++ held_bytes h) (held_standing h) parts.head) (sym is) agrees.head;
        bytes_are = ap (λ h. parts.front ++ held_bytes h) (sym is);
      }

  -- an end where the head is to come
  pub ended_front : (parts : ResponseParts) → IsOpen parts.front → parts.head ≡ None → parts.held ≡ Before → ResponseAgrees ah parts (Some EndedEarly)
  ended_front parts going no_head before =
      refused_front parts EndedEarly (ap held_bytes before) (needs_head ah parts.front going)
      (lacks_at parts EndedEarly (ap held_bytes before) no_head (open_lacks_head (Responses ah) parts.front (Failed EndedEarly) going))

  -- ---- the message

  none_is_not_some : (h : Option ResponseHead) → h ≡ None → IsSome h → ⊥
  none_is_not_some None none some = false≢true some
  none_is_not_some (Some head) none some = cc

  pub closed_has_head : HeadsStay → (parts : ResponseParts) (closed : ClosedBody) → ClosedParts ah parts closed → parts.head ≡ None → ⊥
  closed_has_head stay parts closed at none =
      let some = head_is_some stay parts.front closed.wire closed.framing (closed_standing closed.cut) parts.head at.ends
      (closed_is_sound closed.cut) at.head in
      none_is_not_some parts.head none some

  wire_of : (cut : Bool) (framing : Framing) (wire : List ℕ) → HeldBodiesAreBodies → IsClosed cut framing wire → IsWire cut framing wire
  wire_of false framing wire are closed = are framing true wire closed
  wire_of true framing wire are closed = closed

  response_there : HeadsStay → HeldBodiesAreBodies → (front : List ℕ) (closed : ClosedBody) (head : ResponseHead)
      → EndsWithHead (Responses ah) front closed.framing → IsClosed closed.cut closed.framing closed.wire
      → BeginsWithResponse (front ++ closed.wire) head
      → IsResponse ah (front ++ closed.wire) (record { head = head; framing = closed.framing; wire = closed.wire; cut = closed.cut })
  response_there stay are front closed head ends closed_is begins =
      let at = ends.head in
      let stays = stay front closed.wire at.skipped at.text at.front in
      let same = same_text at.skipped begins.skipped at.text head.text (sym stays ∙ begins.front) in
      record {
        skipped = at.skipped;
        front = stays ∙ ap (λ t. HeadAt at.skipped t) same;
        composed = drop-append-le at.skipped front closed.wire (omega (arith, at.end_is))
            ∙ ap (λ t. t ++ closed.wire) (sym ends.text_is ∙ same);
        holds = begins.holds;
        tells = subst (λ t. HeadTells (Responses ah) t (Ok closed.framing)) same at.tells;
        wire_is = wire_of closed.cut closed.framing closed.wire are closed_is;
      }

  pub whole_response : HeadsStay → HeldBodiesAreBodies → (parts : ResponseParts) (closed : ClosedBody) (head : ResponseHead)
      → Closed closed ≡ parts.held → ResponseAgrees ah parts None → Some head ≡ parts.head
      → IsResponse ah (response_bytes parts) (record { head = head; framing = closed.framing; wire = closed.wire; cut = closed.cut })
  whole_response stay are parts closed head is agrees some =
      let at = closed_parts parts closed is agrees in
      subst (λ s. IsResponse ah s (record { head = head; framing = closed.framing; wire = closed.wire; cut = closed.cut })) (sym at.bytes_are)
      (response_there stay are parts.front closed head at.ends at.closed_is
      (subst (HoldsResponseHead ah (parts.front ++ closed.wire) (closed_standing closed.cut)) (sym some) at.head))

  -- ---- the head that is given

  pub lacks_where_none : (stream : List ℕ) (standing : Standing) (h : Option ResponseHead) → HoldsResponseHead ah stream standing h
      → h ≡ None → LacksHead (Responses ah) stream standing
  lacks_where_none stream standing None holds none = holds
  lacks_where_none stream standing (Some head) holds none = cc
