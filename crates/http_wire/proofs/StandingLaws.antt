-- What stands first in a stream, by its front and by what came of the body behind it.
use Rattle.std.proofs.Common.{◌≡◌, ℕ, ◌+◌, ◌-◌, ◌<◌, ◌≤◌, Bool, true, false, ◌&&◌, cond, eqb, List, [], ◌∷◌, ◌++◌, length, take, Some, Ok, ◌⊎◌, inl, inr, refl, sym, ap, subst, ◌∙◌, arith, append_assoc, length-append, length-drop}
use Rattle.std.specs.Prelude.{Result}
use Rattle.std.proofs.lemmas.Bool.{le-ltb, cond_both}
use Rattle.std.proofs.lemmas.List.{drop_all, drop_at, append-nil}
use Rattle.capture.specs.Body.{IsCutWire}
use Rattle.capture.specs.First.{Side, Requests, Responses, Message, Refused, BodyNeeded, IsFirst, HeadTells, IsNoHead, BehindHead, HoldsBody, RefusesBody, BeginsBody, fault_at_head}
use Rattle.capture.specs.Head.{line_ends_len, after_line_ends, front_of, front_by, Head as HeadAt, TooLong, Nothing, More}
use Rattle.capture.specs.declared.framing.Framing.{Framing}
use Rattle.capture.specs.declared.framing.Framing.TheVariants.{Empty, Length, Chunked, ToEnd}
use Rattle.capture.specs.declared.framing.FramingFault.{FramingFault}
use Rattle.capture.specs.declared.framing.MessageFault.{MessageFault}
use Rattle.capture.specs.declared.framing.MessageFault.TheVariants as message_fault
use Rattle.capture.specs.declared.limits.TheConstants.{HEAD_LIMIT}
use Rattle.http_head.specs.FrontLaws.{HeadsStay}
use Rattle.http_head.specs.HeadReading.{IsOpen}
use Rattle.http_head.specs.HeadReading as reading
use Rattle.http_head.specs.declared.head.WireFault.{WireFault}
use Rattle.http_head.specs.declared.head.WireFault.TheVariants.{Malformed, HeadTooLong, Memory}
use Rattle.http_wire.specs.Reading.{EndsInside, IsUndecided, EndsWithHead, HasFault, fault_in, Takes, LacksHead, Standing, Failed}

-- ---- the head

pub line_ends_len-le : (s : List ℕ) → line_ends_len s ≤ length s
line_ends_len-le [] = omega arith
line_ends_len-le (b ∷ []) = cond_both (eqb b 10) 1 0 (λ n. n ≤ 1) (λ _. omega arith) (λ _. omega arith)
line_ends_len-le (b ∷ c ∷ s) =
    let one = line_ends_len-le (c ∷ s) in
    let two = line_ends_len-le s in
    let P : ℕ → Type 0 = λ n. n ≤ length (b ∷ c ∷ s) in
    cond_both (eqb b 10) (1 + line_ends_len (c ∷ s)) (cond (eqb b 13 && eqb c 10) (2 + line_ends_len s) 0) P
    (λ _. omega arith)
    (λ _. cond_both (eqb b 13 && eqb c 10) (2 + line_ends_len s) 0 P (λ _. omega arith) (λ _. omega arith))

-- a front that ends with its head, which tells this
unfoldable pub ends_with : (side : Side) (front : List ℕ) (told : Result Framing FramingFault) → reading.EndsWithHead front
    → HeadTells side (after_line_ends front) told → BehindHead side front told (length front) []
ends_with side front told ends tells = record {
  skipped = line_ends_len front;
  text = after_line_ends front;
  front = ends;
  tells = tells;
  end_is = omega (arith, length-drop (line_ends_len front) front, line_ends_len-le front);
  rest_is = sym (drop_all (length front) front (omega arith));
}

-- and bytes behind it
pub behind : HeadsStay → (side : Side) (front bytes : List ℕ) (told : Result Framing FramingFault)
    → BehindHead side front told (length front) [] → BehindHead side (front ++ bytes) told (length front) bytes
behind stay side front bytes told head = record {
  skipped = head.skipped;
  text = head.text;
  front = stay front bytes head.skipped head.text head.front;
  tells = head.tells;
  end_is = head.end_is;
  rest_is = sym (drop_at front bytes (length front) refl);
}

-- ---- the body

pub holds_message : HeadsStay → (side : Side) (ended : Bool) (front bytes : List ℕ) (framing : Framing)
    → EndsWithHead side front framing → HoldsBody framing ended bytes (length bytes)
    → IsFirst side ended (front ++ bytes) (Message (length (front ++ bytes)))
holds_message stay side ended front bytes framing ends body = record {
  framing = framing;
  end = length front;
  rest = bytes;
  body_len = length bytes;
  head = behind stay side front bytes (Ok framing) ends.head;
  body = body;
  used_is = length-append front bytes;
}

pub needs_body : HeadsStay → (side : Side) (ended : Bool) (front bytes : List ℕ) (framing : Framing)
    → EndsWithHead side front framing → BeginsBody framing ended bytes → IsFirst side ended (front ++ bytes) BodyNeeded
needs_body stay side ended front bytes framing ends body = record {
  framing = framing;
  end = length front;
  rest = bytes;
  head = behind stay side front bytes (Ok framing) ends.head;
  body = body;
}

pub undecided_behind : HeadsStay → (side : Side) (front bytes : List ℕ) (framing : Framing) → EndsWithHead side front framing
    → BeginsBody framing false bytes → IsUndecided side false (front ++ bytes)
undecided_behind stay side front bytes framing ends body = inr (inr (needs_body stay side false front bytes framing ends body))

refused_behind : HeadsStay → (side : Side) (front bytes : List ℕ) (framing : Framing) (due : MessageFault)
    → EndsWithHead side front framing → RefusesBody framing bytes due → IsFirst side false (front ++ bytes) (Refused due)
refused_behind stay side front bytes framing due ends body = inr (inr (inr (record {
  framing = framing;
  end = length front;
  rest = bytes;
  head = behind stay side front bytes (Ok framing) ends.head;
  body = body;
})))

-- a fault of a message is one of its reader
pub fault_is_due : (side : Side) (stream : List ℕ) (due : MessageFault) → IsFirst side false stream (Refused due)
    → HasFault side (fault_in due) stream
fault_is_due side stream message_fault.Malformed first = first
fault_is_due side stream message_fault.HeadTooLong first = first
fault_is_due side stream message_fault.BodyTooLong first = first
fault_is_due side stream message_fault.CodingRefused first = first

pub body_fault : HeadsStay → (side : Side) (front bytes : List ℕ) (framing : Framing) (due : MessageFault) (fault : WireFault)
    → EndsWithHead side front framing → RefusesBody framing bytes due → fault ≡ fault_in due → HasFault side fault (front ++ bytes)
body_fault stay side front bytes framing due fault ends body is =
    subst (λ f. HasFault side f (front ++ bytes)) (sym is)
    (fault_is_due side (front ++ bytes) due (refused_behind stay side front bytes framing due ends body))

-- a body that is whole while the stream goes on is whole when it has ended
pub whole_too : (framing : Framing) (bytes : List ℕ) (used : ℕ) → HoldsBody framing false bytes used → HoldsBody framing true bytes used
whole_too Empty bytes used body = body
whole_too (Length n) bytes used body = body
whole_too Chunked bytes used body = body
whole_too ToEnd bytes used body = (refl, body.1, body.2)

-- a body that was cut needs more, also where the stream has ended
pub cut_needs : (framing : Framing) (bytes : List ℕ) → IsCutWire framing bytes → BeginsBody framing true bytes
cut_needs Empty bytes cut = absurd cut
cut_needs (Length n) bytes cut = cut
cut_needs Chunked bytes cut = cut
cut_needs ToEnd bytes cut = absurd cut

-- ---- a front whose head is to come

nothing_begun : (side : Side) (stream : List ℕ) → front_of stream ≡ Nothing → IsUndecided side false stream
nothing_begun Requests stream e = inl (e, refl)
nothing_begun (Responses answers_head) stream e = inr (inl (inl (e, λ is. cc)))

pub front_of-open : (stream : List ℕ) → IsOpen stream → (front_of stream ≡ Nothing) ⊎ (front_of stream ≡ More)
front_of-open stream going =
    let same : front_of stream ≡ cond (eqb (line_ends_len stream) (length stream)) Nothing More =
    ap (front_by stream) going.0
    ∙ ap (λ b. cond b TooLong (cond (eqb (line_ends_len stream) (length stream)) Nothing More)) (le-ltb HEAD_LIMIT (length stream) going.1) in
    cond_both (eqb (line_ends_len stream) (length stream)) Nothing More (λ f. front_of stream ≡ f → (front_of stream ≡ Nothing) ⊎ (front_of stream ≡ More))
    (λ _ e. inl e) (λ _ e. inr e) same

pub undecided_front : (side : Side) (stream : List ℕ) → IsOpen stream → IsUndecided side false stream
undecided_front side stream going =
    elim (front_of-open stream going) [
      | inl nothing ↦ nothing_begun side stream nothing
      | inr more ↦ inr (inl (inr more))
    ]

pub too_long : (side : Side) (stream : List ℕ) → front_of stream ≡ TooLong → HasFault side HeadTooLong stream
too_long side stream e = inl (e, refl)

pub no_head : (side : Side) (front : List ℕ) → reading.EndsWithHead front → IsNoHead side (after_line_ends front)
    → HasFault side Malformed front
no_head side front ends none =
    inr (inl (record { skipped = line_ends_len front; text = after_line_ends front; front = ends; none = none }, refl))

-- a head that tells of a fault
pub told_fault : (side : Side) (front : List ℕ) (told : Result Framing FramingFault) (due : MessageFault) (fault : WireFault)
    → reading.EndsWithHead front → HeadTells side (after_line_ends front) told → fault_at_head told ≡ Some due
    → fault ≡ fault_in due → HasFault side fault front
told_fault side front told due fault ends tells is same =
    subst (λ f. HasFault side f front) (sym same)
    (fault_is_due side front due (inr (inr (inl (record {
      framing = told;
      end = length front;
      rest = [];
      head = ends_with side front told ends tells;
      told = is;
    })))))

-- ---- without a head

-- heads at the front of one stream are one
pub one_head : (f : List ℕ) (skipped other : ℕ) (text text_too : List ℕ) → front_of f ≡ HeadAt skipped text
    → front_of f ≡ HeadAt other text_too → text ≡ text_too
one_head f skipped other text text_too e d = let same : HeadAt skipped text ≡ HeadAt other text_too = sym e ∙ d in cc

nothing_is_no_head : (k : ℕ) (t : List ℕ) → Nothing ≡ HeadAt k t → ⊥
nothing_is_no_head k t d = cc

more_is_no_head : (k : ℕ) (t : List ℕ) → More ≡ HeadAt k t → ⊥
more_is_no_head k t d = cc

long_is_no_head : (k : ℕ) (t : List ℕ) → TooLong ≡ HeadAt k t → ⊥
long_is_no_head k t d = cc

pub open_has_no_head : (stream : List ℕ) (skipped : ℕ) (text : List ℕ) → IsOpen stream → front_of stream ≡ HeadAt skipped text → ⊥
open_has_no_head stream skipped text going e =
    elim (front_of-open stream going) [
      | inl nothing ↦ nothing_is_no_head skipped text (sym nothing ∙ e)
      | inr more ↦ more_is_no_head skipped text (sym more ∙ e)
    ]

-- an end where a response's head is to come is early
pub needs_head : (answers_head : Bool) (stream : List ℕ) → IsOpen stream → EndsInside (Responses answers_head) stream
needs_head answers_head stream going =
    elim (front_of-open stream going) [ inl nothing ↦ inl (nothing, λ is. cc) | inr more ↦ inr more ]

pub open_lacks_head : (side : Side) (stream : List ℕ) (standing : Standing) → IsOpen stream → LacksHead side stream standing
open_lacks_head side stream standing going = inr (λ skipped text e. absurd (open_has_no_head stream skipped text going e))

pub too_long_lacks_head : (side : Side) (stream : List ℕ) (standing : Standing) → front_of stream ≡ TooLong → LacksHead side stream standing
too_long_lacks_head side stream standing long = inr (λ skipped text e. absurd (long_is_no_head skipped text (sym long ∙ e)))

pub none_lacks_head : (side : Side) (front : List ℕ) (standing : Standing) → reading.EndsWithHead front → IsNoHead side (after_line_ends front)
    → LacksHead side front standing
none_lacks_head side front standing ends none =
    inr (λ skipped text e. subst (IsNoHead side) (one_head front (line_ends_len front) skipped (after_line_ends front) text ends e) none)

-- a text that tells something is a head
tells_is_head : (side : Side) (text : List ℕ) (told : Result Framing FramingFault) → HeadTells side text told → IsNoHead side text → ⊥
tells_is_head Requests text told tells none = none tells.0 tells.1
tells_is_head (Responses answers_head) text told tells none = none tells.0 tells.1

-- so behind a head none is lacking
pub lacks_none : HeadsStay → (side : Side) (front bytes : List ℕ) (framing : Framing) (standing : Standing)
    → EndsWithHead side front framing → LacksHead side (front ++ bytes) standing → (standing ≡ Failed Memory → ⊥) → ⊥
lacks_none stay side front bytes framing standing ends lacks sound =
    elim lacks [
      | inl memory ↦ sound memory
      | inr none ↦
          tells_is_head side ends.head.text (Ok framing) ends.head.tells
          (none ends.head.skipped ends.head.text (stay front bytes ends.head.skipped ends.head.text ends.head.front))
    ]

-- ---- how the stream goes on

-- behind a head it goes on by what comes of the body
pub goes_on_behind : HeadsStay → (side : Side) (front bytes piece now : List ℕ) (framing : Framing) (used : ℕ) → EndsWithHead side front framing
    → used ≤ length piece → now ≡ bytes ++ take used piece
    → BeginsBody framing false (bytes ++ take used piece) ⊎ (0 < used → BeginsBody framing false (bytes ++ take (used - 1) piece))
    → Takes side (front ++ bytes) piece used (front ++ now)
goes_on_behind stay side front bytes piece now framing used ends fits is soonest = record {
  fits = fits;
  stream_is = ap (λ b. front ++ b) is ∙ sym (append_assoc front bytes (take used piece));
  soonest = elim soonest [
    | inl still ↦ inl (undecided_behind stay side front now framing ends (subst (BeginsBody framing false) (sym is) still))
    | inr before ↦ inr (λ some.
        subst (IsUndecided side false) (sym (append_assoc front bytes (take (used - 1) piece)))
        (undecided_behind stay side front (bytes ++ take (used - 1) piece) framing ends (before some)))
  ];
}

-- up to the head's end it goes on by what comes of the front
pub goes_on_front : (side : Side) (front piece now bytes bytes_now : List ℕ) (used : ℕ) → bytes ≡ [] → bytes_now ≡ [] → used ≤ length piece
    → now ≡ front ++ take used piece → IsOpen (front ++ take (used - 1) piece)
    → Takes side (front ++ bytes) piece used (now ++ bytes_now)
goes_on_front side front piece now bytes bytes_now used none none_now fits is soonest =
    let old : front ++ bytes ≡ front = ap (λ b. front ++ b) none ∙ append-nil front in
    let new : now ++ bytes_now ≡ now = ap (λ b. now ++ b) none_now ∙ append-nil now in
    record {
      fits = fits;
      stream_is = new ∙ is ∙ ap (λ b. b ++ take used piece) (sym old);
      soonest = inr (λ some. subst (λ b. IsUndecided side false (b ++ take (used - 1) piece)) (sym old)
          (undecided_front side (front ++ take (used - 1) piece) soonest));
    }

-- nothing is taken
pub takes_nothing : (side : Side) (old piece now : List ℕ) → now ≡ old → Takes side old piece 0 now
takes_nothing side old piece now is = record {
  fits = omega arith;
  stream_is = is ∙ sym (append-nil old);
  soonest = inr (λ some. absurd (omega (arith, some)));
}
