-- The response that a block is, and why it is none.
use Rattle.std.proofs.Common.{◌≡◌, ℕ, ◌+◌, ◌-◌, ◌<◌, ◌≤◌, Bool, true, false, ◌&&◌, not, cond, leb, List, ◌++◌, length, take, drop, Some, Ok, refl, sym, ap, subst, ◌∙◌, arith, append-nil, append_assoc, length-append, length-drop, take_at}
use Rattle.std.specs.Prelude.{Result, Err}
use Rattle.std.proofs.lemmas.List.{take-append-drop}
use Rattle.httparse.specs.Grammar.{ResponseHead, print_response, status_code}
use Rattle.capture.specs.CutLaws.{CutResponsesNeedBody}
use Rattle.capture.specs.First.{Responses, Message, Refused, HeadNeeded, BodyNeeded, IsFirst}
use Rattle.capture.specs.Head.{Front, front_of, front_by, head_end, line_ends_len, field_lines, Head, TooLong}
use Rattle.capture.specs.HeadLaws.{ResponseHeadsEnd}
use Rattle.capture.specs.Message.{BeginsWithResponse, IsResponseHeadText}
use Rattle.capture.specs.Methods.{asks_for_head}
use Rattle.capture.specs.WellFormed.{IsFinalHead, RespondsTo}
use Rattle.capture.specs.declared.framing.MessageFault.{MessageFault}
use Rattle.capture.specs.declared.framing.MessageFault.TheVariants as message_fault
use Rattle.capture.specs.declared.limits.TheConstants.{HEAD_LIMIT, FIELD_LIMIT}
use Rattle.capture.proofs.CutResponseLaws.{head_at_front}
use Rattle.capture.proofs.HeadLaws.{response_starts_plain}
use Rattle.http_head.specs.declared.head.Received.{Received}
use Rattle.http_head.specs.declared.head.WireFault.{WireFault}
use Rattle.http_head.specs.declared.head.WireFault.TheVariants.{Malformed, HeadTooLong, BodyTooLong, CodingRefused, EndedEarly, Memory}
use Rattle.http_wire.specs.Decisions.{FirstsAreOne, MessagesStay, RefusalsStay}
use Rattle.http_wire.specs.HeldBodies.{closed_standing}
use Rattle.http_wire.specs.Messages.{IsResponse}
use Rattle.http_wire.specs.Reading.{ComesBeforeTheEnd, HasFault, Stands, TakesSome}
use Rattle.http_wire.specs.Storing.{ResponsesCanBeStored}
use Rattle.http_wire.proofs.FrontParts.{HeadParts, parts_of_head}
use Rattle.http_wire.proofs.OneHead.{one_head, one_parse, one_skipped}
use Rattle.warc_reader.specs.Blocks.{Answered, HasNoResponse, IsBlockOf, IsOther, IsWithin, Parts, block_fault_of, received_parts}
use Rattle.warc_reader.specs.declared.blocks.BlockFault.{BlockFault}
use Rattle.warc_reader.specs.declared.blocks.BlockFault.TheVariants.{NoMessage}

-- ---- a block in which something else stands first

same_message : (n m : ℕ) → Message n ≡ Message m → n ≡ m
same_message n m e = cc

message_is_no_body : (n : ℕ) → Message n ≡ BodyNeeded → ⊥
message_is_no_body n e = cc

refused_is_no_message : (fault : MessageFault) (n : ℕ) → Refused fault ≡ Message n → ⊥
refused_is_no_message fault n e = cc

refused_is_no_body : (fault : MessageFault) → Refused fault ≡ BodyNeeded → ⊥
refused_is_no_body fault e = cc

head_is_no_message : (n : ℕ) → HeadNeeded ≡ Message n → ⊥
head_is_no_message n e = cc

head_is_no_body : HeadNeeded ≡ BodyNeeded → ⊥
head_is_no_body e = cc

-- what stands first in a response's block
pub first_by : CutResponsesNeedBody → (a : Answered) (p : Parts) → IsBlockOf a p → (cut : Bool) → p.cut ≡ cut
    → IsFirst (Responses (asks_for_head a.method)) true a.block (cond cut BodyNeeded (Message (length a.block)))
first_by needs a p is false e = subst (λ c. IsWithin c a.method a.block) e is.within
first_by needs a p is true e =
    let responds : RespondsTo true a.method p.head p.wire = subst (λ c. RespondsTo c a.method p.head p.wire) e is.responds in
    subst (λ t. IsFirst (Responses (asks_for_head a.method)) true t BodyNeeded) (sym is.composed)
    (needs (asks_for_head a.method) true p.head p.wire responds.parsed responds.framing responds.cut)

pub none_by_other : FirstsAreOne → CutResponsesNeedBody → (a : Answered) → IsOther (asks_for_head a.method) a.block → HasNoResponse a
none_by_other one needs a other = λ p is. by p is p.cut refl
  where
    by : (p : Parts) → IsBlockOf a p → (cut : Bool) → p.cut ≡ cut → ⊥
    by p is false e =
        other.not_whole (one (Responses (asks_for_head a.method)) true a.block other.first (Message (length a.block)) other.is (first_by needs a p is false e))
    by p is true e =
        other.not_cut (one (Responses (asks_for_head a.method)) true a.block other.first BodyNeeded other.is (first_by needs a p is true e))

refused_first : (ah : Bool) (block : List ℕ) (fault : MessageFault) → IsFirst (Responses ah) true block (Refused fault) → IsOther ah block
refused_first ah block fault is = record {
  first = Refused fault;
  is = is;
  not_whole = refused_is_no_message fault (length block);
  not_cut = refused_is_no_body fault;
}

-- a fault that came before the stream's end
pub other_by_fault : RefusalsStay → (ah : Bool) (old piece new : List ℕ) (fault : WireFault) → TakesSome (Responses ah) old piece new
    → HasFault (Responses ah) fault new → ComesBeforeTheEnd fault → block_fault_of fault ≡ NoMessage → IsOther ah (old ++ piece)
other_by_fault stay ah old piece new fault took has before is =
    subst (IsOther ah) (sym whole) (by fault has before is)
  where
    more : List ℕ
    more = drop took.0 piece

    whole : old ++ piece ≡ new ++ more
    whole =
        ap (λ t. old ++ t) (sym (take-append-drop took.0 piece)) ∙ sym (append_assoc old (take took.0 piece) more)
        ∙ ap (λ t. t ++ more) (sym took.1.stream_is)

    refused : (f : MessageFault) → IsFirst (Responses ah) false new (Refused f) → IsOther ah (new ++ more)
    refused f first = refused_first ah (new ++ more) f (stay (Responses ah) true new more f first)

    by : (f : WireFault) → HasFault (Responses ah) f new → ComesBeforeTheEnd f → block_fault_of f ≡ NoMessage → IsOther ah (new ++ more)
    by Malformed h b e = refused message_fault.Malformed h
    by HeadTooLong h b e = refused message_fault.HeadTooLong h
    by BodyTooLong h b e = refused message_fault.BodyTooLong h
    by CodingRefused h b e = refused message_fault.CodingRefused h
    by EndedEarly h b e = absurd b
    by Memory h b e = absurd cc

-- an end before the head is whole
pub other_by_end : (ah : Bool) (stream : List ℕ) (fault : WireFault) → HasFault (Responses ah) fault stream → fault ≡ EndedEarly → IsOther ah stream
other_by_end ah stream fault has is = record {
  first = HeadNeeded;
  is = subst (λ f. HasFault (Responses ah) f stream) is has;
  not_whole = head_is_no_message (length stream);
  not_cut = head_is_no_body;
}

-- a whole message before the block's end
pub other_by_rest : MessagesStay → (ah : Bool) (old piece new : List ℕ) (used : ℕ) → used < length piece → new ≡ old ++ take used piece
    → IsFirst (Responses ah) false new (Message (length new)) → IsOther ah (old ++ piece)
other_by_rest stay ah old piece new used inside is first =
    let more = drop used piece in
    let whole : old ++ piece ≡ new ++ more =
    ap (λ t. old ++ t) (sym (take-append-drop used piece)) ∙ sym (append_assoc old (take used piece) more) ∙ ap (λ t. t ++ more) (sym is) in
    subst (IsOther ah) (sym whole) (record {
      first = Message (length new);
      is = stay (Responses ah) true new more (length new) first;
      not_whole = λ e. absurd (omega (arith, same_message (length new) (length (new ++ more)) e, length-append new more, length-drop used piece, inside));
      not_cut = message_is_no_body (length new);
    })

-- a whole message before a rest with bytes
pub whole_before : MessagesStay → (ah : Bool) (old rest : List ℕ) (used : ℕ) → used < length rest
    → IsFirst (Responses ah) false old (Message (length old)) → IsOther ah (old ++ rest)
whole_before stay ah old rest used inside first =
    other_by_rest stay ah old rest old 0 (omega (arith, inside)) (sym (append-nil old)) first

-- ---- the head with which a block begins

pub printed : (text : List ℕ) (h : ResponseHead) → IsResponseHeadText text h → text ≡ print_response h
printed text h is = is.reads.1 ∙ append-nil (print_response h)

abbrev front_at : ℕ → ℕ → List ℕ → Front
front_at end skipped text =
    cond (leb end HEAD_LIMIT && leb (field_lines (drop skipped text)) FIELD_LIMIT) (Head skipped (drop skipped text)) TooLong

in_front : (test : Bool) (text other : List ℕ) (k : ℕ) → cond test (Head 0 text) TooLong ≡ Head k other → (k ≡ 0) × (other ≡ text)
in_front true text other k e = (sym (one_skipped 0 k text other e), cc)
in_front false text other k e = absurd cc

-- a front whose head begins at once and ends there
front_there : (stream : List ℕ) (end k : ℕ) (text : List ℕ) → head_end stream ≡ Some end → line_ends_len stream ≡ 0
    → front_of stream ≡ Head k text → (k ≡ 0) × (text ≡ take end stream)
front_there stream end k text ends none is =
    let front : front_of stream ≡ front_at end 0 (take end stream) =
    ap (front_by stream) ends ∙ ap (λ skipped. front_at end skipped (take end stream)) none in
    in_front (leb end HEAD_LIMIT && leb (field_lines (take end stream)) FIELD_LIMIT) (take end stream) text k (sym front ∙ is)

-- the response's head is the one that stands at the front
head_there : ResponseHeadsEnd → (a : Answered) (p : Parts) → IsBlockOf a p → (k : ℕ) (text : List ℕ) → front_of a.block ≡ Head k text
    → (k ≡ 0) × (text ≡ p.head)
head_there ends a p is k text front = by p.cut refl
  where
    there : front_of (p.head ++ p.wire) ≡ Head k text
    there = ap front_of (sym is.composed) ∙ front

    by : (cut : Bool) → p.cut ≡ cut → (k ≡ 0) × (text ≡ p.head)
    by false e =
        let responds : RespondsTo false a.method p.head p.wire = subst (λ c. RespondsTo c a.method p.head p.wire) e is.responds in
        let begins : BeginsWithResponse (p.head ++ p.wire) responds.parsed p.wire = responds.whole.head in
        let same = printed p.head responds.parsed responds.head_is.whole in
        let end : head_end (p.head ++ p.wire) ≡ Some (length p.head) =
        ends (p.head ++ p.wire) responds.parsed p.wire begins ∙ ap (λ t. Some (length t)) (sym same) in
        let at = front_there (p.head ++ p.wire) (length p.head) k text end (response_starts_plain (p.head ++ p.wire) responds.parsed p.wire begins) there in
        (at.0, at.1 ∙ take_at p.head p.wire (length p.head) refl)
    by true e =
        let responds : RespondsTo true a.method p.head p.wire = subst (λ c. RespondsTo c a.method p.head p.wire) e is.responds in
        let front_is = head_at_front p.head p.wire responds.parsed responds.cut.head responds.cut.short in (
          one_skipped k 0 text p.head (sym there ∙ front_is),
          one_head (p.head ++ p.wire) k 0 text p.head there front_is,
        )

-- the head of a response is final
pub final_head : (cut : Bool) (method head wire : List ℕ) → RespondsTo cut method head wire → (parsed : ResponseHead) × IsFinalHead head parsed
final_head false method head wire responds = (responds.parsed, responds.head_is)
final_head true method head wire responds = (responds.parsed, responds.head_is)

-- ---- a response that was read

pub none_by_status : ResponseHeadsEnd → (a : Answered) (received : Received) → IsResponse (asks_for_head a.method) a.block received
    → received.head.status < 200 → HasNoResponse a
none_by_status ends a received response low = λ p is.
    let at = head_there ends a p is response.skipped received.head.text response.front in
    let final = final_head p.cut a.method p.head p.wire is.responds in
    let of = response.holds.1 in
    let reads : IsResponseHeadText p.head response.holds.0 = subst (λ t. IsResponseHeadText t response.holds.0) at.1 of.reads in
    let same = one_parse p.head response.holds.0 final.0 reads final.1.whole in
    absurd (omega (arith, low, of.status, ap status_code same, final.1.final))

pub none_by_place : ResponseHeadsEnd → (a : Answered) (received : Received) → IsResponse (asks_for_head a.method) a.block received
    → ¬ (length received.head.text + length received.wire ≡ length a.block) → HasNoResponse a
none_by_place ends a received response other = λ p is.
    let at = head_there ends a p is response.skipped received.head.text response.front in
    let whole : a.block ≡ received.head.text ++ received.wire = ap (λ k. drop k a.block) (sym at.0) ∙ response.composed in
    other (omega (arith, ap length whole, length-append received.head.text received.wire))

pub none_by_mark : FirstsAreOne → CutResponsesNeedBody → (a : Answered) (cut : Bool)
    → Stands (Responses (asks_for_head a.method)) a.block (closed_standing cut) → (cut && not a.truncated) ≡ true → HasNoResponse a
none_by_mark one needs a false stands unmarked = absurd cc
none_by_mark one needs a true stands unmarked = λ p is. by p is p.cut refl
  where
    not_truncated : (t : Bool) → not t ≡ true → t ≡ true → ⊥
    not_truncated true e f = cc
    not_truncated false e f = cc

    by : (p : Parts) → IsBlockOf a p → (c : Bool) → p.cut ≡ c → ⊥
    by p is true e = not_truncated a.truncated unmarked (is.marked e)
    by p is false e =
        message_is_no_body (length a.block)
        (one (Responses (asks_for_head a.method)) true a.block (Message (length a.block)) BodyNeeded (first_by needs a p is false e) stands)

pub block_holds : ResponsesCanBeStored → (a : Answered) (received : Received) → IsResponse (asks_for_head a.method) a.block received
    → Stands (Responses (asks_for_head a.method)) a.block (closed_standing received.cut) → 200 ≤ received.head.status
    → length received.head.text + length received.wire ≡ length a.block → (received.cut && not a.truncated) ≡ false
    → IsBlockOf a (received_parts received)
block_holds stored a received response stands final all marked = record {
  composed = whole;
  responds = (stored received a.method (a.block, response) final).responds;
  within = by received.cut stands;
  marked = mark received.cut a.truncated marked;
}
  where
    parts : HeadParts a.block response.skipped received.head.text
    parts = parts_of_head a.block response.skipped received.head.text response.front

    long : length a.block - response.skipped ≡ length received.head.text + length received.wire
    long = sym (length-drop response.skipped a.block) ∙ ap length response.composed ∙ length-append received.head.text received.wire

    drop_nothing : (k : ℕ) (t : List ℕ) → k ≤ length t → length t - k ≡ length t → t ≡ drop k t
    drop_nothing k t within same = ap (λ n. drop n t) (sym none)
      where
        none : k ≡ 0
        none = omega (arith, within, same)

    whole : a.block ≡ received.head.text ++ received.wire
    whole = drop_nothing response.skipped a.block (omega (arith, parts.fits)) (long ∙ all) ∙ response.composed

    by : (cut : Bool) → Stands (Responses (asks_for_head a.method)) a.block (closed_standing cut) → IsWithin cut a.method a.block
    by false s = s
    by true s = tt

    mark : (cut truncated : Bool) → (cut && not truncated) ≡ false → cut ≡ true → truncated ≡ true
    mark true true e f = refl
    mark true false e f = absurd cc
    mark false t e f = absurd cc

abbrev nothing_or : BlockFault → Result (Unit {0}) BlockFault
nothing_or fault = Err fault

pub same_fault : (fault : BlockFault) → nothing_or fault ≡ nothing_or NoMessage → fault ≡ NoMessage
same_fault fault e = cc

pub no_fault : {T E : Type 0} (x : T) (fault : E) → ◌≡◌ {A = Result T E} (Err fault) (Ok x) → ⊥
no_fault x fault e = cc

-- a fault is the same in every result
pub other_result : {T S : Type 0} (fault : BlockFault) → ◌≡◌ {A = Result T BlockFault} (Err fault) (Err NoMessage)
    → ◌≡◌ {A = Result S BlockFault} (Err fault) (Err NoMessage)
other_result fault e = let same : fault ≡ NoMessage = cc in ap (λ (f : BlockFault). Err f) same
