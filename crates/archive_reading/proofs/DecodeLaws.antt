-- What a head tells, by its parts.
use Rattle.std.proofs.Common.{◌≡◌, ℕ, ◌<◌, ◌^◌, Bool, true, false, ltb, List, [], length, Ok, Err, sym, ap, ◌∙◌, arith}
use Rattle.std.specs.Prelude.{Result}
use Rattle.std.proofs.lemmas.Bool.{cond_both, ltb-false}
use Rattle.httparse.proofs.GrammarLemmas.{response_unique}
use Rattle.httparse.specs.Grammar as grammar
use Rattle.httparse.specs.Grammar.{status_code}
use Rattle.capture.specs.Body.{IsWire}
use Rattle.capture.specs.Captures.{HasPayload}
use Rattle.capture.specs.Fields.{named_values}
use Rattle.capture.specs.First.{HeadTells, Responses}
use Rattle.capture.specs.Framing.{framing_of_response, response_framing}
use Rattle.capture.specs.Message.{IsResponseHeadText}
use Rattle.capture.specs.Methods.{asks_for_head}
use Rattle.capture.specs.declared.framing.Framing.{Framing}
use Rattle.capture.specs.declared.framing.Framing.TheVariants.{Empty, Length, Chunked, ToEnd}
use Rattle.capture.specs.declared.framing.FramingFault.{FramingFault}
use Rattle.http_head.specs.Heads.{HoldsResponse, HoldsResponseParts, minor_of}
use Rattle.http_head.specs.declared.head.ResponseHead.{ResponseHead}
use Rattle.http_head.specs.declared.head.WireFault.{WireFault}
use Rattle.http_head.specs.declared.head.WireFault.TheVariants as wire_fault
use Rattle.message_body.specs.Framings.{framing_answer, told_by_response}

-- ---- one head

-- a text is one head
pub one_head : (text : List ℕ) (h k : grammar.ResponseHead) → IsResponseHeadText text h → IsResponseHeadText text k → h ≡ k
one_head text h k x y = (response_unique text h k [] [] x.reads y.reads).0

abbrev Told : Type 0
Told = Result Framing FramingFault

abbrev told_ok : Framing → Told
told_ok framing = Ok framing

same_told : (a b : Framing) → told_ok a ≡ told_ok b → a ≡ b
same_told a b e = cc

-- and tells one framing
pub one_framing : (answers_head : Bool) (text : List ℕ) (a b : Framing) → HeadTells (Responses answers_head) text (Ok a)
    → HeadTells (Responses answers_head) text (Ok b) → a ≡ b
one_framing answers_head text a b x y = same_told a b (sym x.2 ∙ ap (response_framing answers_head) (one_head text x.0 y.0 x.1 y.1) ∙ y.2)

-- ---- what its parts tell

parts_tell : (answers_head : Bool) (text : List ℕ) (h : grammar.ResponseHead) (parts : ResponseHead) → HoldsResponseParts text h parts
    → response_framing answers_head h ≡ told_by_response answers_head parts
parts_tell answers_head text h parts of =
    ap (λ m. framing_of_response answers_head m (status_code h) (named_values h.fields)) (sym of.version)
    ∙ ap (λ s. framing_of_response answers_head (minor_of parts.version) s (named_values h.fields)) (sym of.status)
    ∙ ap (λ fields. framing_of_response answers_head (minor_of parts.version) parts.status fields) (sym of.fields)

abbrev pub Said : Type 0
Said = Result Framing WireFault

abbrev said_ok : Framing → Said
said_ok framing = Ok framing

abbrev pub said_err : WireFault → Said
said_err fault = Err fault

no_ok : (framing : Framing) (fault : WireFault) → said_ok framing ≡ said_err fault → ⊥
no_ok framing fault e = cc

-- behind a head of which no framing is said stands no body
no_wire : (cut : Bool) (framing : Framing) (wire : List ℕ) (fault : WireFault) → length wire < 2 ^ 64 → IsWire cut framing wire
    → framing_answer (told_ok framing) ≡ said_err fault → ⊥
no_wire cut Empty wire fault short is e = no_ok Empty fault e
no_wire false (Length n) wire fault short is e =
    cond_both (ltb n (2 ^ 64)) (said_ok (Length n)) (said_err wire_fault.BodyTooLong) (λ a. a ≡ said_err fault → ⊥)
    (λ _ d. no_ok (Length n) fault d) (λ large _. absurd (omega (arith, ltb-false n (2 ^ 64) large, is, short))) e
no_wire true (Length n) wire fault short is e =
    cond_both (ltb n (2 ^ 64)) (said_ok (Length n)) (said_err wire_fault.BodyTooLong) (λ a. a ≡ said_err fault → ⊥)
    (λ _ d. no_ok (Length n) fault d) (λ large _. absurd (omega (arith, ltb-false n (2 ^ 64) large, is.1))) e
no_wire cut Chunked wire fault short is e = no_ok Chunked fault e
no_wire cut ToEnd wire fault short is e = no_ok ToEnd fault e

pub tells_none : (method text : List ℕ) (parts : ResponseHead) (fault : WireFault) → HoldsResponse text parts
    → framing_answer (told_by_response (asks_for_head method) parts) ≡ said_err fault
    → (cut : Bool) (wire payload : List ℕ) → length wire < 2 ^ 64 → HasPayload cut method text wire payload → ⊥
tells_none method text parts fault holds said cut wire payload short has =
    let told : told_by_response (asks_for_head method) parts ≡ told_ok has.framing =
    sym (parts_tell (asks_for_head method) text holds.0 parts holds.1)
    ∙ ap (response_framing (asks_for_head method)) (one_head text holds.0 has.parsed holds.1.reads has.whole)
    ∙ has.framed in
    no_wire cut has.framing wire fault short has.wire_is (sym (ap framing_answer told) ∙ said)
