-- How long a payload is, by what a head tells.
use Rattle.std.proofs.Common.{◌≡◌, ℕ, ◌^◌, ◌≤◌, Bool, true, false, ltb, List, [], length, Ok, Err, refl, sym, ap, subst, ◌∙◌}
use Rattle.std.specs.Prelude.{Option, Some, None, Result, if◌then◌else◌}
use Rattle.std.proofs.lemmas.Bool.{ltb-false}
use Rattle.httparse.proofs.GrammarLemmas.{response_unique}
use Rattle.httparse.specs.Grammar as grammar
use Rattle.httparse.specs.Grammar.{status_code}
use Rattle.capture.specs.BodyLaws.{WiresHaveOnePayload}
use Rattle.capture.specs.Fields.{named_values}
use Rattle.capture.specs.Framing.{framing_of_response, response_framing}
use Rattle.capture.specs.Message.{IsResponseHeadText}
use Rattle.capture.specs.Methods.{asks_for_head}
use Rattle.capture.specs.Payload.{IsPayload}
use Rattle.capture.specs.declared.captured.Kept.{Kept}
use Rattle.capture.specs.declared.captured.Kept.TheVariants.{Wire, Same}
use Rattle.capture.specs.declared.captured.Stored.{Stored}
use Rattle.capture.specs.declared.framing.Framing.{Framing}
use Rattle.capture.specs.declared.framing.Framing.TheVariants.{Empty, Length, Chunked, ToEnd}
use Rattle.capture.specs.declared.framing.FramingFault.{FramingFault}
use Rattle.capture.specs.declared.framing.FramingFault.TheVariants.{Malformed, CodingRefused}
use Rattle.http_head.specs.Heads.{HoldsResponseParts, minor_of}
use Rattle.http_head.specs.declared.head.ResponseHead.{ResponseHead}
use Rattle.http_head.specs.declared.head.WireFault.{WireFault}
use Rattle.http_head.specs.declared.head.WireFault.TheVariants as wire
use Rattle.message_body.specs.Framings.{framing_answer, told_by_response}
use Rattle.warc_scan.specs.Groups.{HasPayloadLen}
use Rattle.warc_scan.specs.declared.group.Group.{Group}
use Rattle.archive_gathering.specs.Measuring.{IsLengthOf}
use Rattle.archive_gathering.specs.Noting.{referring}

abbrev Said : Type 0
Said = Result Framing WireFault

abbrev pub said_ok : Framing → Said
said_ok framing = Ok framing

abbrev pub said_err : WireFault → Said
said_err fault = Err fault

abbrev Told : Type 0
Told = Result Framing FramingFault

-- a text is one head
pub one_head : (text : List ℕ) (h k : grammar.ResponseHead) → IsResponseHeadText text h → IsResponseHeadText text k → h ≡ k
one_head text h k x y = (response_unique text h k [] [] x.reads y.reads).0

-- its parts tell what it tells
pub parts_tell : (answers_head : Bool) (text : List ℕ) (h : grammar.ResponseHead) (parts : ResponseHead) → HoldsResponseParts text h parts
    → response_framing answers_head h ≡ told_by_response answers_head parts
parts_tell answers_head text h parts of =
    ap (λ m. framing_of_response answers_head m (status_code h) (named_values h.fields)) (sym of.version)
    ∙ ap (λ s. framing_of_response answers_head (minor_of parts.version) s (named_values h.fields)) (sym of.status)
    ∙ ap (λ fields. framing_of_response answers_head (minor_of parts.version) parts.status fields) (sym of.fields)

-- ---- a length that is too great

pub record IsTooLong (told : Told) : Type 0 where
  pub len : ℕ
  pub is : told ≡ Ok (Length len)
  pub long : 2 ^ 64 ≤ len

long_by : (n : ℕ) (b : Bool) → b ≡ ltb n (2 ^ 64) → (if b then said_ok (Length n) else said_err wire.BodyTooLong) ≡ said_err wire.BodyTooLong → IsTooLong (Ok (Length n))
long_by n true is e = cc
long_by n false is e = record { len = n; is = refl; long = ltb-false n (2 ^ 64) (sym is) }

pub too_long : (told : Told) → framing_answer told ≡ said_err wire.BodyTooLong → IsTooLong told
too_long (Ok Empty) e = cc
too_long (Ok (Length n)) e = long_by n (ltb n (2 ^ 64)) refl e
too_long (Ok Chunked) e = cc
too_long (Ok ToEnd) e = cc
too_long (Err Malformed) e = cc
too_long (Err CodingRefused) e = cc

-- ---- the payload of a wire

abbrev telling : Framing → Told
telling framing = Ok framing

one_framing : (a b : Framing) → telling a ≡ telling b → a ≡ b
one_framing a b e = cc

-- the length of a payload is that of each that the wire has
one_length : WiresHaveOnePayload → (method text wire : List ℕ) (len : ℕ) → HasPayloadLen method text (Wire wire) len → IsLengthOf method text wire len
one_length one method text wire len has payload other =
    let heads : has.1.parsed ≡ other.parsed = one_head text has.1.parsed other.parsed has.1.whole other.whole in
    let same : has.1.framing ≡ other.framing =
    one_framing has.1.framing other.framing (sym has.1.framed ∙ ap (response_framing (asks_for_head method)) heads ∙ other.framed) in
    has.2 ∙ ap length (one false other.framing wire has.0 payload (subst (λ (f : Framing). IsPayload false f wire has.0) same has.1.decoded) other.decoded)

same_is_no_wire : (n : ℕ) (wire : List ℕ) → Same n ≡ Wire wire → ⊥
same_is_no_wire n wire e = cc

-- so of a capture that keeps its whole wire, and refers to none
pub kept_length : WiresHaveOnePayload → (group : Group) → HasPayloadLen group.stored.method group.stored.head group.stored.kept group.payload_len
    → (first : Option ℕ) (stored : Stored) → stored ≡ referring group.stored first → (wire : List ℕ) → stored.kept ≡ Wire wire
    → IsLengthOf stored.method stored.head wire group.payload_len
kept_length one group has None stored is wire kept =
    let whole : group.stored.kept ≡ Wire wire = sym (ap (λ (s : Stored). s.kept) is) ∙ kept in
    subst (λ (s : Stored). IsLengthOf s.method s.head wire group.payload_len) (sym is)
    (one_length one group.stored.method group.stored.head wire group.payload_len
    (subst (λ (k : Kept). HasPayloadLen group.stored.method group.stored.head k group.payload_len) whole has))
kept_length one group has (Some n) stored is wire kept = absurd (same_is_no_wire n wire (sym (ap (λ (s : Stored). s.kept) is) ∙ kept))
