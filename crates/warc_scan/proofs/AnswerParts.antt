-- The response in a block, by its parts.
use Rattle.std.proofs.Common.{◌≡◌, ℕ, ◌<◌, ◌^◌, Bool, true, false, List, [], ◌++◌, length, Some, None, Ok, Err, refl, sym, ap, subst, ◌∙◌}
use Rattle.std.specs.Prelude.{Option, Result, IfSome, option_map}
use Rattle.sha1.specs.Sha1.{sha1}
use Rattle.httparse.specs.Grammar as grammar
use Rattle.capture.specs.Body.{IsBody, IsCutWire}
use Rattle.capture.specs.BodyLaws.{WiresHaveOnePayload}
use Rattle.capture.specs.Captures.{kept_wire}
use Rattle.capture.specs.Framing.{response_framing}
use Rattle.capture.specs.HeadLaws.{ResponseHeadsEnd}
use Rattle.capture.specs.Message.{IsResponseHeadText, IsShortHead}
use Rattle.capture.specs.Methods.{asks_for_head}
use Rattle.capture.specs.Payload.{IsPayload}
use Rattle.capture.specs.WellFormed.{IsFinalHead, TellsBody}
use Rattle.capture.specs.declared.captured.Kept.{Kept}
use Rattle.capture.specs.declared.captured.Kept.TheVariants.{Wire, Same, Cut}
use Rattle.capture.specs.declared.framing.Framing.{Framing}
use Rattle.capture.specs.declared.framing.FramingFault.{FramingFault}
use Rattle.http_head.specs.declared.head.WireFault.{WireFault}
use Rattle.message_body.specs.Framings.{framing_answer, told_by_response}
use Rattle.warc_text.specs.References.{Reference}
use Rattle.record_opening.specs.Openings.{IsOpening, IsRevisited, opening_of, reference_of}
use Rattle.record_opening.specs.declared.opening.Opening.{Opening}
use Rattle.record_opening.specs.declared.opening_parts.Refers.{Refers}
use Rattle.warc_scan.specs.steps.Responses.{AreParts, IsAnswerOf, IsRead, IsSomeBody, IsToldBy, TellsOfBody, kept_by}
use Rattle.warc_scan.specs.steps.Digests.{HasDigest, HasLength}
use Rattle.warc_scan.specs.Groups.{HasPayloadLen, IsResponse, unknown_number}
use Rattle.warc_scan.specs.declared.answer.Answer.{Answer}
use Rattle.warc_scan.specs.declared.answer.Form.{Form}
use Rattle.warc_scan.specs.declared.answer.Form.TheVariants as forms
use Rattle.warc_scan.specs.declared.answer.Parts.{Parts}
use Rattle.warc_scan.specs.declared.answer.Told.{Told}
use Rattle.warc_scan.proofs.AnswerHeads.{begins_with_rest, final_head, no_such_body, no_such_cut, ok_was_told, one_framing, one_split, told_by_parts}

-- what the parts of a head tell, in a response to this method
abbrev pub told_in : List ℕ → Parts → Result Framing FramingFault
told_in method parts = told_by_response (asks_for_head method) parts.parsed

abbrev telling : Framing → Result Framing FramingFault
telling framing = Ok framing

-- an answer that was read
abbrev said : Framing → Result Framing WireFault
said framing = Ok framing

-- ---- what the head of some parts tells

-- a framing that is told by any reading is told by the parts
framed_by_parts : (method : List ℕ) (parts : Parts) (h : grammar.ResponseHead) (framing : Framing) → AreParts parts
    → IsResponseHeadText parts.head.now h → response_framing (asks_for_head method) h ≡ Ok framing → told_in method parts ≡ telling framing
framed_by_parts method parts h framing are is framed =
    sym (told_by_parts (asks_for_head method) parts.head.now parts.parsed h are.holds is) ∙ framed

-- and the other way
framed_by_told : (method : List ℕ) (parts : Parts) (framing : Framing) (are : AreParts parts) → said framing ≡ framing_answer (told_in method parts)
    → response_framing (asks_for_head method) are.holds.0 ≡ telling framing
framed_by_told method parts framing are told =
    told_by_parts (asks_for_head method) parts.head.now parts.parsed are.holds.0 are.holds are.holds.1.reads
    ∙ ok_was_told (told_in method parts) framing told

-- of a framing that was read, each other that is told is the same
same_framing : (method : List ℕ) (parts : Parts) (h : grammar.ResponseHead) (framing read : Framing) → AreParts parts
    → IsResponseHeadText parts.head.now h → response_framing (asks_for_head method) h ≡ Ok framing
    → said read ≡ framing_answer (told_in method parts) → framing ≡ read
same_framing method parts h framing read are is framed told =
    one_framing framing read (sym (framed_by_parts method parts h framing are is framed) ∙ ok_was_told (told_in method parts) read told)

final_of : (parts : Parts) (are : AreParts parts) → IsFinalHead parts.head.now are.holds.0
final_of parts are = final_head parts.head.now parts.parsed are.holds are.final

-- ---- revisits

pub tells_of_body : (method : List ℕ) (parts : Parts) → AreParts parts → parts.wire.now ≡ [] → IsSomeBody (told_in method parts)
    → TellsOfBody method parts
tells_of_body method parts are none some =
    let tells : TellsBody method parts.head.now are.holds.0 some.0 = record {
      head_is = final_of parts are;
      framed = told_by_parts (asks_for_head method) parts.head.now parts.parsed are.holds.0 are.holds are.holds.1.reads ∙ some.1;
      some = some.2;
    } in
    (are.holds.0, some.0, none, tells)

pub told_of_body : (method : List ℕ) (parts : Parts) → AreParts parts → TellsOfBody method parts → IsSomeBody (told_in method parts)
told_of_body method parts are tells =
    (tells.1, framed_by_parts method parts tells.0 tells.1 are tells.3.head_is.whole tells.3.framed, tells.3.some)

-- ---- the digest

-- the payload of the wire, by any reading of the head, has the digest that was found
one_digest : WiresHaveOnePayload → (cut : Bool) (framing : Framing) (wire found payload digest : List ℕ) → HasDigest cut framing wire found
    → IsPayload cut framing wire payload → digest ≡ sha1 payload → found ≡ digest
one_digest one cut framing wire found payload digest has decoded is =
    has.2 ∙ ap sha1 (one cut framing wire has.0 payload has.1 decoded) ∙ sym is

pub digest_found : WiresHaveOnePayload → (cut : Bool) (method : List ℕ) (parts : Parts) (framing : Framing) (found digest : List ℕ) → AreParts parts
    → said framing ≡ framing_answer (told_in method parts) → HasDigest cut framing parts.wire.now found
    → IsResponse cut method parts.head.now parts.wire.now digest → found ≡ digest
digest_found one cut method parts framing found digest are told has r =
    let same = same_framing method parts r.has.parsed r.has.framing framing are r.has.whole r.has.framed told in
    one_digest one cut framing parts.wire.now found r.payload digest has
    (subst (λ f. IsPayload cut f parts.wire.now r.payload) same r.has.decoded) r.digest_is

-- ---- whole responses

pub whole_is : (method : List ℕ) (parts : Parts) (framing : Framing) (digest : List ℕ) → AreParts parts
    → said framing ≡ framing_answer (told_in method parts) → IsBody framing parts.wire.now → HasDigest false framing parts.wire.now digest
    → IsResponse false method parts.head.now parts.wire.now digest
whole_is method parts framing digest are told body has =
    let framed = framed_by_told method parts framing are told in
    record {
      responds = record {
        parsed = are.holds.0;
        framing = framing;
        head_is = final_of parts are;
        whole = record {
          head = begins_with_rest parts.head.now are.holds.0 parts.wire.now are.holds.1.reads;
          framed = framed;
          body = body;
        };
      };
      payload = has.0;
      has = record {
        parsed = are.holds.0;
        framing = framing;
        whole = are.holds.1.reads;
        framed = framed;
        wire_is = body;
        decoded = has.1;
      };
      digest_is = has.2;
    }

pub whole_untold : (method : List ℕ) (parts : Parts) (fault : WireFault) (digest : List ℕ) → AreParts parts → length parts.wire.now < 2 ^ 64
    → Err fault ≡ framing_answer (told_in method parts) → IsResponse false method parts.head.now parts.wire.now digest → ⊥
whole_untold method parts fault digest are short told r =
    no_such_body (told_in method parts) r.responds.framing parts.wire.now fault told
    (framed_by_parts method parts r.responds.parsed r.responds.framing are r.responds.head_is.whole r.responds.whole.framed) short r.responds.whole.body

pub whole_other : (method : List ℕ) (parts : Parts) (framing : Framing) (digest : List ℕ) → AreParts parts
    → said framing ≡ framing_answer (told_in method parts) → (IsBody framing parts.wire.now → ⊥)
    → IsResponse false method parts.head.now parts.wire.now digest → ⊥
whole_other method parts framing digest are told none r =
    let same = same_framing method parts r.responds.parsed r.responds.framing framing are r.responds.head_is.whole r.responds.whole.framed told in
    none (subst (λ f. IsBody f parts.wire.now) same r.responds.whole.body)

-- ---- responses that were cut

pub cut_is : (method : List ℕ) (parts : Parts) (framing : Framing) (digest : List ℕ) → AreParts parts → IsShortHead parts.head.now
    → said framing ≡ framing_answer (told_in method parts) → IsCutWire framing parts.wire.now → HasDigest true framing parts.wire.now digest
    → IsResponse true method parts.head.now parts.wire.now digest
cut_is method parts framing digest are short told body has =
    let framed = framed_by_told method parts framing are told in
    record {
      responds = record {
        parsed = are.holds.0;
        framing = framing;
        head_is = final_of parts are;
        cut = record { head = are.holds.1.reads; short = short; framed = framed; body = body };
      };
      payload = has.0;
      has = record {
        parsed = are.holds.0;
        framing = framing;
        whole = are.holds.1.reads;
        framed = framed;
        wire_is = body;
        decoded = has.1;
      };
      digest_is = has.2;
    }

pub cut_untold : (method : List ℕ) (parts : Parts) (fault : WireFault) (digest : List ℕ) → AreParts parts
    → Err fault ≡ framing_answer (told_in method parts) → IsResponse true method parts.head.now parts.wire.now digest → ⊥
cut_untold method parts fault digest are told r =
    no_such_cut (told_in method parts) r.responds.framing parts.wire.now fault told
    (framed_by_parts method parts r.responds.parsed r.responds.framing are r.responds.head_is.whole r.responds.cut.framed) r.responds.cut.body

pub cut_other : (method : List ℕ) (parts : Parts) (framing : Framing) (digest : List ℕ) → AreParts parts
    → said framing ≡ framing_answer (told_in method parts) → (IsCutWire framing parts.wire.now → ⊥)
    → IsResponse true method parts.head.now parts.wire.now digest → ⊥
cut_other method parts framing digest are told none r =
    let same = same_framing method parts r.responds.parsed r.responds.framing framing are r.responds.head_is.whole r.responds.cut.framed told in
    none (subst (λ f. IsCutWire f parts.wire.now) same r.responds.cut.body)

pub cut_long : (method : List ℕ) (parts : Parts) (digest : List ℕ) → (IsShortHead parts.head.now → ⊥)
    → IsResponse true method parts.head.now parts.wire.now digest → ⊥
cut_long method parts digest long r = long r.responds.cut.short

-- ---- the length of the payload

pub whole_len : (method : List ℕ) (parts : Parts) (framing : Framing) (len : ℕ) → AreParts parts
    → said framing ≡ framing_answer (told_in method parts) → IsBody framing parts.wire.now → HasLength false framing parts.wire.now len
    → HasPayloadLen method parts.head.now (Wire parts.wire.now) len
whole_len method parts framing len are told body has = (
  has.0,
  record {
    parsed = are.holds.0;
    framing = framing;
    whole = are.holds.1.reads;
    framed = framed_by_told method parts framing are told;
    wire_is = body;
    decoded = has.1;
  },
  has.2,
)

pub cut_len : (method : List ℕ) (parts : Parts) (framing : Framing) (len : ℕ) → AreParts parts
    → said framing ≡ framing_answer (told_in method parts) → IsCutWire framing parts.wire.now → HasLength true framing parts.wire.now len
    → HasPayloadLen method parts.head.now (Cut parts.wire.now) len
cut_len method parts framing len are told body has = (
  has.0,
  record {
    parsed = are.holds.0;
    framing = framing;
    whole = are.holds.1.reads;
    framed = framed_by_told method parts framing are told;
    wire_is = body;
    decoded = has.1;
  },
  has.2,
)

-- ---- what a block is

some_is_no_none : (r : Reference) (same : Option Reference) → same ≡ Some r → same ≡ None → ⊥
some_is_no_none r same p q = cc

-- what is told, by its form
told_as : (method : List ℕ) (parts : Parts) (opening : Opening) (told : Told) (form : Form) (kept : Kept) → told.form ≡ form → kept ≡ kept_by form parts.wire.now
    → kept_wire kept ≡ parts.wire.now → IsAnswerOf method (parts.head.now ++ parts.wire.now) opening parts.head.now kept → HasPayloadLen method parts.head.now kept told.payload_len
    → IsToldBy method parts opening told
told_as method parts opening told form kept is kept_is all answer len =
    let same : kept ≡ kept_by told.form parts.wire.now = kept_is ∙ ap (λ f. kept_by f parts.wire.now) (sym is) in
    record {
      is = subst (λ k. IsAnswerOf method (parts.head.now ++ parts.wire.now) opening parts.head.now k) same answer;
      all = subst (λ k. kept_wire k ≡ parts.wire.now) same all;
      payload_len = subst (λ k. HasPayloadLen method parts.head.now k told.payload_len) same len;
    }

-- a revisit by its opening
pub told_revisit : (method : List ℕ) (parts : Parts) (opening : Opening) (refers : Refers) (told : Told) → IsOpening (opening_of opening) → opening.same ≡ Some refers
    → told.form ≡ forms.Revisit → told.payload_len ≡ 0 → TellsOfBody method parts → IsToldBy method parts opening told
told_revisit method parts opening refers told right is form len tells =
    let same : (opening_of opening).same ≡ Some (reference_of refers) = ap (option_map reference_of) is in
    let answer : IsAnswerOf method (parts.head.now ++ parts.wire.now) opening parts.head.now (Same unknown_number) = record {
      composed = ap (λ w. parts.head.now ++ w) tells.2;
      cut_is = sym (subst (λ (s : Option Reference). IfSome s (λ r. opening.cut ≡ false)) same right.whole);
      answer = (
        refl,
        record {
          parsed = tells.0;
          framing = tells.1;
          tells = tells.3;
          digest_is = right.digest_is;
          reference = reference_of refers;
          refers = same;
          is = subst (λ (s : Option Reference). IfSome s IsRevisited) same right.refers;
        },
      );
    } in
    told_as method parts opening told forms.Revisit (Same unknown_number) form refl (sym tells.2) answer len

pub told_whole : (method : List ℕ) (parts : Parts) (opening : Opening) (told : Told) → opening.same ≡ None → opening.cut ≡ false → told.form ≡ forms.Whole
    → IsResponse false method parts.head.now parts.wire.now opening.digest → HasPayloadLen method parts.head.now (Wire parts.wire.now) told.payload_len
    → IsToldBy method parts opening told
told_whole method parts opening told none uncut form response len =
    let answer : IsAnswerOf method (parts.head.now ++ parts.wire.now) opening parts.head.now (Wire parts.wire.now) = record {
      composed = refl;
      cut_is = sym uncut;
      answer = (ap (option_map reference_of) none, response);
    } in
    told_as method parts opening told forms.Whole (Wire parts.wire.now) form refl refl answer len

pub told_cut : (method : List ℕ) (parts : Parts) (opening : Opening) (told : Told) → opening.same ≡ None → opening.cut ≡ true → told.form ≡ forms.Cut
    → IsResponse true method parts.head.now parts.wire.now opening.digest → HasPayloadLen method parts.head.now (Cut parts.wire.now) told.payload_len
    → IsToldBy method parts opening told
told_cut method parts opening told none cut form response len =
    let answer : IsAnswerOf method (parts.head.now ++ parts.wire.now) opening parts.head.now (Cut parts.wire.now) = record {
      composed = refl;
      cut_is = sym cut;
      answer = (ap (option_map reference_of) none, response);
    } in
    told_as method parts opening told forms.Cut (Cut parts.wire.now) form refl refl answer len

-- what the parts of a block are is what the block is
pub read_of : (method block : List ℕ) (opening : Opening) (parts : Parts) (told : Told) (answer : Answer) → block ≡ parts.head.now ++ parts.wire.now
    → AreParts parts → IsToldBy method parts opening told → answer ≡ record { head = parts.head; wire = parts.wire; parsed = parts.parsed; form = told.form; payload_len = told.payload_len }
    → IsRead method block opening answer
read_of method block opening parts told answer composed are is same =
    subst (IsRead method block opening) (sym same) (record {
      is = subst (λ b. IsAnswerOf method b opening parts.head.now (kept_by told.form parts.wire.now)) (sym composed) is.is;
      all = is.all;
      payload_len = is.payload_len;
      parsed = are.holds;
    })

-- ---- a block that is no answer

-- each answer has a final head at the front of the block
pub record HasHead (block head : List ℕ) (kept : Kept) : Type 0 where
  pub parsed : grammar.ResponseHead
  pub composed : block ≡ head ++ kept_wire kept
  pub final : IsFinalHead head parsed

pub has_head : (method block : List ℕ) (opening : Opening) (head : List ℕ) (kept : Kept) → IsAnswerOf method block opening head kept → HasHead block head kept
has_head method block opening head (Wire wire) a = record { parsed = a.answer.1.responds.parsed; composed = a.composed; final = a.answer.1.responds.head_is }
has_head method block opening head (Same number) a = record { parsed = a.answer.1.parsed; composed = a.composed; final = a.answer.1.tells.head_is }
has_head method block opening head (Cut wire) a = record { parsed = a.answer.1.responds.parsed; composed = a.composed; final = a.answer.1.responds.head_is }

module _ (ends : ResponseHeadsEnd) (method block : List ℕ) (opening : Opening) (parts : Parts) (are : AreParts parts)
    (composed : block ≡ parts.head.now ++ parts.wire.now) where
  -- the parts are those of the answer
  same_parts : (head : List ℕ) (kept : Kept) → HasHead block head kept → (head ≡ parts.head.now) × (kept_wire kept ≡ parts.wire.now)
  same_parts head kept has =
      one_split ends block head (kept_wire kept) parts.head.now parts.wire.now has.parsed are.holds.0 has.final.whole are.holds.1.reads has.composed composed

  pub no_revisit : (refers : Refers) → opening.same ≡ Some refers → (TellsOfBody method parts → ⊥)
      → (head : List ℕ) (kept : Kept) → IsAnswerOf method block opening head kept → ⊥
  no_revisit refers is none head (Wire wire) a =
      some_is_no_none (reference_of refers) (opening_of opening).same (ap (option_map reference_of) is) a.answer.0
  no_revisit refers is none head (Cut wire) a =
      some_is_no_none (reference_of refers) (opening_of opening).same (ap (option_map reference_of) is) a.answer.0
  no_revisit refers is none head (Same number) a =
      let same = same_parts head (Same number) (has_head method block opening head (Same number) a) in
      none (
        a.answer.1.parsed,
        a.answer.1.framing,
        sym same.1,
        subst (λ h. TellsBody method h a.answer.1.parsed a.answer.1.framing) same.0 a.answer.1.tells,
      )

  no_same : opening.same ≡ None → (r : Reference) → (opening_of opening).same ≡ Some r → ⊥
  no_same none r is = some_is_no_none r (opening_of opening).same is (ap (option_map reference_of) none)

  true_is_not_false : (b : Bool) → true ≡ b → b ≡ false → ⊥
  true_is_not_false b p q = cc

  false_is_not_true : (b : Bool) → false ≡ b → b ≡ true → ⊥
  false_is_not_true b p q = cc

  pub no_whole : opening.same ≡ None → opening.cut ≡ false
      → (IsResponse false method parts.head.now parts.wire.now opening.digest → ⊥)
      → (head : List ℕ) (kept : Kept) → IsAnswerOf method block opening head kept → ⊥
  no_whole none uncut no_response head (Wire wire) a =
      let same = same_parts head (Wire wire) (has_head method block opening head (Wire wire) a) in
      no_response (subst (λ w. IsResponse false method parts.head.now w opening.digest) same.1
      (subst (λ h. IsResponse false method h wire opening.digest) same.0 a.answer.1))
  no_whole none uncut no_response head (Cut wire) a = true_is_not_false opening.cut a.cut_is uncut
  no_whole none uncut no_response head (Same number) a = no_same none a.answer.1.reference a.answer.1.refers

  pub no_cut : opening.same ≡ None → opening.cut ≡ true
      → (IsResponse true method parts.head.now parts.wire.now opening.digest → ⊥)
      → (head : List ℕ) (kept : Kept) → IsAnswerOf method block opening head kept → ⊥
  no_cut none cut no_response head (Cut wire) a =
      let same = same_parts head (Cut wire) (has_head method block opening head (Cut wire) a) in
      no_response (subst (λ w. IsResponse true method parts.head.now w opening.digest) same.1
      (subst (λ h. IsResponse true method h wire opening.digest) same.0 a.answer.1))
  no_cut none cut no_response head (Wire wire) a = false_is_not_true opening.cut a.cut_is cut
  no_cut none cut no_response head (Same number) a = no_same none a.answer.1.reference a.answer.1.refers
