-- The head of a response at the front of a block.
use Rattle.std.proofs.Common.{◌≡◌, ℕ, ◌<◌, ◌≤◌, ◌^◌, Bool, false, eqb, ltb, List, [], ◌∷◌, ◌++◌, length, take, drop, Some, Ok, Err, append-nil, refl, sym, ap, ◌∙◌, arith}
use Rattle.std.specs.Prelude.{Result}
use Rattle.std.proofs.lemmas.Bool.{cond_both, ltb-false}
use Rattle.std.proofs.lemmas.List.{take_at}
use Rattle.httparse.specs.Grammar as grammar
use Rattle.httparse.specs.Grammar.{print_response, print_blank, print_version, print_reason, print_end, print_section, status_code}
use Rattle.httparse.proofs.GrammarLemmas.{response_unique}
use Rattle.capture.specs.Body.{IsBody, IsCutWire}
use Rattle.capture.specs.Fields.{named_values}
use Rattle.capture.specs.Framing.{framing_of_response, response_framing}
use Rattle.capture.specs.Head.{head_end, line_ends_len}
use Rattle.capture.specs.HeadLaws.{ResponseHeadsEnd}
use Rattle.capture.specs.Message.{BeginsWithResponse, IsResponseHeadText}
use Rattle.capture.specs.WellFormed.{IsFinalHead}
use Rattle.capture.specs.declared.framing.Framing.{Framing}
use Rattle.capture.specs.declared.framing.Framing.TheVariants.{Empty, Length, Chunked, ToEnd}
use Rattle.capture.specs.declared.framing.FramingFault.{FramingFault}
use Rattle.capture.specs.declared.framing.FramingFault.TheVariants.{Malformed, CodingRefused}
use Rattle.http_head.specs.Heads.{HoldsResponseParts, HoldsResponse, minor_of}
use Rattle.http_head.specs.declared.head.ResponseHead.{ResponseHead}
use Rattle.http_head.specs.declared.head.WireFault.{WireFault}
use Rattle.http_head.specs.declared.head.WireFault.TheVariants as wire
use Rattle.message_body.specs.Framings.{framing_answer, told_by_response}
use Rattle.warc_text.proofs.Fronts.{fronts}

-- ---- heads

-- a head that is read alone is read the same with a rest behind it
pub begins_with_rest : (front : List ℕ) (h : grammar.ResponseHead) (rest : List ℕ) → IsResponseHeadText front h
    → BeginsWithResponse (front ++ rest) h rest
begins_with_rest front h rest is = record {
  reads = (is.reads.0, ap (λ t. t ++ rest) (is.reads.1 ∙ append-nil (print_response h)));
  at_once = is.at_once;
  status = is.status;
  no_switch = is.no_switch;
}

printed : (front : List ℕ) (h : grammar.ResponseHead) → IsResponseHeadText front h → front ≡ print_response h
printed front h is = is.reads.1 ∙ append-nil (print_response h)

-- a head that stands first ends there
pub ends_there : ResponseHeadsEnd → (block front rest : List ℕ) (h : grammar.ResponseHead) → IsResponseHeadText front h → block ≡ front ++ rest
    → head_end block ≡ Some (length front)
ends_there ends block front rest h is composed =
    ap head_end composed ∙ ends (front ++ rest) h rest (begins_with_rest front h rest is) ∙ ap (λ t. Some (length t)) (sym (printed front h is))

some_same : (a b : ℕ) → Some a ≡ Some b → a ≡ b
some_same a b e = cc

-- a block splits behind its head in one way
pub one_split : ResponseHeadsEnd → (block a x b y : List ℕ) (h k : grammar.ResponseHead) → IsResponseHeadText a h → IsResponseHeadText b k
    → block ≡ a ++ x → block ≡ b ++ y → (a ≡ b) × (x ≡ y)
one_split ends block a x b y h k is is_too p q =
    let lens : length a ≡ length b = some_same (length a) (length b) (sym (ends_there ends block a x h is p) ∙ ends_there ends block b y k is_too q) in
    fronts a b x y lens (sym p ∙ q)

pub one_head : (front : List ℕ) (h k : grammar.ResponseHead) → IsResponseHeadText front h → IsResponseHeadText front k → h ≡ k
one_head front h k x y = (response_unique front h k [] [] x.reads y.reads).0

-- where the head ends
pub split_there : ResponseHeadsEnd → (block front rest : List ℕ) (end : ℕ) (h : grammar.ResponseHead) → IsResponseHeadText front h
    → block ≡ front ++ rest → Some end ≡ head_end block → take end block ≡ front
split_there ends block front rest end h is composed found =
    let lens : length front ≡ end = some_same (length front) end (sym (ends_there ends block front rest h is composed) ∙ sym found) in
    ap (take end) composed ∙ take_at front rest end lens

-- the head of these parts ends where it ends
pub parts_end : ResponseHeadsEnd → (front : List ℕ) (parsed : ResponseHead) → HoldsResponse front parsed → head_end front ≡ Some (length front)
parts_end ends front parsed holds = ends_there ends front front [] holds.0 holds.1.reads (sym (append-nil front))

-- ---- a final head

-- a final head there has a final status
pub final_status : (front : List ℕ) (parsed : ResponseHead) (h : grammar.ResponseHead) → HoldsResponse front parsed → IsFinalHead front h
    → 200 ≤ parsed.status
final_status front parsed h holds final =
    let same : holds.0 ≡ h = one_head front holds.0 h holds.1.reads final.whole in
    omega (arith, holds.1.status, ap status_code same, final.final)

-- the parts are of a final head
pub final_head : (front : List ℕ) (parsed : ResponseHead) → (holds : HoldsResponse front parsed) → 200 ≤ parsed.status → IsFinalHead front holds.0
final_head front parsed holds final = record { whole = holds.1.reads; final = omega (arith, holds.1.status, final) }

-- ---- what it tells of the body

parts_tell : (answers_head : Bool) (front : List ℕ) (h : grammar.ResponseHead) (parsed : ResponseHead) → HoldsResponseParts front h parsed
    → response_framing answers_head h ≡ told_by_response answers_head parsed
parts_tell answers_head front h parsed of =
    ap (λ m. framing_of_response answers_head m (status_code h) (named_values h.fields)) (sym of.version)
    ∙ ap (λ s. framing_of_response answers_head (minor_of parsed.version) s (named_values h.fields)) (sym of.status)
    ∙ ap (λ fields. framing_of_response answers_head (minor_of parsed.version) parsed.status fields) (sym of.fields)

-- each reading of the head tells what the parts tell
pub told_by_parts : (answers_head : Bool) (front : List ℕ) (parsed : ResponseHead) (h : grammar.ResponseHead) → HoldsResponse front parsed
    → IsResponseHeadText front h → response_framing answers_head h ≡ told_by_response answers_head parsed
told_by_parts answers_head front parsed h holds is =
    ap (response_framing answers_head) (one_head front h holds.0 is holds.1.reads) ∙ parts_tell answers_head front holds.0 parsed holds.1

abbrev Told : Type 0
Told = Result Framing FramingFault

abbrev Said : Type 0
Said = Result Framing WireFault

abbrev telling : Framing → Told
telling framing = Ok framing

abbrev said_ok : Framing → Said
said_ok framing = Ok framing

abbrev said_err : WireFault → Said
said_err fault = Err fault

ok_is_no_err : (framing : Framing) (fault : WireFault) → said_ok framing ≡ said_err fault → ⊥
ok_is_no_err framing fault e = cc

same_framing : (a b : Framing) → said_ok a ≡ said_ok b → b ≡ a
same_framing a b e = cc

pub one_framing : (a b : Framing) → telling a ≡ telling b → a ≡ b
one_framing a b e = cc

-- an answer that is a framing was told
pub ok_was_told : (told : Told) (framing : Framing) → said_ok framing ≡ framing_answer told → told ≡ telling framing
ok_was_told (Ok Empty) framing e = ap telling (same_framing framing Empty e)
ok_was_told (Ok (Length n)) framing e =
    cond_both (ltb n (2 ^ 64)) (said_ok (Length n)) (said_err wire.BodyTooLong)
    (λ a. said_ok framing ≡ a → telling (Length n) ≡ telling framing)
    (λ _ d. ap telling (same_framing framing (Length n) d)) (λ _ d. absurd (ok_is_no_err framing wire.BodyTooLong d)) e
ok_was_told (Ok Chunked) framing e = ap telling (same_framing framing Chunked e)
ok_was_told (Ok ToEnd) framing e = ap telling (same_framing framing ToEnd e)
ok_was_told (Err Malformed) framing e = absurd (ok_is_no_err framing wire.Malformed e)
ok_was_told (Err CodingRefused) framing e = absurd (ok_is_no_err framing wire.CodingRefused e)

-- a framing that isn't answered has a length that no slice has
pub no_such_body : (told : Told) (framing : Framing) (text : List ℕ) (fault : WireFault) → said_err fault ≡ framing_answer told → told ≡ telling framing
    → length text < 2 ^ 64 → IsBody framing text → ⊥
no_such_body told framing text fault e is short body = at framing (e ∙ ap framing_answer is) body
  where
    at : (f : Framing) → said_err fault ≡ framing_answer (telling f) → IsBody f text → ⊥
    at Empty d b = ok_is_no_err Empty fault (sym d)
    at (Length n) d b =
        cond_both (ltb n (2 ^ 64)) (said_ok (Length n)) (said_err wire.BodyTooLong) (λ a. said_err fault ≡ a → ⊥)
        (λ _ p. ok_is_no_err (Length n) fault (sym p)) (λ large _. absurd (omega (arith, ltb-false n (2 ^ 64) large, b, short))) d
    at Chunked d b = ok_is_no_err Chunked fault (sym d)
    at ToEnd d b = ok_is_no_err ToEnd fault (sym d)

-- and no cut body has so great a length
pub no_such_cut : (told : Told) (framing : Framing) (text : List ℕ) (fault : WireFault) → said_err fault ≡ framing_answer told → told ≡ telling framing
    → IsCutWire framing text → ⊥
no_such_cut told framing text fault e is body = at framing (e ∙ ap framing_answer is) body
  where
    at : (f : Framing) → said_err fault ≡ framing_answer (telling f) → IsCutWire f text → ⊥
    at Empty d b = b
    at (Length n) d b =
        cond_both (ltb n (2 ^ 64)) (said_ok (Length n)) (said_err wire.BodyTooLong) (λ a. said_err fault ≡ a → ⊥)
        (λ _ p. ok_is_no_err (Length n) fault (sym p)) (λ large _. absurd (omega (arith, ltb-false n (2 ^ 64) large, b.1))) d
    at Chunked d b = ok_is_no_err Chunked fault (sym d)
    at ToEnd d b = b

-- ---- a head begins at once

no_line_ends : (b c : ℕ) (others : List ℕ) → eqb b 10 ≡ false → eqb b 13 ≡ false → line_ends_len (b ∷ c ∷ others) ≡ 0
no_line_ends b c others no_lf no_cr = rw (no_lf, no_cr) refl

-- without line ends before it a response head begins with its version
at_once : (h : grammar.ResponseHead) → h.blank ≡ []
    → print_response h ≡ print_version h.minor ++ 32 ∷ h.digits ++ print_reason h.reason ++ print_end h.line_end ++ print_section h.fields h.last
unfolding print_response
at_once h none =
    ap (λ blank. print_blank blank ++ print_version h.minor ++ 32 ∷ h.digits ++ print_reason h.reason ++ print_end h.line_end
    ++ print_section h.fields h.last) none

-- what stands behind its first two letters
abbrev line_rest : grammar.ResponseHead → List ℕ
line_rest h =
    drop 2 (print_version h.minor ++ 32 ∷ h.digits ++ print_reason h.reason ++ print_end h.line_end ++ print_section h.fields h.last)

pub begins_at_once : (front : List ℕ) (h : grammar.ResponseHead) → IsResponseHeadText front h → line_ends_len front ≡ 0
begins_at_once front h is =
    ap line_ends_len (printed front h is ∙ at_once h is.at_once) ∙ no_line_ends 72 84 (line_rest h) refl refl
