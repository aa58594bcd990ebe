-- A text that is one whole request.
use Rattle.std.proofs.Common.{◌≡◌, ℕ, ◌^◌, ◌<◌, false, ltb, List, [], ◌++◌, length, take, drop, Some, None, Ok, Err, sym, ap, subst, ◌∙◌, arith}
use Rattle.std.specs.Prelude.{Result}
use Rattle.std.proofs.lemmas.Bool.{cond_both, ltb-false}
use Rattle.std.proofs.lemmas.List.{append-nil, take_at, drop_at}
use Rattle.httparse.specs.Grammar as grammar
use Rattle.httparse.proofs.GrammarLemmas.{request_unique}
use Rattle.capture.specs.Body.{IsBody}
use Rattle.capture.specs.Fields.{named_values}
use Rattle.capture.specs.Framing.{framing_of_request, request_framing}
use Rattle.capture.specs.Head.{head_end}
use Rattle.capture.specs.HeadLaws.{RequestHeadsEnd}
use Rattle.capture.specs.Message.{BeginsWithRequest, IsRequestHeadText, IsWholeRequest}
use Rattle.capture.specs.Payload.{IsPayload}
use Rattle.capture.specs.declared.framing.Framing.{Framing}
use Rattle.capture.specs.declared.framing.FramingFault.{FramingFault}
use Rattle.capture.specs.declared.framing.Framing.TheVariants.{Empty, Length, Chunked, ToEnd}
use Rattle.http_head.specs.Heads.{HoldsRequestParts, HoldsRequest, minor_of}
use Rattle.http_head.specs.declared.head.RequestHead.{RequestHead}
use Rattle.http_head.specs.declared.head.RequestMessage.{RequestMessage}
use Rattle.http_head.specs.declared.head.WireFault.{WireFault}
use Rattle.http_head.specs.declared.head.WireFault.TheVariants.{BodyTooLong}
use Rattle.message_body.specs.Framings.{framing_answer, told_by_request}
use Rattle.whole_request.specs.WholeRequests.{IsRequestText}
use Rattle.message_body.proofs.ToldFramings.{ok_was_told}

-- a head that is read alone is read the same with a rest behind it
pub begins_with_rest : (front : List ℕ) (h : grammar.RequestHead) (rest : List ℕ) → IsRequestHeadText front h
    → BeginsWithRequest (front ++ rest) h rest
begins_with_rest front h rest reads = record {
  reads = (reads.reads.0, ap (λ t. t ++ rest) (reads.reads.1 ∙ append-nil (grammar.print_request h)));
  at_once = reads.at_once;
}

-- the parts of a head tell what the head tells
pub parts_tell : (front : List ℕ) (h : grammar.RequestHead) (head : RequestHead) → HoldsRequestParts front h head
    → request_framing h ≡ told_by_request head
parts_tell front h head of =
    ap (λ m. framing_of_request m (named_values h.fields)) (sym of.version)
    ∙ ap (λ fields. framing_of_request (minor_of head.version) fields) (sym of.fields)

pub request_text : (front wire : List ℕ) (head : RequestHead) (framing : Framing) (payload : List ℕ) → HoldsRequest front head
    → Ok framing ≡ framing_answer (told_by_request head) → IsBody framing wire → IsPayload false framing wire payload
    → IsRequestText (front ++ wire) (record { head = head; framing = framing; payload = payload })
request_text front wire head framing payload holds told body decoded =
    let h = holds.0 in
    let of = holds.1 in
    record {
      h = h;
      wire = wire;
      whole = record {
        head = begins_with_rest front h wire of.reads;
        framed = parts_tell front h head of ∙ ok_was_told (told_by_request head) framing told;
        body = body;
      };
      parts = subst (λ t. HoldsRequestParts t h head) (sym of.text_is) of;
      payload = decoded;
    }

-- ---- a text that is none

some_same : (a b : ℕ) → Some a ≡ Some b → a ≡ b
some_same a b e = cc

none_is_not_some : (n : ℕ) → None ≡ Some n → ⊥
none_is_not_some n e = cc

-- one head has one reading
pub same_head : (front : List ℕ) (h k : grammar.RequestHead) → IsRequestHeadText front h → IsRequestHeadText front k → h ≡ k
same_head front h k x y = (request_unique front h k [] [] x.reads y.reads).0

abbrev told_framing : Framing → Result Framing WireFault
told_framing framing = Ok framing

-- so the framing that was read is the one that it tells
pub same_told : (front : List ℕ) (head : RequestHead) (h : grammar.RequestHead) (framing : Framing) → HoldsRequest front head
    → IsRequestHeadText front h → request_framing h ≡ Ok framing → told_by_request head ≡ Ok framing
same_told front head h framing holds reads told =
    let same = same_head front h holds.0 reads holds.1.reads in
    sym (parts_tell front holds.0 head holds.1) ∙ sym (ap request_framing same) ∙ told

abbrev told_fault : WireFault → Result Framing WireFault
told_fault fault = Err fault

ok_is_no_err : (framing : Framing) (fault : WireFault) → told_framing framing ≡ told_fault fault → ⊥
ok_is_no_err framing fault e = cc

-- a framing that isn't answered has a length that no slice has
no_such_body : (framing : Framing) (wire : List ℕ) (fault : WireFault) → told_fault fault ≡ framing_answer (Ok framing) → length wire < 2 ^ 64
    → IsBody framing wire → ⊥
no_such_body Empty wire fault e short body = ok_is_no_err Empty fault (sym e)
no_such_body (Length n) wire fault e short body =
    cond_both (ltb n (2 ^ 64)) (told_framing (Length n)) (told_fault BodyTooLong) (λ a. told_fault fault ≡ a → ⊥)
    (λ _ d. ok_is_no_err (Length n) fault (sym d)) (λ large _. absurd (omega (arith, ltb-false n (2 ^ 64) large, body, short))) e
no_such_body Chunked wire fault e short body = ok_is_no_err Chunked fault (sym e)
no_such_body ToEnd wire fault e short body = ok_is_no_err ToEnd fault (sym e)

pub untold : (front wire : List ℕ) (head : RequestHead) (fault : WireFault) (h : grammar.RequestHead) (framing : Framing)
    → HoldsRequest front head → told_fault fault ≡ framing_answer (told_by_request head) → length wire < 2 ^ 64
    → IsRequestHeadText front h → request_framing h ≡ Ok framing → IsBody framing wire → ⊥
untold front wire head fault h framing holds answer short reads told body =
    no_such_body framing wire fault (answer ∙ ap framing_answer (same_told front head h framing holds reads told)) short body

abbrev tells_framing : Framing → Result Framing FramingFault
tells_framing framing = Ok framing

pub one_framing : (a b : Framing) → tells_framing a ≡ tells_framing b → a ≡ b
one_framing a b e = cc

pub bodiless : (front wire : List ℕ) (head : RequestHead) (read : Framing) (h : grammar.RequestHead) (framing : Framing)
    → HoldsRequest front head → Ok read ≡ framing_answer (told_by_request head) → (IsBody read wire → ⊥)
    → IsRequestHeadText front h → request_framing h ≡ Ok framing → IsBody framing wire → ⊥
bodiless front wire head read h framing holds answer none reads told body =
    let is : told_by_request head ≡ tells_framing framing = same_told front head h framing holds reads told in
    let was : told_by_request head ≡ tells_framing read = ok_was_told (told_by_request head) read answer in
    none (subst (λ f. IsBody f wire) (one_framing framing read (sym is ∙ was)) body)

-- a text splits at its head's end
pub split_request : RequestHeadsEnd → (text : List ℕ) (end : ℕ) (h : grammar.RequestHead) (framing : Framing) (wire : List ℕ)
    → Some end ≡ head_end text → IsWholeRequest text h framing wire
    → IsRequestHeadText (take end text) h × (wire ≡ drop end text)
split_request ends text end h framing wire found whole =
    let begins = whole.head in
    let print = grammar.print_request h in
    let len : length print ≡ end = some_same (length print) end (sym (ends text h wire begins) ∙ sym found) in
    let front : take end text ≡ print = ap (take end) begins.reads.1 ∙ take_at print wire end len in
    let rest : drop end text ≡ wire = ap (drop end) begins.reads.1 ∙ drop_at print wire end len in (
      record {
        reads = (begins.reads.0, front ∙ sym (append-nil print));
        at_once = begins.at_once;
      },
      sym rest,
    )

pub endless : RequestHeadsEnd → (text : List ℕ) (h : grammar.RequestHead) (framing : Framing) (wire : List ℕ)
    → None ≡ head_end text → IsWholeRequest text h framing wire → ⊥
endless ends text h framing wire none whole = none_is_not_some (length (grammar.print_request h)) (none ∙ ends text h wire whole.head)

abbrev request_err : WireFault → Result RequestMessage WireFault
request_err fault = Err fault

pub same_err : (a b : WireFault) → request_err a ≡ request_err b → a ≡ b
same_err a b e = cc
