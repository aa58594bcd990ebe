-- What the parser's answers say of a text that is to be one whole head.
use Rattle.std.proofs.Common.{◌≡◌, ◌≢◌, ℕ, ◌≤◌, List, [], ◌++◌, length, take, drop, Ok, sym, ap, subst, ◌∙◌, arith, append-nil}
use Rattle.std.specs.Prelude.{IsAscii}
use Rattle.std.proofs.lemmas.List.{drop_all}
use Rattle.httparse.specs.declared.Status.TheVariants.{Complete}
use Rattle.httparse.specs.declared.spans.HeaderSpan.{HeaderSpan}
use Rattle.httparse.specs.declared.spans.RequestSpans.{RequestSpans}
use Rattle.httparse.specs.declared.spans.ResponseSpans.{ResponseSpans}
use Rattle.httparse.specs.Grammar.{RequestHead, ReadsRequest, print_request, ResponseHead, ReadsResponse, print_response}
use Rattle.httparse.specs.Spans.{span_bytes, IsRequestOf, IsResponseOf, FindsRequest, FindsResponse, RequestOverflows, ResponseOverflows}
use Rattle.capture.specs.Head.{line_ends_len}
use Rattle.capture.specs.Message.{IsRequestHeadText, IsResponseHeadText}
use Rattle.http_head.specs.steps.HeadSpans.{SpansRequest, SpansResponse, HasAsciiNames}
use Rattle.http_head.proofs.GrammarLaws.{line_feeds, token_is_ascii, names_are_ascii, request_at_once, request_no_line_end, request_line_feeds, response_at_once, response_no_line_end, response_line_feeds}

-- ---- requests

pub not_request_behind_line_end : (text : List ℕ) → line_ends_len text ≢ 0 → (h : RequestHead)
    → IsRequestHeadText text h → ⊥
not_request_behind_line_end text some h is =
    some (ap line_ends_len is.reads.1 ∙ request_no_line_end h [] is.reads.0 is.at_once)

pub spans_request : (text : List ℕ) (headers : List HeaderSpan) (spans : RequestSpans) → line_ends_len text ≡ 0
    → spans.len ≡ length text → IsRequestOf text headers spans → SpansRequest text headers spans
spans_request text headers spans none whole of =
    let h = of.0 in
    let reads = of.1.reads in
    let rest : drop spans.len text ≡ [] = drop_all spans.len text (omega (arith, whole)) in (
      h,
      record {
        reads = (reads.0, reads.1 ∙ ap (λ r. print_request h ++ r) rest);
        at_once = request_at_once h (drop spans.len text) (ap line_ends_len (sym reads.1) ∙ none);
      },
      of.1,
    )

request_room : (text : List ℕ) (h : RequestHead) → IsRequestHeadText text h → length h.fields ≤ line_feeds text
request_room text h is =
    subst (λ t. length h.fields ≤ line_feeds t) (sym is.reads.1) (request_line_feeds h [])

pub not_request_of_other_len : (text : List ℕ) (room : ℕ) (headers : List HeaderSpan) (spans : RequestSpans)
    → FindsRequest text room headers (Ok (Complete spans)) → room ≡ line_feeds text → spans.len ≢ length text
    → (h : RequestHead) → IsRequestHeadText text h → ⊥
not_request_of_other_len text room headers spans finds enough other h is =
    let at = finds h [] is.reads (omega (arith, request_room text h is, enough)) in
    let whole : length text ≡ length (print_request h) =
    ap length is.reads.1 ∙ ap length (append-nil (print_request h)) in
    other (at.len ∙ sym whole)

pub not_request_without_room : (text : List ℕ) (room : ℕ) → RequestOverflows room text → room ≡ line_feeds text
    → (h : RequestHead) → IsRequestHeadText text h → ⊥
not_request_without_room text room overflows enough h is =
    let reads : ReadsRequest (text ++ []) h [] = (is.reads.0, append-nil text ∙ is.reads.1) in
    absurd (omega (arith, overflows [] h [] reads, request_room text h is, enough))

pub request_method_is_ascii : (text : List ℕ) (headers : List HeaderSpan) (spans : RequestSpans)
    → SpansRequest text headers spans → IsAscii (span_bytes text spans.method)
request_method_is_ascii text headers spans of =
    subst IsAscii (sym of.2.method) (token_is_ascii of.0.method of.2.reads.0.method)

pub request_names_are_ascii : (text : List ℕ) (headers : List HeaderSpan) (spans : RequestSpans)
    → SpansRequest text headers spans → HasAsciiNames text (take spans.headers headers)
request_names_are_ascii text headers spans of =
    names_are_ascii text (take spans.headers headers) of.0.fields of.2.fields of.2.reads.0.fields

-- ---- responses

pub not_response_behind_line_end : (text : List ℕ) → line_ends_len text ≢ 0 → (h : ResponseHead)
    → IsResponseHeadText text h → ⊥
not_response_behind_line_end text some h is =
    some (ap line_ends_len is.reads.1 ∙ response_no_line_end h [] is.at_once)

pub spans_response : (text : List ℕ) (headers : List HeaderSpan) (spans : ResponseSpans) → line_ends_len text ≡ 0
    → spans.len ≡ length text → 100 ≤ spans.code → spans.code ≢ 101 → IsResponseOf text headers spans
    → SpansResponse text headers spans
spans_response text headers spans none whole low switch of =
    let h = of.0 in
    let reads = of.1.reads in
    let rest : drop spans.len text ≡ [] = drop_all spans.len text (omega (arith, whole)) in (
      h,
      record {
        reads = (reads.0, reads.1 ∙ ap (λ r. print_response h ++ r) rest);
        at_once = response_at_once h (drop spans.len text) (ap line_ends_len (sym reads.1) ∙ none);
        status = subst (λ n. 100 ≤ n) of.1.code low;
        no_switch = λ e. switch (of.1.code ∙ e);
      },
      of.1,
    )

response_room : (text : List ℕ) (h : ResponseHead) → IsResponseHeadText text h → length h.fields ≤ line_feeds text
response_room text h is =
    subst (λ t. length h.fields ≤ line_feeds t) (sym is.reads.1) (response_line_feeds h [])

-- the parser's answer isn't that of a response head that is taken
pub record IsOtherResponse (text : List ℕ) (spans : ResponseSpans) : Type 0 where
  pub no : spans.len ≡ length text → 100 ≤ spans.code → spans.code ≢ 101 → ⊥

pub not_response_of_other : (text : List ℕ) (room : ℕ) (headers : List HeaderSpan) (spans : ResponseSpans)
    → FindsResponse text room headers (Ok (Complete spans)) → room ≡ line_feeds text → IsOtherResponse text spans
    → (h : ResponseHead) → IsResponseHeadText text h → ⊥
not_response_of_other text room headers spans finds enough other h is =
    let at = finds h [] is.reads (omega (arith, response_room text h is, enough)) in
    let whole : length text ≡ length (print_response h) =
    ap length is.reads.1 ∙ ap length (append-nil (print_response h)) in
    other.no (at.len ∙ sym whole) (subst (λ n. 100 ≤ n) (sym at.code) is.status) (λ e. is.no_switch (sym at.code ∙ e))

pub not_response_without_room : (text : List ℕ) (room : ℕ) → ResponseOverflows room text → room ≡ line_feeds text
    → (h : ResponseHead) → IsResponseHeadText text h → ⊥
not_response_without_room text room overflows enough h is =
    let reads : ReadsResponse (text ++ []) h [] = (is.reads.0, append-nil text ∙ is.reads.1) in
    absurd (omega (arith, overflows [] h [] reads, response_room text h is, enough))

pub response_names_are_ascii : (text : List ℕ) (headers : List HeaderSpan) (spans : ResponseSpans)
    → SpansResponse text headers spans → HasAsciiNames text (take spans.headers headers)
response_names_are_ascii text headers spans of =
    names_are_ascii text (take spans.headers headers) of.0.fields of.2.fields of.2.reads.0.fields
