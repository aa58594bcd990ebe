-- A head of the grammar that begins at once ends exactly at the first empty line.
use Rattle.std.proofs.Common.{◌≡◌, ℕ, ◌+◌, ◌≤◌, false, eqb, List, [], ◌∷◌, ◌++◌, length, Option, Some, None, refl, sym, ap, subst, ◌∙◌, arith, append_assoc, length-append}
use Rattle.std.specs.Prelude.{All, codes}
use Rattle.std.proofs.lemmas.Bool.{ne_eqb}
use Rattle.std.proofs.lemmas.List.Elements.{All-cons, All-nil, All-append}
use Rattle.httparse.specs.Grammar.{LineEnd, print_end, print_blank, print_version, Field, IsField, print_section, RequestHead, IsRequestHead, print_request, ResponseHead, IsResponseHead, print_response, print_reason, reason_phrase, AllPass, is_value_byte}
use Rattle.url.proofs.InputLemmas.{All_from_list_all}
use Rattle.capture.specs.Head.{head_end, head_len, line_ends_len}
use Rattle.capture.specs.HeadLaws.{RequestHeadsEnd, ResponseHeadsEnd}
use Rattle.capture.specs.Message.{BeginsWithResponse}
use Rattle.capture.proofs.LineFeeds.{HasNoLf, further, further-zero, head_len-past, head_len-section, token_without_lf, uri_without_lf, value_without_lf, digits_without_lf, BeginsPlain, token_begins_plain}

-- a start line without LF, its line end, and a section
ends_behind : (line : List ℕ) (e : LineEnd) (fields : List Field) (last : LineEnd) (rest : List ℕ) → HasNoLf line → All IsField fields
    → head_len ((line ++ print_end e ++ print_section fields last) ++ rest) ≡ Some (length (line ++ print_end e ++ print_section fields last))
ends_behind line e fields last rest none all =
    let section = print_section fields last in
    let text : (line ++ print_end e ++ section) ++ rest ≡ line ++ (print_end e ++ (section ++ rest)) = simp append_assoc in
    let len : length line + (length (print_end e) + length section) ≡ length (line ++ print_end e ++ section) =
    omega (arith, length-append (line ++ print_end e) section, length-append line (print_end e)) in
    ap head_len text ∙ head_len-past line (print_end e ++ (section ++ rest)) none
    ∙ ap (further (length line)) (head_len-section e fields last rest all) ∙ ap Some len

-- a text that begins with a plain byte has no line ends before it
no_line_ends : (text : List ℕ) → BeginsPlain text → line_ends_len text ≡ 0
no_line_ends text begins =
    subst (λ t. line_ends_len t ≡ 0) (sym begins.composed) (first_is_plain begins.byte begins.others begins.plain.no_lf begins.plain.no_cr)
  where
    first_is_plain : (b : ℕ) (others : List ℕ) → eqb b 10 ≡ false → eqb b 13 ≡ false → line_ends_len (b ∷ others) ≡ 0
    first_is_plain b [] no_lf no_cr = rw no_lf refl
    first_is_plain b (c ∷ others) no_lf no_cr = rw (no_lf, no_cr) refl

-- so the head's end is the text's first empty line
head_end-plain : (text : List ℕ) → BeginsPlain text → head_end text ≡ head_len text
head_end-plain text begins = rw (no_line_ends text begins) (further-zero (head_len text))

-- a head whose line ends in a plain beginning ends with its section
head_ends : (line : List ℕ) (e : LineEnd) (fields : List Field) (last : LineEnd) (rest : List ℕ) → HasNoLf line
    → BeginsPlain ((line ++ print_end e ++ print_section fields last) ++ rest) → All IsField fields
    → head_end ((line ++ print_end e ++ print_section fields last) ++ rest) ≡ Some (length (line ++ print_end e ++ print_section fields last))
head_ends line e fields last rest none plain all = head_end-plain _ plain ∙ ends_behind line e fields last rest none all

-- ---- requests

version_without_lf : (minor : ℕ) → minor ≤ 1 → HasNoLf (print_version minor)
version_without_lf minor is =
    All-append (λ b. eqb b 10 ≡ false) (codes "HTTP/1.") ((48 + minor) ∷ [])
    (value_without_lf (codes "HTTP/1.") (All_from_list_all is_value_byte (codes "HTTP/1.") refl))
    (All-cons (λ b. eqb b 10 ≡ false) (48 + minor) [] (ne_eqb (48 + minor) 10 (λ e. absurd (omega (arith, e)))) (All-nil _))

-- the first line of a request
abbrev request_line : RequestHead → List ℕ
request_line h = h.method ++ 32 ∷ h.target ++ 32 ∷ print_version h.minor

request_line_without_lf : (h : RequestHead) → IsRequestHead h → HasNoLf (request_line h)
request_line_without_lf h is =
    let no_lf : ℕ → Type 0 = λ b. eqb b 10 ≡ false in
    All-append no_lf (h.method ++ 32 ∷ h.target) (32 ∷ print_version h.minor)
    (All-append no_lf h.method (32 ∷ h.target) (token_without_lf h.method is.method.1)
    (All-cons no_lf 32 h.target refl (uri_without_lf h.target is.target.1)))
    (All-cons no_lf 32 (print_version h.minor) refl (version_without_lf h.minor is.minor))

-- without line ends before it a request head is its line and its section
request_at_once : (h : RequestHead) → h.blank ≡ []
    → print_request h ≡ request_line h ++ print_end h.line_end ++ print_section h.fields h.last
unfolding print_request
request_at_once h at_once =
    ap (λ blank. print_blank blank ++ h.method ++ 32 ∷ h.target ++ 32 ∷ print_version h.minor ++ print_end h.line_end
    ++ print_section h.fields h.last) at_once

method_first : (method target version end section rest : List ℕ)
    → ((method ++ target ++ version) ++ end ++ section) ++ rest ≡ method ++ (target ++ version ++ end ++ section ++ rest)
method_first method target version end section rest = simp append_assoc

pub request_heads_end : RequestHeadsEnd
request_heads_end text h rest begins =
    let is = begins.reads.0 in
    let head = request_at_once h begins.at_once in
    let section = print_section h.fields h.last in
    let front = method_first h.method (32 ∷ h.target) (32 ∷ print_version h.minor) (print_end h.line_end) section rest in
    let plain = subst BeginsPlain (sym front) (token_begins_plain h.method _ is.method) in
    ap head_end begins.reads.1 ∙ ap (λ t. head_end (t ++ rest)) head
    ∙ head_ends (request_line h) h.line_end h.fields h.last rest (request_line_without_lf h is) plain is.fields
    ∙ ap (λ t. Some (length t)) (sym head)

-- ---- responses

-- the first line of a response
abbrev response_line : ResponseHead → List ℕ
response_line h = print_version h.minor ++ 32 ∷ h.digits ++ print_reason h.reason

reason_without_lf : (reason : Option (List ℕ)) → AllPass is_value_byte (reason_phrase reason) → HasNoLf (print_reason reason)
reason_without_lf None is = All-nil _
reason_without_lf (Some phrase) is = All-cons (λ b. eqb b 10 ≡ false) 32 phrase refl (value_without_lf phrase is)

response_line_without_lf : (h : ResponseHead) → IsResponseHead h → HasNoLf (response_line h)
response_line_without_lf h is =
    let no_lf : ℕ → Type 0 = λ b. eqb b 10 ≡ false in
    All-append no_lf (print_version h.minor ++ 32 ∷ h.digits) (print_reason h.reason)
    (All-append no_lf (print_version h.minor) (32 ∷ h.digits) (version_without_lf h.minor is.minor)
    (All-cons no_lf 32 h.digits refl (digits_without_lf h.digits is.digits.1)))
    (reason_without_lf h.reason is.reason)

-- without line ends before it a response head is its line and its section
response_at_once : (h : ResponseHead) → h.blank ≡ []
    → print_response h ≡ response_line h ++ print_end h.line_end ++ print_section h.fields h.last
unfolding print_response
response_at_once h at_once =
    ap (λ blank. print_blank blank ++ print_version h.minor ++ 32 ∷ h.digits ++ print_reason h.reason ++ print_end h.line_end
    ++ print_section h.fields h.last) at_once

-- no line ends stand before it
pub response_starts_plain : (text : List ℕ) (h : ResponseHead) (rest : List ℕ) → BeginsWithResponse text h rest → line_ends_len text ≡ 0
response_starts_plain text h rest begins =
    no_line_ends text (subst BeginsPlain (sym (begins.reads.1 ∙ ap (λ t. t ++ rest) (response_at_once h begins.at_once)))
    (record { byte = 72; others = _; composed = refl; plain = record { no_lf = refl; no_cr = refl } }))

pub response_heads_end : ResponseHeadsEnd
response_heads_end text h rest begins =
    let is = begins.reads.0 in
    let head = response_at_once h begins.at_once in
    let section = print_section h.fields h.last in
    let plain : BeginsPlain ((response_line h ++ print_end h.line_end ++ section) ++ rest) =
    record { byte = 72; others = _; composed = refl; plain = record { no_lf = refl; no_cr = refl } } in
    ap head_end begins.reads.1 ∙ ap (λ t. head_end (t ++ rest)) head
    ∙ head_ends (response_line h) h.line_end h.fields h.last rest (response_line_without_lf h is) plain is.fields
    ∙ ap (λ t. Some (length t)) (sym head)
