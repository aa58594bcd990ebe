-- What the grammar of heads says of their texts: the first byte, the line feeds, and the names.
use Rattle.std.proofs.Common.{◌≡◌, ℕ, ◌+◌, ◌<◌, ◌≤◌, true, false, cond, ◌&&◌, ◌||◌, eqb, ltb, leb, List, [], ◌∷◌, ◌++◌, length, inl, inr, refl, sym, ap, subst, ◌∙◌, arith, append_assoc}
use Rattle.std.specs.Prelude.{All, IsAscii, count_by, codes, map}
use Rattle.std.specs.List.{flat_map, list_any, list_all}
use Rattle.std.specs.Char.{is_ascii_alphanumeric}
use Rattle.std.specs.Int.{is_in_range}
use Rattle.std.proofs.lemmas.Bool.{false≢true, leb-true, ltb-true, eqb-true, ne_eqb, or_cases, and_parts}
use Rattle.std.proofs.lemmas.List.Elements.{All-cons, All-nil, All-head, All-tail, All-weaker}
use Rattle.std.proofs.lemmas.List.Sums.{sum_by-append}
use Rattle.std.proofs.lemmas.Str.Ascii.{IsAscii-from_all}
use Rattle.httparse.specs.declared.spans.HeaderSpan.{HeaderSpan}
use Rattle.httparse.specs.Grammar.{is_token_byte, IsToken, LineEnd, crlf, lf, print_end, print_blank, print_version, Field, IsField, print_field, print_section, RequestHead, IsRequestHead, print_request, ResponseHead, print_response, print_reason}
use Rattle.httparse.specs.Spans.{span_bytes, header_bytes, name_and_value}
use Rattle.capture.specs.Head.{line_ends_len}
use Rattle.http_head.specs.steps.HeadSpans.{HasAsciiNames}
use Rattle.http_head.proofs.SeekLaws.{line_ends_len-lf, line_ends_len-other}

-- ---- tokens

any_below : (xs : List ℕ) (b : ℕ) → list_all (λ c. ltb c 128) xs ≡ true → list_any (λ c. eqb c b) xs ≡ true → b < 128
any_below [] b all any = absurd (false≢true any)
any_below (c ∷ xs) b all any =
    let parts = and_parts (ltb c 128) (list_all (λ d. ltb d 128) xs) all in
    elim (or_cases (eqb c b) (list_any (λ d. eqb d b) xs) any) [
      | inl here ↦ omega (arith, eqb-true c b here, ltb-true c 128 parts.0)
      | inr there ↦ any_below xs b parts.1 there
    ]

in_range_below : (low high b : ℕ) → (leb low b && leb b high) ≡ true → high < 128 → b < 128
in_range_below low high b e h =
    let parts = and_parts (leb low b) (leb b high) e in omega (arith, leb-true b high parts.1)

token_byte_is_ascii : (b : ℕ) → is_token_byte b ≡ true → b < 128
unfolding is_token_byte
token_byte_is_ascii b e =
    elim (or_cases (is_ascii_alphanumeric b) (list_any (λ c. eqb c b) (codes "!#$%&'*+-.^_`|~")) e) [
      | inl alphanumeric ↦ elim (or_cases (is_in_range 48 57 b || is_in_range 65 90 b) (is_in_range 97 122 b) alphanumeric) [
        | inl digit_or_upper ↦ elim (or_cases (is_in_range 48 57 b) (is_in_range 65 90 b) digit_or_upper) [
          | inl digit ↦ in_range_below 48 57 b digit (omega arith)
          | inr upper ↦ in_range_below 65 90 b upper (omega arith)
        ]
        | inr lower ↦ in_range_below 97 122 b lower (omega arith)
      ]
      | inr mark ↦ any_below (codes "!#$%&'*+-.^_`|~") b refl mark
    ]

lf_is_no_token : is_token_byte 10 ≡ false
unfolding is_token_byte
lf_is_no_token = refl

cr_is_no_token : is_token_byte 13 ≡ false
unfolding is_token_byte
cr_is_no_token = refl

pub token_is_ascii : (bytes : List ℕ) → IsToken bytes → IsAscii bytes
token_is_ascii bytes token =
    IsAscii-from_all bytes (All-weaker (λ b. is_token_byte b ≡ true) (λ b. b < 128) token_byte_is_ascii bytes token.1)

no_line_end_before_token : (bytes rest : List ℕ) → IsToken bytes → line_ends_len (bytes ++ rest) ≡ 0
no_line_end_before_token [] rest token = absurd (omega (arith, token.0))
no_line_end_before_token (b ∷ bytes) rest token =
    let first : is_token_byte b ≡ true = All-head (λ c. is_token_byte c ≡ true) b bytes token.1 in
    line_ends_len-other b (bytes ++ rest)
    (ne_eqb b 10 (λ e. false≢true (sym lf_is_no_token ∙ ap is_token_byte (sym e) ∙ first)))
    (ne_eqb b 13 (λ e. false≢true (sym cr_is_no_token ∙ ap is_token_byte (sym e) ∙ first)))

-- ---- the line ends before a head

one_more : (n : ℕ) → 1 + n ≡ 0 → ⊥
one_more n e = absurd (omega (arith, e))

two_more : (n : ℕ) → 2 + n ≡ 0 → ⊥
two_more n e = absurd (omega (arith, e))

no_blank : (ends : List LineEnd) (rest : List ℕ) → line_ends_len (print_blank ends ++ rest) ≡ 0 → ends ≡ []
no_blank [] rest e = refl
no_blank (crlf ∷ ends) rest e = absurd (two_more _ e)
no_blank (lf ∷ ends) rest e = absurd (one_more _ (sym (line_ends_len-lf (print_blank ends ++ rest)) ∙ e))

-- ---- the line feeds of a head

abbrev pub line_feeds : List ℕ → ℕ
line_feeds text = count_by (λ b. eqb b 10) text

line_feeds-append : (xs ys : List ℕ) → line_feeds (xs ++ ys) ≡ line_feeds xs + line_feeds ys
line_feeds-append xs ys = sum_by-append (λ b. cond (eqb b 10) 1 0) xs ys

line_feeds-end : (e : LineEnd) → line_feeds (print_end e) ≡ 1
line_feeds-end crlf = refl
line_feeds-end lf = refl

line_feeds-field : (f : Field) → 1 ≤ line_feeds (print_field f)
line_feeds-field f =
    omega (arith, line_feeds-append (f.name ++ 58 ∷ f.raw) (print_end f.end), line_feeds-end f.end)

line_feeds-fields : (fields : List Field) → length fields ≤ line_feeds (flat_map print_field fields)
line_feeds-fields [] = omega arith
line_feeds-fields (f ∷ fields) =
    omega (
      arith,
      line_feeds-append (print_field f) (flat_map print_field fields),
      line_feeds-field f,
      line_feeds-fields fields,
    )

pub line_feeds-section : (front : List ℕ) (fields : List Field) (last : LineEnd) (rest : List ℕ)
    → length fields ≤ line_feeds ((front ++ print_section fields last) ++ rest)
line_feeds-section front fields last rest =
    omega (
      arith,
      line_feeds-append (front ++ print_section fields last) rest,
      line_feeds-append front (print_section fields last),
      line_feeds-append (flat_map print_field fields) (print_end last),
      line_feeds-fields fields,
    )

-- ---- names

pub names_are_ascii : (text : List ℕ) (headers : List HeaderSpan) (fields : List Field)
    → map (header_bytes text) headers ≡ map name_and_value fields → All IsField fields → HasAsciiNames text headers
names_are_ascii text [] [] same all = All-nil (λ h. IsAscii (span_bytes text h.name))
names_are_ascii text (h ∷ headers) [] same all = cc
names_are_ascii text [] (f ∷ fields) same all = cc
names_are_ascii text (h ∷ headers) (f ∷ fields) same all =
    let first : header_bytes text h ≡ name_and_value f = cc in
    let others : map (header_bytes text) headers ≡ map name_and_value fields = cc in
    let name : span_bytes text h.name ≡ f.name = ap (λ p. p.0) first in
    All-cons (λ s. IsAscii (span_bytes text s.name)) h headers
    (subst IsAscii (sym name) (token_is_ascii f.name (All-head IsField f fields all).name))
    (names_are_ascii text headers fields others (All-tail IsField f fields all))

-- ---- requests

regrouped : (a b c d e f : List ℕ) → a ++ b ++ c ++ d ++ e ++ f ≡ a ++ (b ++ (c ++ (d ++ (e ++ f))))
regrouped a b c d e f = simp append_assoc

request_front : (h : RequestHead) → (rest : List ℕ) × (print_request h ≡ print_blank h.blank ++ (h.method ++ rest))
unfolding print_request
request_front h = (
  32 ∷ h.target ++ (32 ∷ print_version h.minor ++ (print_end h.line_end ++ print_section h.fields h.last)),
  regrouped (print_blank h.blank) h.method (32 ∷ h.target) (32 ∷ print_version h.minor) (print_end h.line_end)
      (print_section h.fields h.last),
)

request_section : (h : RequestHead) → (front : List ℕ) × (print_request h ≡ front ++ print_section h.fields h.last)
unfolding print_request
request_section h = (
  print_blank h.blank ++ h.method ++ 32 ∷ h.target ++ 32 ∷ print_version h.minor ++ print_end h.line_end,
  refl,
)

pub request_at_once : (h : RequestHead) (rest : List ℕ) → line_ends_len (print_request h ++ rest) ≡ 0 → h.blank ≡ []
request_at_once h rest e =
    let front = request_front h in
    no_blank h.blank ((h.method ++ front.0) ++ rest)
    (ap line_ends_len (sym (append_assoc (print_blank h.blank) (h.method ++ front.0) rest)
    ∙ ap (λ t. t ++ rest) (sym front.1)) ∙ e)

pub request_no_line_end : (h : RequestHead) (rest : List ℕ) → IsRequestHead h → h.blank ≡ []
    → line_ends_len (print_request h ++ rest) ≡ 0
request_no_line_end h rest is at_once =
    let front = request_front h in
    let text : print_request h ++ rest ≡ h.method ++ (front.0 ++ rest) =
    ap (λ t. t ++ rest) (front.1 ∙ ap (λ b. print_blank b ++ (h.method ++ front.0)) at_once)
    ∙ append_assoc h.method front.0 rest in
    ap line_ends_len text ∙ no_line_end_before_token h.method (front.0 ++ rest) is.method

pub request_line_feeds : (h : RequestHead) (rest : List ℕ) → length h.fields ≤ line_feeds (print_request h ++ rest)
request_line_feeds h rest =
    let front = request_section h in
    subst (λ t. length h.fields ≤ line_feeds (t ++ rest)) (sym front.1)
    (line_feeds-section front.0 h.fields h.last rest)

-- ---- responses

response_front : (h : ResponseHead) → (rest : List ℕ) × (print_response h ≡ print_blank h.blank ++ (72 ∷ rest))
unfolding print_response
response_front h = (
  84 ∷ 84 ∷ 80 ∷ 47 ∷ 49 ∷ 46 ∷ (48 + h.minor) ∷ (32 ∷ h.digits
      ++ (print_reason h.reason ++ (print_end h.line_end ++ print_section h.fields h.last))),
  simp append_assoc,
)

response_section : (h : ResponseHead) → (front : List ℕ) × (print_response h ≡ front ++ print_section h.fields h.last)
unfolding print_response
response_section h = (
  print_blank h.blank ++ print_version h.minor ++ 32 ∷ h.digits ++ print_reason h.reason ++ print_end h.line_end,
  refl,
)

pub response_at_once : (h : ResponseHead) (rest : List ℕ) → line_ends_len (print_response h ++ rest) ≡ 0 → h.blank ≡ []
response_at_once h rest e =
    let front = response_front h in
    no_blank h.blank ((72 ∷ front.0) ++ rest)
    (ap line_ends_len (sym (append_assoc (print_blank h.blank) (72 ∷ front.0) rest)
    ∙ ap (λ t. t ++ rest) (sym front.1)) ∙ e)

pub response_no_line_end : (h : ResponseHead) (rest : List ℕ) → h.blank ≡ []
    → line_ends_len (print_response h ++ rest) ≡ 0
response_no_line_end h rest at_once =
    let front = response_front h in
    let text : print_response h ++ rest ≡ 72 ∷ (front.0 ++ rest) =
    ap (λ t. t ++ rest) (front.1 ∙ ap (λ b. print_blank b ++ (72 ∷ front.0)) at_once) in
    ap line_ends_len text ∙ line_ends_len-other 72 (front.0 ++ rest) refl refl

pub response_line_feeds : (h : ResponseHead) (rest : List ℕ) → length h.fields ≤ line_feeds (print_response h ++ rest)
response_line_feeds h rest =
    let front = response_section h in
    subst (λ t. length h.fields ≤ line_feeds (t ++ rest)) (sym front.1)
    (line_feeds-section front.0 h.fields h.last rest)
