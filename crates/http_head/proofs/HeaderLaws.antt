-- The headers of a head, one by one.
use Rattle.std.proofs.Common.{◌≡◌, ℕ, ◌+◌, ◌<◌, ◌≤◌, true, false, ◌||◌, List, ◌∷◌, map, length, drop, get_or, sym, ap, ◌∙◌}
use Rattle.std.proofs.lemmas.List.{drop_more, drop_all}
use Rattle.httparse.specs.declared.spans.HeaderSpan.{HeaderSpan}
use Rattle.httparse.specs.Spans.{header_bytes}
use Rattle.capture.specs.Fields.{NamedValue, is_named, has_field}

-- the headers from the i-th on, as names and values
abbrev pub headers_from : List ℕ → List HeaderSpan → ℕ → List NamedValue
headers_from text headers i = map (header_bytes text) (drop i headers)

-- the i-th of them, and those behind it
header_at : (text : List ℕ) (headers : List HeaderSpan) (i : ℕ) (d : HeaderSpan) → i < length headers
    → headers_from text headers i ≡ header_bytes text (get_or headers i d) ∷ headers_from text headers (i + 1)
header_at text headers i d inside = ap (map (header_bytes text)) (drop_more headers i d inside)

pub header_here : (name text : List ℕ) (headers : List HeaderSpan) (i : ℕ) (d : HeaderSpan) → i < length headers
    → is_named name (header_bytes text (get_or headers i d)) ≡ true → has_field name (headers_from text headers i) ≡ true
header_here name text headers i d inside named =
    ap (has_field name) (header_at text headers i d inside)
    ∙ ap (λ b. b || has_field name (headers_from text headers (i + 1))) named

pub other_header : (name text : List ℕ) (headers : List HeaderSpan) (i : ℕ) (d : HeaderSpan) → i < length headers
    → is_named name (header_bytes text (get_or headers i d)) ≡ false
    → has_field name (headers_from text headers (i + 1)) ≡ has_field name (headers_from text headers i)
other_header name text headers i d inside other =
    sym (ap (has_field name) (header_at text headers i d inside)
    ∙ ap (λ b. b || has_field name (headers_from text headers (i + 1))) other)

pub no_header : (name text : List ℕ) (headers : List HeaderSpan) (i : ℕ) → length headers ≤ i
    → has_field name (headers_from text headers i) ≡ false
no_header name text headers i past = ap (λ hs. has_field name (map (header_bytes text) hs)) (drop_all i headers past)
