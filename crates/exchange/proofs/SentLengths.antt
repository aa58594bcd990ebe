-- How long a request is that goes to an origin.
use Rattle.std.proofs.Common.{◌≡◌, ℕ, ◌+◌, ◌*◌, ◌^◌, ◌<◌, ◌≤◌, Bool, true, false, ◌==◌, List, [], ◌∷◌, ◌++◌, length, decimal, filter, map, flat_map, reverse, sym, ap, subst, arith, length-append, if◌then◌else◌}
use Rattle.std.specs.Prelude.{codes}
use Rattle.std.proofs.lemmas.Fmt.{length-decimal-le}
use Rattle.std.proofs.lemmas.List.{length-reverse}
use Rattle.httparse.specs.Ascii.{crlf_bytes}
use Rattle.httparse.specs.Grammar.{print_chunk_line, is_ows, skip_ows, trim_ows, LineEnd, crlf, lf, print_end, print_blank, print_version, print_section, Field, print_field, RequestHead, print_request}
use Rattle.httparse.specs.Spans.{name_and_value}
use Rattle.capture.specs.Chunks.{Chunk, print_chunk, joined_data}
use Rattle.capture.specs.Fields.{NamedValue, named_values}
use Rattle.capture.specs.First.{HoldsBody}
use Rattle.capture.specs.Payload.{IsJoined, IsPayload}
use Rattle.capture.specs.declared.framing.Framing.{Framing}
use Rattle.capture.specs.declared.framing.Framing.TheVariants.{Empty, Length, Chunked, ToEnd}
use Rattle.capture.specs.declared.limits.TheConstants.{BODY_LIMIT, HEAD_LIMIT}
use Rattle.head_lines.specs.Lines.{field_line, close_line, length_line}
use Rattle.exchange.specs.Texts.{listed_names, goes_to_origin, via_line, host_line, length_line_of, request_line, field_lines, forwarded}
use Rattle.exchange.specs.declared.aim.Target.{Target}
use Rattle.http_head.specs.Heads.{minor_of, named_value}
use Rattle.http_head.specs.declared.head.RequestMessage.{RequestMessage}
use Rattle.exchange.proofs.WithinLaws.{whole_body_is_short}

-- ---- the payload

data_fits : (chunks : List Chunk) → length (joined_data chunks) ≤ length (flat_map print_chunk chunks)
data_fits [] = omega arith
data_fits (c ∷ chunks) =
    omega (
      arith,
      data_fits chunks,
      length-append c.data_bytes (joined_data chunks),
      length-append (print_chunk c) (flat_map print_chunk chunks),
      chunk_fits c,
    )
  where
    chunk_fits : (d : Chunk) → length d.data_bytes ≤ length (print_chunk d)
    chunk_fits d =
        omega (
          arith,
          length-append (print_chunk_line d.line ++ d.data_bytes) crlf_bytes,
          length-append (print_chunk_line d.line) d.data_bytes,
        )

joined_fits : (wire payload : List ℕ) → IsJoined wire payload → length payload ≤ length wire
joined_fits wire payload is =
    let b = is.0 in
    let chunks : List ℕ = flat_map print_chunk b.chunks in
    omega (
      arith,
      ap length is.2,
      ap length is.3,
      data_fits b.chunks,
      length-append (chunks ++ print_chunk_line b.last) (print_section b.trailer b.end),
      length-append chunks (print_chunk_line b.last),
    )

payload_fits : (framing : Framing) (wire payload : List ℕ) → IsPayload false framing wire payload → length payload ≤ length wire
payload_fits Empty wire payload is = omega (arith, ap length is)
payload_fits (Length n) wire payload is = omega (arith, ap length is)
payload_fits Chunked wire payload is = joined_fits wire payload is
payload_fits ToEnd wire payload is = omega (arith, ap length is)

pub payload_within : (framing : Framing) (wire payload : List ℕ) → HoldsBody framing true wire (length wire) → IsPayload false framing wire payload
    → length payload ≤ BODY_LIMIT
payload_within framing wire payload holds is =
    omega (arith, payload_fits framing wire payload is, whole_body_is_short framing true wire (length wire) holds)

-- ---- the fields

skip_step : (blank : Bool) (b : ℕ) (bytes : List ℕ) → length (skip_ows bytes) ≤ length bytes
    → length (if blank then skip_ows bytes else b ∷ bytes) ≤ length (b ∷ bytes)
skip_step true b bytes fits = omega (arith, fits)
skip_step false b bytes fits = omega arith

skip_fits : (bytes : List ℕ) → length (skip_ows bytes) ≤ length bytes
skip_fits [] = omega arith
skip_fits (b ∷ bytes) = skip_step (is_ows b) b bytes (skip_fits bytes)

trim_fits : (bytes : List ℕ) → length (trim_ows bytes) ≤ length bytes
unfolding trim_ows
trim_fits bytes =
    omega (
      arith,
      skip_fits bytes,
      length-reverse (skip_ows bytes),
      skip_fits (reverse (skip_ows bytes)),
      length-reverse (skip_ows (reverse (skip_ows bytes))),
    )

end_is_some : (end : LineEnd) → 1 ≤ length (print_end end)
end_is_some crlf = omega arith
end_is_some lf = omega arith

field_fits : (f : Field) → length (field_line (name_and_value f)) ≤ 2 * length (print_field f)
field_fits f =
    let value = trim_ows f.raw in
    omega (
      arith,
      trim_fits f.raw,
      end_is_some f.end,
      length-append (f.name ++ codes ": " ++ value) crlf_bytes,
      length-append (f.name ++ codes ": ") value,
      length-append f.name (codes ": "),
      length-append (f.name ++ 58 ∷ f.raw) (print_end f.end),
      length-append f.name (58 ∷ f.raw),
    )

lines_fit : (fields : List Field) → length (flat_map field_line (named_values fields)) ≤ 2 * length (flat_map print_field fields)
lines_fit [] = omega arith
lines_fit (f ∷ fields) =
    omega (
      arith,
      field_fits f,
      lines_fit fields,
      length-append (field_line (name_and_value f)) (flat_map field_line (named_values fields)),
      length-append (print_field f) (flat_map print_field fields),
    )

kept_step : (passed : Bool) (f : NamedValue) (kept fields : List NamedValue) → length (flat_map field_line kept) ≤ length (flat_map field_line fields)
    → length (flat_map field_line (if passed then f ∷ kept else kept)) ≤ length (flat_map field_line (f ∷ fields))
kept_step true f kept fields fits =
    omega (arith, fits, length-append (field_line f) (flat_map field_line kept), length-append (field_line f) (flat_map field_line fields))
kept_step false f kept fields fits = omega (arith, fits, length-append (field_line f) (flat_map field_line fields))

kept_fit : (passes : NamedValue → Bool) (fields : List NamedValue) → length (field_lines passes fields) ≤ length (flat_map field_line fields)
unfolding field_lines
kept_fit passes [] = omega arith
kept_fit passes (f ∷ fields) = kept_step (passes f) f (filter passes fields) fields (kept_fit passes fields)

-- ---- the head that was received

pub head_room : (h : RequestHead) → length h.method + length h.target + length (flat_map print_field h.fields) ≤ length (print_request h)
unfolding print_request
head_room h =
    let method : List ℕ = print_blank h.blank ++ h.method in
    let target : List ℕ = method ++ 32 ∷ h.target in
    let version : List ℕ = target ++ 32 ∷ print_version h.minor in
    let line : List ℕ = version ++ print_end h.line_end in
    omega (
      arith,
      length-append line (print_section h.fields h.last),
      length-append version (print_end h.line_end),
      length-append target (32 ∷ print_version h.minor),
      length-append method (32 ∷ h.target),
      length-append (print_blank h.blank) h.method,
      length-append (flat_map print_field h.fields) (print_end h.last),
    )

-- ---- the lines that are sent

first_fits : (method path : List ℕ) → length (request_line method path) ≤ length method + length path + 12
unfolding request_line
first_fits method path =
    omega (
      arith,
      length-append (method ++ (32 ∷ []) ++ path ++ codes " HTTP/1.1") crlf_bytes,
      length-append (method ++ (32 ∷ []) ++ path) (codes " HTTP/1.1"),
      length-append (method ++ (32 ∷ [])) path,
      length-append method (32 ∷ []),
    )

port_fits : (port : ℕ) → port < 2 ^ 16 → length (if port == 80 then [] else codes ":" ++ decimal port) ≤ 6
port_fits port fits = either (port == 80)
  where
    either : (b : Bool) → length (if b then [] else codes ":" ++ decimal port) ≤ 6
    either true = omega arith
    either false =
        omega (arith, length-append (codes ":") (decimal port), length-decimal-le 5 port (omega arith) (omega (arith, fits)) (omega (arith, fits)))

host_fits : (host : List ℕ) (port : ℕ) → port < 2 ^ 16 → length (host_line host port) ≤ length host + 14
unfolding host_line
host_fits host port fits =
    let text : List ℕ = if port == 80 then [] else codes ":" ++ decimal port in
    omega (
      arith,
      port_fits port fits,
      length-append (codes "Host: " ++ host ++ text) crlf_bytes,
      length-append (codes "Host: " ++ host) text,
      length-append (codes "Host: ") host,
    )

via_fits : (minor : ℕ) → length (via_line minor) ≤ 19
unfolding via_line
via_fits minor = omega arith

close_fits : length close_line ≤ 19
unfolding close_line
close_fits = omega arith

length_fits : (n : ℕ) → n ≤ BODY_LIMIT → length (length_line n) ≤ 26
unfolding length_line
length_fits n fits =
    omega (
      arith,
      length-append (codes "Content-Length: " ++ decimal n) crlf_bytes,
      length-append (codes "Content-Length: ") (decimal n),
      length-decimal-le 8 n (omega arith) (omega (arith, fits)) (omega (arith, fits)),
    )

told_fits : (framing : Framing) (payload : List ℕ) → length payload ≤ BODY_LIMIT → length (length_line_of framing payload) ≤ 26
unfolding length_line_of
told_fits Empty payload fits = omega arith
told_fits (Length n) payload fits = length_fits (length payload) fits
told_fits Chunked payload fits = length_fits (length payload) fits
told_fits ToEnd payload fits = length_fits (length payload) fits

sum_of : (a b c d e f g h : List ℕ)
    → length (a ++ b ++ c ++ d ++ e ++ f ++ g ++ h) ≡ length a + length b + length c + length d + length e + length f + length g + length h
sum_of a b c d e f g h =
    omega (
      arith,
      length-append a b,
      length-append (a ++ b) c,
      length-append (a ++ b ++ c) d,
      length-append (a ++ b ++ c ++ d) e,
      length-append (a ++ b ++ c ++ d ++ e) f,
      length-append (a ++ b ++ c ++ d ++ e ++ f) g,
      length-append (a ++ b ++ c ++ d ++ e ++ f ++ g) h,
    )

-- what is known of the lengths of a request and its target
pub record AreShort (message : RequestMessage) (target : Target) (h : RequestHead) : Type 0 where
  pub method : message.head.method ≡ h.method
  pub fields : map named_value message.head.fields ≡ named_values h.fields
  pub head : length (print_request h) ≤ HEAD_LIMIT
  pub path : length target.path ≤ length h.target + 1
  pub port : target.port < 2 ^ 16
  pub host : length target.host < 2 ^ 32
  pub payload : length message.payload ≤ BODY_LIMIT

pub forwarded_fits : (message : RequestMessage) (target : Target) (h : RequestHead) → AreShort message target h
    → length (forwarded message target) < 2 ^ 34
unfolding forwarded
forwarded_fits message target h short =
    let fields = map named_value message.head.fields in
    let lines = field_lines (goes_to_origin (listed_names fields)) fields in
    let received : length (flat_map field_line fields) ≤ 2 * length (flat_map print_field h.fields) =
    subst (λ fs. length (flat_map field_line fs) ≤ 2 * length (flat_map print_field h.fields)) (sym short.fields) (lines_fit h.fields) in
    omega (
      arith,
      sum_of (request_line message.head.method target.path) (host_line target.host target.port) lines (via_line (minor_of message.head.version))
          (length_line_of message.framing message.payload) close_line crlf_bytes message.payload,
      first_fits message.head.method target.path,
      ap length short.method,
      host_fits target.host target.port short.port,
      kept_fit (goes_to_origin (listed_names fields)) fields,
      received,
      via_fits (minor_of message.head.version),
      told_fits message.framing message.payload short.payload,
      close_fits,
      head_room h,
      short.head,
      short.path,
      short.host,
      short.payload,
    )
