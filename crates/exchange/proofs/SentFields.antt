-- The head of a request that goes to an origin, and its text.
use Rattle.std.proofs.Common.{◌≡◌, ℕ, ◌+◌, ◌^◌, ◌<◌, ◌≤◌, Bool, true, false, not, ◌&&◌, ◌==◌, List, [], ◌∷◌, ◌++◌, length, drop, filter, map, flat_map, decimal, IsTrue, All, refl, sym, ap, subst, ◌∙◌, arith, append_assoc, append-nil, length-drop, if◌then◌else◌}
use Rattle.std.specs.Prelude.{codes, IsUtf8, nat_le}
use Rattle.std.specs.List.{list_any, list_all}
use Rattle.std.specs.Str.{bytes_eq}
use Rattle.std.proofs.lemmas.Bool.{and_parts, leb-true}
use Rattle.std.proofs.lemmas.Bool.Decides.{nat_tests}
use Rattle.std.proofs.lemmas.Fmt.{decimal_is_IsNumeral}
use Rattle.std.proofs.lemmas.Grind.{flat_map-append}
use Rattle.std.proofs.lemmas.List.Elements.{All-nil, All-cons, All-append, All-drop, All-filter, All-from_get_or, All-map, All-weaker}
use Rattle.std.proofs.lemmas.List.Sums.{AllPass-from_list_all}
use Rattle.std.proofs.lemmas.Str.{IsUtf8-from_ascii}
use Rattle.std.proofs.lemmas.Str.Ascii.{IsAscii-from_all}
use Rattle.std.proofs.lemmas.Str.Parse.{digit_at}
use Rattle.httparse.specs.Grammar.{is_token_byte, is_uri_byte, is_value_byte, AllPass, IsToken, crlf, Field, print_field, IsField, RequestHead, print_request, IsRequestHead}
use Rattle.httparse.specs.Spans.{name_and_value}
use Rattle.httparse.proofs.TrimLemmas.{AllPass-trim_ows}
use Rattle.capture.specs.Fields.{NamedValue, named_values}
use Rattle.capture.specs.Target.{is_target_byte, is_http_target, begins_with_http, is_plain_authority, authority_of, authority_len, is_target_text, after_authority, origin_form}
use Rattle.capture.specs.declared.framing.Framing.{Framing}
use Rattle.capture.specs.declared.framing.Framing.TheVariants.{Empty, Length, Chunked, ToEnd}
use Rattle.head_lines.specs.Lines.{field_line, close_line, length_line}
use Rattle.exchange.specs.Texts.{listed_names, goes_to_origin, via_line, host_line, length_line_of, request_line, field_lines, forwarded}
use Rattle.exchange.specs.declared.aim.Target.{Target}
use Rattle.http_head.specs.Heads.{minor_of, named_value}
use Rattle.http_head.specs.declared.head.RequestMessage.{RequestMessage}
use Rattle.http_head.specs.declared.head.Version.{Version}
use Rattle.http_head.specs.declared.head.Version.TheVariants.{Http10, Http11}
use Rattle.exchange.proofs.AimedTargets.{IsAimedAt}
use Rattle.exchange.proofs.HostBytes.{host_can_be_value, port_has_16_bits}

-- ---- the head that is sent

-- a field of the grammar with a space before its value
unfoldable pub as_field : NamedValue → Field
as_field f = record { name = f.0; raw = 32 ∷ f.1; end = crlf }

unfoldable pub port_text : ℕ → List ℕ
port_text port = if port == 80 then [] else codes ":" ++ decimal port

unfoldable pub host_field : List ℕ → ℕ → NamedValue
host_field host port = (codes "Host", host ++ port_text port)

unfoldable pub via_field : ℕ → NamedValue
via_field minor = (codes "Via", codes "1." ++ ((48 + minor) ∷ []) ++ codes " memproxy")

unfoldable pub close_field : NamedValue
close_field = (codes "Connection", codes "close")

unfoldable pub length_field : ℕ → NamedValue
length_field n = (codes "Content-Length", decimal n)

-- the field that tells the length of a body
unfoldable pub length_fields : Framing → List ℕ → List NamedValue
length_fields Empty payload = []
length_fields (Length n) payload = length_field (length payload) ∷ []
length_fields Chunked payload = length_field (length payload) ∷ []
length_fields ToEnd payload = length_field (length payload) ∷ []

-- those that go on of what was received
abbrev pub kept_fields : List NamedValue → List NamedValue
kept_fields fields = filter (goes_to_origin (listed_names fields)) fields

-- the parts of a message that its head is made of
pub record Parts : Type 0 where
  pub minor : ℕ
  pub fields : List NamedValue
  pub lengths : List NamedValue

abbrev pub parts_of : RequestMessage → Parts
parts_of message = record {
  minor = minor_of message.head.version;
  fields = map named_value message.head.fields;
  lengths = length_fields message.framing message.payload;
}

unfoldable pub sent_fields : Parts → Target → List NamedValue
sent_fields parts target =
    host_field target.host target.port ∷ (kept_fields parts.fields ++ via_field parts.minor ∷ (parts.lengths ++ close_field ∷ []))

-- the grammar's head of what goes to an origin
unfoldable pub sent_head : List ℕ → Parts → Target → RequestHead
sent_head method parts target = record {
  blank = [];
  method = method;
  target = target.path;
  minor = 1;
  line_end = crlf;
  fields = map as_field (sent_fields parts target);
  last = crlf;
}

pub sent_method : (method : List ℕ) (parts : Parts) (target : Target) → (sent_head method parts target).method ≡ method
unfolding sent_head
sent_method method parts target = refl

-- ---- its text

line_of_field : (f : NamedValue) → print_field (as_field f) ≡ field_line f
unfolding as_field
line_of_field f = ap (λ text. text ++ 13 ∷ 10 ∷ []) (sym (append_assoc f.0 (58 ∷ 32 ∷ []) f.1))

lines_of_fields : (fields : List NamedValue) → flat_map print_field (map as_field fields) ≡ flat_map field_line fields
lines_of_fields [] = refl
lines_of_fields (f ∷ fields) =
    ap (λ line. line ++ flat_map print_field (map as_field fields)) (line_of_field f)
    ∙ ap (λ lines. field_line f ++ lines) (lines_of_fields fields)

line_of_host : (host : List ℕ) (port : ℕ) → host_line host port ≡ field_line (host_field host port)
unfolding host_line host_field port_text
line_of_host host port = ap (λ text. text ++ 13 ∷ 10 ∷ []) (append_assoc (codes "Host: ") host (if port == 80 then [] else codes ":" ++ decimal port))

line_of_via : (minor : ℕ) → via_line minor ≡ field_line (via_field minor)
unfolding via_line via_field
line_of_via minor = refl

line_of_close : close_line ≡ field_line close_field
unfolding close_line close_field
line_of_close = refl

lines_of_length : (framing : Framing) (payload : List ℕ) → length_line_of framing payload ≡ flat_map field_line (length_fields framing payload)
unfolding length_line length_line_of length_fields length_field
lines_of_length Empty payload = refl
lines_of_length (Length n) payload = sym (append-nil (field_line (length_field (length payload))))
lines_of_length Chunked payload = sym (append-nil (field_line (length_field (length payload))))
lines_of_length ToEnd payload = sym (append-nil (field_line (length_field (length payload))))

lines_sent : (parts : Parts) (target : Target)
    → flat_map print_field (map as_field (sent_fields parts target))
    ≡ host_line target.host target.port ++ (field_lines (goes_to_origin (listed_names parts.fields)) parts.fields ++ (via_line parts.minor ++ (flat_map field_line parts.lengths ++ (close_line ++ []))))
unfolding sent_fields field_lines
lines_sent parts target =
    let kept = kept_fields parts.fields in
    let behind : List NamedValue = via_field parts.minor ∷ (parts.lengths ++ close_field ∷ []) in
    let lengths = flat_map field_line parts.lengths in
    lines_of_fields (host_field target.host target.port ∷ (kept ++ behind))
    ∙ ap (λ text. field_line (host_field target.host target.port) ++ text) (flat_map-append field_line kept behind)
    ∙ ap (λ text. field_line (host_field target.host target.port) ++ (flat_map field_line kept ++ (field_line (via_field parts.minor) ++ text))) (flat_map-append field_line parts.lengths (close_field ∷ []))
    ∙ ap (λ line. line ++ (flat_map field_line kept ++ (field_line (via_field parts.minor) ++ (lengths ++ (field_line close_field ++ []))))) (sym (line_of_host target.host target.port))
    ∙ ap (λ line. host_line target.host target.port ++ (flat_map field_line kept ++ (line ++ (lengths ++ (field_line close_field ++ []))))) (sym (line_of_via parts.minor))
    ∙ ap (λ line. host_line target.host target.port ++ (flat_map field_line kept ++ (via_line parts.minor ++ (lengths ++ (line ++ []))))) (sym line_of_close)

regrouped : (line host fields via long close payload : List ℕ)
    → line ++ host ++ fields ++ via ++ long ++ close ++ 13 ∷ 10 ∷ [] ++ payload
    ≡ line ++ ((host ++ (fields ++ (via ++ (long ++ (close ++ []))))) ++ 13 ∷ 10 ∷ []) ++ payload
regrouped line host fields via long close payload = simp (append_assoc, append-nil)

first_line : (method path : List ℕ) → request_line method path ≡ method ++ 32 ∷ path ++ 32 ∷ codes "HTTP/1.1" ++ 13 ∷ 10 ∷ []
unfolding request_line
first_line method path = ap (λ text. text ++ codes " HTTP/1.1" ++ 13 ∷ 10 ∷ []) (append_assoc method (32 ∷ []) path)

pub sent_text : (message : RequestMessage) (target : Target)
    → forwarded message target ≡ print_request (sent_head message.head.method (parts_of message) target) ++ message.payload
unfolding forwarded print_request sent_head
sent_text message target =
    let method = message.head.method in
    let parts = parts_of message in
    let payload = message.payload in
    let fields = field_lines (goes_to_origin (listed_names parts.fields)) parts.fields in
    let host = host_line target.host target.port in
    ap (λ long. request_line method target.path ++ host ++ fields ++ via_line parts.minor ++ long ++ close_line ++ 13 ∷ 10 ∷ [] ++ payload)
    (lines_of_length message.framing payload)
    ∙ regrouped (request_line method target.path) host fields (via_line parts.minor) (flat_map field_line parts.lengths) close_line payload
    ∙ ap (λ lines. request_line method target.path ++ (lines ++ 13 ∷ 10 ∷ []) ++ payload) (sym (lines_sent parts target))
    ∙ ap (λ line. line ++ (flat_map print_field (map as_field (sent_fields parts target)) ++ 13 ∷ 10 ∷ []) ++ payload) (first_line method target.path)

-- ---- its fields

-- the name is a token, and the value has no control byte but the tab
abbrev IsGoodField : NamedValue → Type 0
IsGoodField f = IsToken f.0 × AllPass is_value_byte f.1

abbrev IsGoodByte : ℕ → Type 0
IsGoodByte b = IsTrue (is_value_byte b)

good_field : (f : NamedValue) → IsGoodField f → IsField (as_field f)
unfolding as_field
good_field f good = record { name = good.0; raw = All-cons IsGoodByte 32 f.1 refl good.1 }

received_field : (f : Field) → IsField f → IsGoodField (name_and_value f)
received_field f is = (is.name, AllPass-trim_ows is_value_byte f.raw is.raw)

received_fields : (fields : List Field) → All IsField fields → All IsGoodField (named_values fields)
received_fields fields all =
    All-map IsGoodField name_and_value fields (All-weaker IsField (λ f. IsGoodField (name_and_value f)) received_field fields all)

token : (name : List ℕ) → 0 < length name → list_all is_token_byte name ≡ true → IsToken name
token name some each = (some, AllPass-from_list_all is_token_byte name each)

host_is_token : IsToken (codes "Host")
unfolding is_token_byte
host_is_token = token (codes "Host") (omega arith) refl

via_is_token : IsToken (codes "Via")
unfolding is_token_byte
via_is_token = token (codes "Via") (omega arith) refl

connection_is_token : IsToken (codes "Connection")
unfolding is_token_byte
connection_is_token = token (codes "Connection") (omega arith) refl

digits_are_good : (n : ℕ) → n < 2 ^ 64 → AllPass is_value_byte (decimal n)
digits_are_good n fits =
    All-from_get_or IsGoodByte (decimal n) 0 λ i below.
    let digit = digit_at (decimal n) i (decimal_is_IsNumeral n fits).0.1 below in
    grind (arith, nat_tests)

port_is_good : (port : ℕ) → port < 2 ^ 16 → AllPass is_value_byte (port_text port)
unfolding port_text
port_is_good port fits = either (port == 80)
  where
    either : (b : Bool) → AllPass is_value_byte (if b then [] else codes ":" ++ decimal port)
    either true = All-nil IsGoodByte
    either false = All-cons IsGoodByte 58 (decimal port) refl (digits_are_good port (omega (arith, fits)))

good_host : (host : List ℕ) (port : ℕ) → AllPass is_value_byte host → port < 2 ^ 16 → IsGoodField (host_field host port)
unfolding host_field
good_host host port good fits = (host_is_token, All-append IsGoodByte host (port_text port) good (port_is_good port fits))

good_via : (version : Version) → IsGoodField (via_field (minor_of version))
unfolding via_field
good_via Http10 = (via_is_token, AllPass-from_list_all is_value_byte (codes "1.0 memproxy") refl)
good_via Http11 = (via_is_token, AllPass-from_list_all is_value_byte (codes "1.1 memproxy") refl)

good_close : IsGoodField close_field
unfolding close_field
good_close = (connection_is_token, AllPass-from_list_all is_value_byte (codes "close") refl)

length_is_token : IsToken (codes "Content-Length")
unfolding is_token_byte
length_is_token = token (codes "Content-Length") (omega arith) refl

good_length : (n : ℕ) → n < 2 ^ 64 → IsGoodField (length_field n)
unfolding length_field
good_length n fits = (length_is_token, digits_are_good n fits)

good_lengths : (framing : Framing) (payload : List ℕ) → length payload < 2 ^ 64 → All IsGoodField (length_fields framing payload)
unfolding length_fields
good_lengths Empty payload fits = All-nil IsGoodField
good_lengths (Length n) payload fits = All-cons IsGoodField (length_field (length payload)) [] (good_length (length payload) fits) (All-nil IsGoodField)
good_lengths Chunked payload fits = All-cons IsGoodField (length_field (length payload)) [] (good_length (length payload) fits) (All-nil IsGoodField)
good_lengths ToEnd payload fits = All-cons IsGoodField (length_field (length payload)) [] (good_length (length payload) fits) (All-nil IsGoodField)

fields_sent : (message : RequestMessage) (target : Target) → length message.payload < 2 ^ 64 → All IsGoodField (map named_value message.head.fields)
    → AllPass is_value_byte target.host → target.port < 2 ^ 16 → All IsField (map as_field (sent_fields (parts_of message) target))
unfolding sent_fields
fields_sent message target fits good host port =
    let parts = parts_of message in
    let kept = kept_fields parts.fields in
    let ends : List NamedValue = parts.lengths ++ close_field ∷ [] in
    let behind : List NamedValue = via_field parts.minor ∷ ends in
    let sent : List NamedValue = host_field target.host target.port ∷ (kept ++ behind) in
    let close = All-cons IsGoodField close_field [] good_close (All-nil IsGoodField) in
    let last = All-append IsGoodField parts.lengths (close_field ∷ []) (good_lengths message.framing message.payload fits) close in
    let via = All-cons IsGoodField (via_field parts.minor) ends (good_via message.head.version) last in
    let rest = All-append IsGoodField kept behind (All-filter (goes_to_origin (listed_names parts.fields)) IsGoodField parts.fields good) via in
    let all = All-cons IsGoodField (host_field target.host target.port) (kept ++ behind) (good_host target.host target.port host port) rest in
    All-map IsField as_field sent (All-weaker IsGoodField (λ f. IsField (as_field f)) good_field sent all)

-- ---- its target

abbrev IsTargetByte : ℕ → Type 0
IsTargetByte b = is_target_byte b ≡ true

between : (b : ℕ) (marked : Bool) → (nat_le 33 b && nat_le b 126 && not marked) ≡ true → (33 ≤ b) × (b ≤ 126)
between b marked h =
    let range = and_parts (nat_le 33 b) (nat_le b 126) (and_parts (nat_le 33 b && nat_le b 126) (not marked) h).0 in
    (leb-true 33 b range.0, leb-true b 126 range.1)

visible : (b : ℕ) → IsTargetByte b → (33 ≤ b) × (b ≤ 126)
visible b h = between b (list_any (λ c. c == b) (codes "\"<>\\#")) h

uri_byte : (b : ℕ) → IsTargetByte b → IsTrue (is_uri_byte b)
uri_byte b h = let range = visible b h in grind (arith, nat_tests)

ascii_byte : (b : ℕ) → IsTargetByte b → b < 128
ascii_byte b h = omega (arith, (visible b h).1)

-- a text of target bytes, which isn't empty
abbrev IsPath : List ℕ → Type 0
IsPath path = (0 < length path) × All IsTargetByte path

path_sent : (method rest : List ℕ) → All IsTargetByte rest → IsPath (origin_form method rest)
path_sent method [] all = either (bytes_eq method (codes "OPTIONS"))
  where
    either : (b : Bool) → IsPath (if b then codes "*" else codes "/")
    either true = (omega arith, All-cons IsTargetByte 42 [] refl (All-nil IsTargetByte))
    either false = (omega arith, All-cons IsTargetByte 47 [] refl (All-nil IsTargetByte))
path_sent method (b ∷ rest) all = either (b == 63)
  where
    either : (mark : Bool) → IsPath (if mark then codes "/" ++ b ∷ rest else b ∷ rest)
    either true = (omega arith, All-cons IsTargetByte 47 (b ∷ rest) refl all)
    either false = (omega arith, all)

target_bytes : (uri : List ℕ) → is_http_target uri ≡ true → All IsTargetByte uri
target_bytes uri h =
    let text = and_parts (is_target_text uri) (begins_with_http uri) (and_parts (is_target_text uri && begins_with_http uri) (is_plain_authority (authority_of uri)) h).0 in
    AllPass-from_list_all is_target_byte uri text.0

path_of_uri : (method uri : List ℕ) → is_http_target uri ≡ true → IsPath (origin_form method (after_authority uri))
path_of_uri method uri h =
    path_sent method (after_authority uri)
    (All-drop IsTargetByte (authority_len (drop 7 uri)) (drop 7 uri) (All-drop IsTargetByte 7 uri (target_bytes uri h)))

path_is_text : (path : List ℕ) → All IsTargetByte path → IsUtf8 path
path_is_text path all = IsUtf8-from_ascii path (IsAscii-from_all path (All-weaker IsTargetByte (λ b. b < 128) ascii_byte path all))

pub path_fits : (method uri : List ℕ) → length (origin_form method (after_authority uri)) ≤ length uri + 1
path_fits method uri =
    omega (
      arith,
      form_fits method (after_authority uri),
      length-drop (authority_len (drop 7 uri)) (drop 7 uri),
      length-drop 7 uri,
    )
  where
    form_fits : (m rest : List ℕ) → length (origin_form m rest) ≤ length rest + 1
    form_fits m [] = either (bytes_eq m (codes "OPTIONS"))
      where
        either : (b : Bool) → length (if b then codes "*" else codes "/") ≤ 1
        either true = omega arith
        either false = omega arith
    form_fits m (b ∷ rest) = either (b == 63)
      where
        either : (mark : Bool) → length (if mark then codes "/" ++ b ∷ rest else b ∷ rest) ≤ length (b ∷ rest) + 1
        either true = omega arith
        either false = omega arith

-- ---- the whole head

pub head_sent : (message : RequestMessage) (received : List Field) (target : Target) → IsToken message.head.method → All IsField received
    → map named_value message.head.fields ≡ named_values received → length message.payload < 2 ^ 64
    → IsAimedAt message.head.method message.head.target target → IsRequestHead (sent_head message.head.method (parts_of message) target)
unfolding sent_head
head_sent message received target named all is fits at =
    let path : IsPath target.path = subst IsPath (sym at.path_is) (path_of_uri message.head.method message.head.target at.form) in
    let host : AllPass is_value_byte target.host = subst (AllPass is_value_byte) (sym at.host_is) (host_can_be_value message.head.target at.url at.parses) in
    let port : target.port < 2 ^ 16 = subst (λ n. n < 2 ^ 16) (sym at.port_is) (port_has_16_bits message.head.target at.url at.parses) in
    let good : All IsGoodField (map named_value message.head.fields) = subst (All IsGoodField) (sym is) (received_fields received all) in
    record {
      method = named;
      target = (path.0, All-weaker IsTargetByte (λ b. IsTrue (is_uri_byte b)) uri_byte target.path path.1);
      target_text = path_is_text target.path path.1;
      minor = omega arith;
      fields = fields_sent message target fits good host port;
    }
