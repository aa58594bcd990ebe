-- What goes out: the request that the origin gets, and what the client gets of the response (RFC 9110, section 7.6;
-- RFC 9112, section 3).
use Rattle.std.specs.Prelude.{ℕ, ◌+◌, Bool, not, ◌&&◌, ◌||◌, ◌==◌, List, [], ◌∷◌, ◌++◌, codes, decimal, map, filter, length, if◌then◌else◌}
use Rattle.std.specs.List.{flat_map, list_any}
use Rattle.std.specs.Str.{bytes_eq}
use Rattle.httparse.specs.Ascii.{space, digit_zero, crlf_bytes}
use Rattle.name_table.specs.HeaderFields.{is_hop}
use Rattle.capture.specs.Fields.{NamedValue, is_named, members_of, lowered}
use Rattle.capture.specs.Framing.{content_length}
use Rattle.capture.specs.declared.framing.Framing.{Framing}
use Rattle.capture.specs.declared.framing.Framing.TheVariants.{Empty, Length, Chunked, ToEnd}
use Rattle.head_lines.specs.Lines.{status_line, field_line, length_line, tells_no_length, close_line, close_line_where}
use Rattle.http_head.specs.declared.head.Received.{Received}
use Rattle.http_head.specs.declared.head.RequestMessage.{RequestMessage}
use Rattle.http_head.specs.Heads.{minor_of, named_value}
use Rattle.exchange.specs.declared.aim.Target.{Target}

abbrev pub host_name : List ℕ
host_name = codes "host"

abbrev pub connection : List ℕ
connection = codes "connection"

-- the same name
abbrev pub is_same_name : List ℕ → List ℕ → Bool
is_same_name a b = bytes_eq (lowered a) (lowered b)

-- the names that the Connection fields list (RFC 9110, section 7.6.1)
abbrev pub listed_names : List NamedValue → List (List ℕ)
listed_names fields = members_of connection fields

-- the name is one of those that are listed
abbrev pub is_listed : List (List ℕ) → List ℕ → Bool
is_listed listed name = list_any (λ member. is_same_name member name) listed

-- the field goes on past the proxy, where Connection lists these names
abbrev pub is_passed_on : List (List ℕ) → NamedValue → Bool
is_passed_on listed f = not (is_hop f.0) && not (is_listed listed f.0)

-- the field goes to the origin
abbrev pub goes_to_origin : List (List ℕ) → NamedValue → Bool
goes_to_origin listed f = is_passed_on listed f && not (is_named host_name f) && not (is_named content_length f)

-- the field goes to the client
abbrev pub goes_to_client : List (List ℕ) → Bool → NamedValue → Bool
goes_to_client listed with_length f = is_passed_on listed f && (with_length || not (is_named content_length f))

-- the proxy's own field line (RFC 9110, section 7.6.3), with the minor version that was received
unfoldable pub via_line : ℕ → List ℕ
via_line minor = codes "Via: 1." ++ ((digit_zero + minor) ∷ []) ++ codes " memproxy" ++ crlf_bytes

-- `Host`, with the port where it isn't the default one
unfoldable pub host_line : List ℕ → ℕ → List ℕ
host_line host port = codes "Host: " ++ host ++ (if port == 80 then [] else codes ":" ++ decimal port) ++ crlf_bytes

-- the length of the payload, where the framing isn't Empty
unfoldable pub length_line_of : Framing → List ℕ → List ℕ
length_line_of Empty payload = []
length_line_of (Length n) payload = length_line (length payload)
length_line_of Chunked payload = length_line (length payload)
length_line_of ToEnd payload = length_line (length payload)

-- the first line of a request (RFC 9112, section 3)
unfoldable pub request_line : List ℕ → List ℕ → List ℕ
request_line method path = method ++ (space ∷ []) ++ path ++ codes " HTTP/1.1" ++ crlf_bytes

-- the lines of the fields that pass the test, in order
unfoldable pub field_lines : (NamedValue → Bool) → List NamedValue → List ℕ
field_lines passes fields = flat_map field_line (filter passes fields)

-- the lines of the fields that go to the origin
abbrev pub origin_lines : List NamedValue → List ℕ
origin_lines fields = field_lines (goes_to_origin (listed_names fields)) fields

-- the lines of the fields that go to the client
abbrev pub client_lines : Bool → List NamedValue → List ℕ
client_lines with_length fields = field_lines (goes_to_client (listed_names fields) with_length) fields

-- what the origin gets
unfoldable pub forwarded : RequestMessage → Target → List ℕ
forwarded message target =
    request_line message.head.method target.path
    ++ host_line target.host target.port
    ++ origin_lines (map named_value message.head.fields)
    ++ via_line (minor_of message.head.version)
    ++ length_line_of message.framing message.payload
    ++ close_line ++ crlf_bytes ++ message.payload

-- the length that came goes on, since it is that of the body of another response (RFC 9110, section 8.6)
abbrev pub keeps_length : Bool → ℕ → Bool
keeps_length answers_head status = answers_head || status == 304

-- the response has no length of its own
abbrev pub has_no_length : Bool → ℕ → Bool
has_no_length answers_head status = answers_head || tells_no_length status

-- the mark of a response that was cut
unfoldable pub cut_line_where : Bool → List ℕ
cut_line_where cut = if cut then codes "X-Archive-Truncated: disconnect" ++ crlf_bytes else []

-- the length that a response told of its body
unfoldable pub told_length_line : Framing → List ℕ
told_length_line Empty = []
told_length_line (Length n) = length_line n
told_length_line Chunked = []
told_length_line ToEnd = []

-- the length of a response, where it has one: of a whole one that of its payload, of one that was cut what it told
unfoldable pub length_line_unless : Bool → Bool → Framing → ℕ → List ℕ
length_line_unless without cut framing len =
    if without then [] else (if cut then told_length_line framing else length_line len)

-- what stands in the head that the client gets behind the fields that came
unfoldable pub answered_head_end : Received → ℕ → Bool → Bool → List ℕ
answered_head_end received len answers_head closes =
    cut_line_where received.cut
    ++ length_line_unless (has_no_length answers_head received.head.status) received.cut received.framing len
    ++ close_line_where (received.cut || closes)
    ++ crlf_bytes

-- the head of what the client gets of an origin's response, whose payload is so long; one that was cut closes the connection
unfoldable pub answered_head : Received → ℕ → Bool → Bool → List ℕ
answered_head received len answers_head closes =
    status_line received.head.status received.head.reason
    ++ client_lines (keeps_length answers_head received.head.status) (map named_value received.head.fields)
    ++ via_line (minor_of received.head.version)
    ++ answered_head_end received len answers_head closes

-- what the client gets of it: the payload stands behind the head
abbrev pub answered : Received → List ℕ → Bool → Bool → List ℕ
answered received payload answers_head closes = answered_head received (length payload) answers_head closes ++ payload
