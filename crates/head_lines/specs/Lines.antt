-- Lines of a message's head, and the body behind it (RFC 9112, sections 2 to 6).
use Rattle.std.specs.Prelude.{ℕ, Bool, ◌||◌, ◌==◌, List, [], ◌∷◌, ◌++◌, codes, decimal, if◌then◌else◌}
use Rattle.httparse.specs.Ascii.{space, crlf_bytes}
use Rattle.capture.specs.Fields.{NamedValue}
use Rattle.head_lines.specs.Statuses.{status_code, reason_phrase}
use Rattle.head_lines.specs.declared.status.Status.{Status}

-- the first line of a response (RFC 9112, section 4)
unfoldable pub status_line : ℕ → List ℕ → List ℕ
status_line status reason = codes "HTTP/1.1 " ++ decimal status ++ (space ∷ []) ++ reason ++ crlf_bytes

-- the first line of an answer of the program's own
abbrev pub own_status_line : Status → List ℕ
own_status_line status = status_line (status_code status) (reason_phrase status)

-- a field's line (RFC 9112, section 5)
abbrev pub field_line : NamedValue → List ℕ
field_line f = f.0 ++ codes ": " ++ f.1 ++ crlf_bytes

-- what the body is (RFC 9110, section 8.3)
unfoldable pub type_line : List ℕ → List ℕ
type_line media_type = field_line (codes "Content-Type", media_type)

-- how many bytes the body has (RFC 9110, section 8.6)
unfoldable pub length_line : ℕ → List ℕ
length_line n = codes "Content-Length: " ++ decimal n ++ crlf_bytes

-- a response of this status has no body, and tells no length (RFC 9110, sections 6.4.1 and 8.6)
abbrev pub tells_no_length : ℕ → Bool
tells_no_length status = status == 204 || status == 304

-- the connection closes (RFC 9112, section 9.6)
unfoldable pub close_line : List ℕ
close_line = codes "Connection: close" ++ crlf_bytes

-- whether the connection closes
unfoldable pub close_line_where : Bool → List ℕ
close_line_where closes = if closes then close_line else []

-- what stands before the links (RFC 8288, section 3)
unfoldable pub link_name : List ℕ
link_name = codes "Link: "

-- the field with these links
abbrev pub link_line : List ℕ → List ℕ
link_line links = link_name ++ links ++ crlf_bytes

-- what ends the head of an answer: the length of its body, whether the connection closes, and the empty line
unfoldable pub head_end : ℕ → Bool → List ℕ
head_end length closes = length_line length ++ close_line_where closes ++ crlf_bytes

-- the body, which an answer to HEAD doesn't have (RFC 9110, section 9.3.2)
abbrev pub body_unless : Bool → List ℕ → List ℕ
body_unless answers_head body = if answers_head then [] else body
