-- The lines of a record (ISO 28500, WARC 1.1, sections 4 and 5), and its block.
use Rattle.std.specs.Prelude.{ℕ, Bool, true, false, List, [], ◌++◌, codes, decimal, length}
use Rattle.httparse.specs.Ascii.{crlf_bytes}
use Rattle.digest32.specs.Base32.{base32}
use Rattle.time_text.specs.Texts.{warc_date}
use Rattle.warc_text.specs.declared.kind.RecordKind.{RecordKind}
use Rattle.warc_text.specs.declared.kind.RecordKind.TheVariants.{Info, Response, Revisit, Request}
use Rattle.warc_text.specs.Ids.{id_text, uuid_text}

-- a named field
unfoldable pub field : List ℕ → List ℕ → List ℕ
field name value = name ++ codes ": " ++ value ++ crlf_bytes

-- a field whose value is an id
unfoldable pub id_field : List ℕ → List ℕ → List ℕ
id_field name id = field name (id_text id)

-- a field whose value is a date
unfoldable pub date_field : List ℕ → ℕ → List ℕ
date_field name date = field name (warc_date date)

unfoldable pub version_line : List ℕ
version_line = codes "WARC/1.1" ++ crlf_bytes

unfoldable pub type_line : RecordKind → List ℕ
type_line Info = field (codes "WARC-Type") (codes "warcinfo")
type_line Response = field (codes "WARC-Type") (codes "response")
type_line Revisit = field (codes "WARC-Type") (codes "revisit")
type_line Request = field (codes "WARC-Type") (codes "request")

unfoldable pub id_line : List ℕ → List ℕ
id_line id = id_field (codes "WARC-Record-ID") id

unfoldable pub date_line : ℕ → List ℕ
date_line date = date_field (codes "WARC-Date") date

-- what each record begins with: the version, its type, its id and its date
unfoldable pub opening : RecordKind → List ℕ → ℕ → List ℕ
opening kind id date = version_line ++ type_line kind ++ id_line id ++ date_line date

unfoldable pub target_line : List ℕ → List ℕ
target_line uri = field (codes "WARC-Target-URI") uri

-- the digest of a payload
unfoldable pub digest_line : List ℕ → List ℕ
digest_line digest = field (codes "WARC-Payload-Digest") (codes "sha1:" ++ base32 digest)

-- the response that goes with a request
unfoldable pub concurrent_line : List ℕ → List ℕ
concurrent_line id = id_field (codes "WARC-Concurrent-To") id

-- the record that a revisit refers to
unfoldable pub refers_line : List ℕ → List ℕ
refers_line id = id_field (codes "WARC-Refers-To") id

unfoldable pub refers_target_line : List ℕ → List ℕ
refers_target_line uri = field (codes "WARC-Refers-To-Target-URI") uri

unfoldable pub refers_date_line : ℕ → List ℕ
refers_date_line date = date_field (codes "WARC-Refers-To-Date") date

-- a revisit whose payload is that of an earlier capture (section 6.7.2), and which ends with its head
unfoldable pub profile_lines : List ℕ
profile_lines =
    field (codes "WARC-Profile") (codes "http://netpreserve.org/warc/1.1/revisit/identical-payload-digest")
    ++ field (codes "WARC-Truncated") (codes "length")

-- that the origin ended inside the response's body (section 5.13)
unfoldable pub cut_line : Bool → List ℕ
cut_line true = field (codes "WARC-Truncated") (codes "disconnect")
cut_line false = []

-- the type of a record's block
unfoldable pub content_line : RecordKind → List ℕ
content_line Info = field (codes "Content-Type") (codes "application/warc-fields")
content_line Response = field (codes "Content-Type") (codes "application/http;msgtype=response")
content_line Revisit = field (codes "Content-Type") (codes "application/http;msgtype=response")
content_line Request = field (codes "Content-Type") (codes "application/http;msgtype=request")

-- the length of the block in decimal, and the empty line before it
unfoldable pub length_lines : ℕ → List ℕ
length_lines n = field (codes "Content-Length") (decimal n) ++ crlf_bytes

unfoldable pub record_end : List ℕ
record_end = crlf_bytes ++ crlf_bytes

-- what each record ends with: the length of its block, the block, and two line ends
unfoldable pub ended : List ℕ → List ℕ
ended block = length_lines (length block) ++ block ++ record_end

unfoldable pub software_lines : List ℕ
software_lines = field (codes "software") (codes "memproxy") ++ field (codes "archive-version") (codes "1")

unfoldable pub namespace_line : List ℕ → List ℕ
namespace_line namespace = field (codes "archive-namespace") (uuid_text namespace)

unfoldable pub volume_line : ℕ → List ℕ
volume_line volume = field (codes "archive-volume") (decimal volume)

-- what the warcinfo of a volume says
unfoldable pub info_block : List ℕ → ℕ → List ℕ
info_block namespace volume = software_lines ++ namespace_line namespace ++ volume_line volume
