-- CDXJ lines: the text of what a line says of a capture.
use Rattle.std.specs.Prelude.{◌≡◌, ℕ, ◌-◌, ◌^◌, ◌<◌, ◌≤◌, Bool, false, List, [], ◌∷◌, ◌++◌, length, replicate, codes, decimal, IsAscii, Some, if◌then◌else◌}
use Rattle.digest32.specs.Base32.{base32, IsDigest}
use Rattle.serde_json.specs.Data.{Data, string, object, Members, no_members, member}
use Rattle.serde_json.specs.Written.{compact_text}
use Rattle.surt_key.specs.Key.{key_of}
use Rattle.time_text.specs.Texts.{InRange, time_digits}
use Rattle.cdxj_line.specs.declared.line.Line.{Line}

-- a number in six decimal digits or more, zeros before it
abbrev pub six_digits : ℕ → List ℕ
six_digits number = replicate (6 - length (decimal number)) 48 ++ decimal number

-- the name of a volume's file: `vol-000000.warc`
abbrev pub file_name : ℕ → List ℕ
file_name volume = codes "vol-" ++ six_digits volume ++ codes ".warc"

-- the members of a JSON object, all of them strings
abbrev pub strings : List (List ℕ × List ℕ) → Members
strings [] = no_members
strings (pair ∷ pairs) = member pair.0 (string pair.1) (strings pairs)

-- a member that an answer to a query has beside those of a line
abbrev pub where_further : Bool → List ℕ × List ℕ → List (List ℕ × List ℕ)
where_further further pair = if further then pair ∷ [] else []

-- the members of a line's JSON object, in the order of the bytes of their keys; an answer to a query has two more
abbrev pub members_of : Bool → Line → List (List ℕ × List ℕ)
members_of further line =
    (codes "digest", base32 line.digest)
    ∷ (codes "filename", file_name line.volume)
    ∷ (codes "length", decimal line.length)
    ∷ (codes "method", line.method)
    ∷ (codes "mime", line.mime)
    ∷ (codes "number", decimal line.number)
    ∷ (codes "offset", decimal line.offset)
    ∷ (codes "status", decimal line.status)
    ∷ (where_further further (codes "timestamp", time_digits line.date)
    ++ ((codes "url", line.url) ∷ where_further further (codes "urlkey", line.key)))

-- the JSON object of a line
abbrev pub object_of : Bool → Line → Data
object_of further line = object (strings (members_of further line))

-- that object's text, which has no blank between its parts
unfoldable pub object_text : Bool → Line → List ℕ
object_text further line = compact_text (object_of further line)

-- the text of a line: the key, the date and the object, with a blank after the first two and LF after the last
unfoldable pub line_text : Line → List ℕ
line_text line = line.key ++ codes " " ++ time_digits line.date ++ codes " " ++ object_text false line ++ codes "\n"

-- the line can be written: its date has a text, its status is of three digits, and the key is that of the url
pub record IsWritable (line : Line) : Type 0 where
  pub date : InRange line.date
  pub status_from : 100 ≤ line.status
  pub status_to : line.status ≤ 999
  pub key : key_of line.url ≡ Some line.key

-- the parts are in the ranges of their types
pub record HasTypes (line : Line) : Type 0 where
  pub digest : IsDigest line.digest
  pub volume : line.volume < 2 ^ 32
  pub length : line.length < 2 ^ 64
  pub method : IsAscii line.method
  pub mime : IsAscii line.mime
  pub number : line.number < 2 ^ 32
  pub offset : line.offset < 2 ^ 64
  pub url : IsAscii line.url

-- a line that has a text
pub record IsLine (line : Line) : Type 0 where
  pub typed : HasTypes line
  pub writable : IsWritable line
