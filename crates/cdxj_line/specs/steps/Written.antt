-- The text of a line's JSON object in the pieces in which it is written.
use Rattle.std.specs.Prelude.{ℕ, Bool, not, ◌&&◌, ◌==◌, nat_le, nat_lt, List, [], ◌++◌, codes, decimal, if◌then◌else◌}
use Rattle.digest32.specs.Base32.{base32}
use Rattle.json.specs.Print.{quoted}
use Rattle.time_text.specs.Texts.{time_digits}
use Rattle.cdxj_line.specs.Lines.{file_name}
use Rattle.cdxj_line.specs.declared.line.Line.{Line}

-- the byte is of ASCII and stands for itself in a JSON string
abbrev pub is_plain : ℕ → Bool
is_plain b = not (b == 34) && not (b == 92) && nat_le 32 b && nat_lt b 128

-- a member, of which what stands before its value is told
unfoldable pub member_text : List ℕ → List ℕ → List ℕ
member_text front value = front ++ quoted value

-- the first members, from the opening brace on
unfoldable pub first_members : Line → List ℕ
first_members line =
    member_text (codes "{\"digest\":") (base32 line.digest) ++ member_text (codes ",\"filename\":") (file_name line.volume)
    ++ member_text (codes ",\"length\":") (decimal line.length) ++ member_text (codes ",\"method\":") line.method
    ++ member_text (codes ",\"mime\":") line.mime

-- the numbers behind them
unfoldable pub number_members : Line → List ℕ
number_members line =
    member_text (codes ",\"number\":") (decimal line.number) ++ member_text (codes ",\"offset\":") (decimal line.offset)
    ++ member_text (codes ",\"status\":") (decimal line.status)

-- a member that an answer to a query has beside those of a line
unfoldable pub further_member : Bool → List ℕ → List ℕ → List ℕ
further_member further front value = if further then member_text front value else []

-- the last members, up to the closing brace
unfoldable pub last_members : Bool → Line → List ℕ
last_members further line =
    further_member further (codes ",\"timestamp\":") (time_digits line.date) ++ member_text (codes ",\"url\":") line.url
    ++ further_member further (codes ",\"urlkey\":") line.key ++ codes "}"
