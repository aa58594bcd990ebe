-- What the pieces of a line's text show of the line.
use Rattle.std.specs.Prelude.{◌≡◌, ℕ, List, [], ◌∷◌, ◌++◌, codes, decimal}
use Rattle.digest32.specs.Base32.{base32}
use Rattle.json.specs.Print.{escape}
use Rattle.cdxj_line.specs.Lines.{file_name}
use Rattle.cdxj_line.specs.declared.line.Line.{Line}
use Rattle.time_text.specs.Texts.{time_digits}
use Rattle.cdxj_line.specs.declared.read.Parts.{Parts}
use Rattle.cdxj_line.specs.declared.members.Members.{Members}
use Rattle.cdxj_line.specs.declared.shown.Numbers.{Numbers}

-- a member between what stands before its value and what stands behind its closing quote
abbrev pub between : List ℕ → List ℕ → List ℕ → List ℕ
between front value rest = front ++ (value ++ 34 ∷ rest)

-- an object, by the strings of its members as they stand between their quotes
unfoldable pub joined : (digest filename length method mime number offset status url : List ℕ) → List ℕ
joined digest filename length method mime number offset status url =
    between (codes "{\"digest\":\"") digest (between (codes ",\"filename\":\"") filename (between (codes ",\"length\":\"") length
    (between (codes ",\"method\":\"") method (between (codes ",\"mime\":\"") mime (between (codes ",\"number\":\"") number
    (between (codes ",\"offset\":\"") offset (between (codes ",\"status\":\"") status (between (codes ",\"url\":\"") url (codes "}")))))))))

-- the object that has these strings
abbrev pub text_of : Members → List ℕ
text_of m = joined m.digest.now m.filename.now m.length.now m.method.now m.mime.now m.number.now m.offset.now m.status.now m.url.now

-- the strings are those of the line's JSON object
pub record Shows (line : Line) (members : Members) : Type 0 where
  pub digest : members.digest.now ≡ escape (base32 line.digest)
  pub filename : members.filename.now ≡ escape (file_name line.volume)
  pub length : members.length.now ≡ escape (decimal line.length)
  pub method : members.method.now ≡ escape line.method
  pub mime : members.mime.now ≡ escape line.mime
  pub number : members.number.now ≡ escape (decimal line.number)
  pub offset : members.offset.now ≡ escape (decimal line.offset)
  pub status : members.status.now ≡ escape (decimal line.status)
  pub url : members.url.now ≡ escape line.url

-- the numbers are those of the line
pub record IsPartOf (line : Line) (numbers : Numbers) : Type 0 where
  pub volume : numbers.volume ≡ line.volume
  pub length : numbers.length ≡ line.length
  pub number : numbers.number ≡ line.number
  pub offset : numbers.offset ≡ line.offset
  pub status : numbers.status ≡ line.status

-- and the strings tell them
pub record TellNumbers (members : Members) (numbers : Numbers) : Type 0 where
  pub volume : members.filename.now ≡ escape (file_name numbers.volume)
  pub length : members.length.now ≡ escape (decimal numbers.length)
  pub number : members.number.now ≡ escape (decimal numbers.number)
  pub offset : members.offset.now ≡ escape (decimal numbers.offset)
  pub status : members.status.now ≡ escape (decimal numbers.status)

-- the text of the parts of a line
abbrev pub IsTextOf : Parts → List ℕ → Type 0
IsTextOf parts text = text ≡ parts.key.now ++ 32 ∷ (time_digits parts.date ++ 32 ∷ (text_of parts.members ++ 10 ∷ []))

-- the parts are those of the line
pub record ShowsLine (line : Line) (parts : Parts) : Type 0 where
  pub key : parts.key.now ≡ line.key
  pub date : parts.date ≡ line.date
  pub members : Shows line parts.members
