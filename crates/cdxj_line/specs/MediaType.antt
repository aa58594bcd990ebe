-- The media type of a response (RFC 9110, section 8.3), as lines and the index have it.
use Rattle.std.specs.Prelude.{ℕ, Bool, not, ◌&&◌, ◌==◌, List, length, codes, bytes_eq, take_while, slice_get, Option, Some, None, if◌then◌else◌}
use Rattle.std.specs.Char.{is_ascii_graphic}
use Rattle.std.specs.List.{list_all}
use Rattle.httparse.specs.Grammar.{trim_ows}
use Rattle.capture.specs.Fields.{NamedValue, lowered, values_of}

-- a value up to its first `;`, without the blanks at both ends, in lower case
abbrev pub type_text : List ℕ → List ℕ
type_text value = lowered (trim_ows (take_while (λ b. not (b == 59)) value))

-- the text is one or more graphic characters, and isn't the type that stands for a revisit
abbrev pub is_told : List ℕ → Bool
is_told text = not (length text == 0) && list_all is_ascii_graphic text && not (bytes_eq text (codes "warc/revisit"))

-- the text, where it tells a media type
abbrev pub type_or_unknown : List ℕ → List ℕ
type_or_unknown text = if is_told text then text else codes "unk"

-- the media type of a response by the value of its first Content-Type field
abbrev pub media_type : Option (List ℕ) → List ℕ
media_type (Some value) = type_or_unknown (type_text value)
media_type None = codes "unk"

-- the media type of a response with these fields
abbrev pub media_type_of : List NamedValue → List ℕ
media_type_of fields = media_type (slice_get (values_of (codes "content-type") fields) 0)
