-- The fields of a record that an import reads (ISO 28500:2017, section 5). Where a field repeats, the first counts, save for
-- WARC-Concurrent-To, all of which count. Types are compared in exact case.
use Rattle.std.specs.Prelude.{◌≡◌, ℕ, ◌-◌, Bool, true, false, not, ◌&&◌, ◌==◌, nat_le, List, codes, length, take, drop, slice_get, slice_index_or, Option, Some, option_map, IsTrue, if◌then◌else◌}
use Rattle.std.specs.List.{list_any, prefix_len}
use Rattle.std.specs.Option.{is_some, option_map_or}
use Rattle.std.specs.Str.{bytes_eq}
use Rattle.httparse.specs.Ascii.{semicolon}
use Rattle.httparse.specs.Grammar.{trim_ows}
use Rattle.capture.specs.Fields.{NamedValue, values_of}
use Rattle.capture.specs.Target.{is_accepted_uri}
use Rattle.warc_reader.specs.Records.{warc_type}
use Rattle.warc_reader.specs.declared.kind.Kind.{Kind}
use Rattle.warc_reader.specs.declared.kind.Kind.TheVariants.{Response, Revisit, Request, Other}

abbrev pub record_id : List ℕ
record_id = codes "warc-record-id"

abbrev pub concurrent_to : List ℕ
concurrent_to = codes "warc-concurrent-to"

abbrev pub target_uri : List ℕ
target_uri = codes "warc-target-uri"

abbrev pub date_field : List ℕ
date_field = codes "warc-date"

abbrev pub truncated : List ℕ
truncated = codes "warc-truncated"

abbrev pub segment_number : List ℕ
segment_number = codes "warc-segment-number"

abbrev pub content_type : List ℕ
content_type = codes "content-type"

-- the value of the first field of that name
abbrev pub first_of : List ℕ → List NamedValue → Option (List ℕ)
first_of name fields = slice_get (values_of name fields) 0

-- ---- the type (5.5)

abbrev pub kind_named : List ℕ → Kind
kind_named value =
    if bytes_eq value (codes "response") then Response
    else (if bytes_eq value (codes "revisit") then Revisit
    else (if bytes_eq value (codes "request") then Request else Other))

abbrev pub kind_by : Option (List ℕ) → Kind
kind_by value = option_map_or kind_named value Other

abbrev pub kind_of : List NamedValue → Kind
kind_of fields = kind_by (first_of warc_type fields)

-- a record of type `response` or `revisit`, which gives a capture or is skipped
abbrev pub is_counted : Kind → Bool
is_counted Response = true
is_counted Revisit = true
is_counted Request = false
is_counted Other = false

-- ---- the block's media type (5.6; RFC 9110, 8.3.1)

-- what stands before the first `;`, without the blanks around it
abbrev pub media_type : List ℕ → List ℕ
media_type value = trim_ows (take (prefix_len (λ b. not (b == semicolon)) value) value)

abbrev pub is_http_type : List ℕ → Bool
is_http_type value = bytes_eq (media_type value) (codes "application/http")

abbrev pub has_http_type : List NamedValue → Bool
has_http_type fields = option_map_or is_http_type (first_of content_type fields) false

-- ---- the target (5.12)

-- it begins with `<` and ends with `>`
abbrev pub is_bracketed : List ℕ → Bool
is_bracketed text = nat_le 2 (length text) && slice_index_or text 0 0 == 60 && slice_index_or text (length text - 1) 0 == 62

-- without the one pair of brackets, where it has them
abbrev pub without_brackets : List ℕ → List ℕ
without_brackets text = if is_bracketed text then take (length text - 2) (drop 1 text) else text

-- the target that the record names
abbrev pub target_of : List NamedValue → Option (List ℕ)
target_of fields = option_map without_brackets (first_of target_uri fields)

-- it names this accepted absolute target
abbrev pub HasTarget : List NamedValue → List ℕ → Type 0
HasTarget fields uri = (target_of fields ≡ Some uri) × IsTrue (is_accepted_uri uri)

-- ---- truncated blocks (5.13)

abbrev pub is_truncated : List NamedValue → Bool
is_truncated fields = is_some (first_of truncated fields)

-- ---- segments (section 7): the block is a part of the record's, the first one too

abbrev pub is_segmented : List NamedValue → Bool
is_segmented fields = is_some (first_of segment_number fields)

-- ---- which records stand together (5.7)

-- the id is one of these
abbrev pub names_id : Option (List ℕ) → List (List ℕ) → Bool
names_id id ids = option_map_or (λ i. list_any (λ other. bytes_eq other i) ids) id false

-- the id is this one
abbrev pub has_id : List ℕ → Option (List ℕ) → Bool
has_id id own = option_map_or (λ i. bytes_eq i id) own false
