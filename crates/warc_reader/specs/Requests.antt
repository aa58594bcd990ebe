-- The request of a response record (ISO 28500:2017, 5.7 and 6.4): the block of the first request record that stands with it, or
-- one that is made of its target.
use Rattle.std.specs.Prelude.{◌≡◌, ◌⊎◌, ℕ, ◌+◌, Bool, ◌&&◌, ◌||◌, false, true, List, [], ◌∷◌, ◌++◌, codes, length, Option, Some, None, if◌then◌else◌}
use Rattle.httparse.specs.Ascii.{crlf_bytes}
use Rattle.capture.specs.Fields.{NamedValue, named_values, values_of}
use Rattle.capture.specs.WellFormed.{IsRequestOf}
use Rattle.warc_reader.specs.Fields.{concurrent_to, first_of, has_id, kind_of, names_id, record_id}
use Rattle.warc_reader.specs.Records.{WarcRecord, print_record}
use Rattle.warc_reader.specs.declared.kind.Kind.{Kind}
use Rattle.warc_reader.specs.declared.kind.Kind.TheVariants.{Response, Revisit, Request, Other}

-- ---- places

-- a record, and the place of its first byte in the file
pub record Placed : Type 0 where
  pub at : ℕ
  pub form : WarcRecord

-- its fields
abbrev pub fields_of : Placed → List NamedValue
fields_of placed = named_values placed.form.fields

-- records one behind the other, the first of them at this place
abbrev pub placed_from : ℕ → List WarcRecord → List Placed
placed_from at [] = []
placed_from at (r ∷ records) = record { at = at; form = r } ∷ placed_from (at + length (print_record r)) records

-- the first that passes the test
abbrev pub first_where : (Placed → Bool) → List Placed → Option Placed
first_where test [] = None
first_where test (p ∷ others) = if test p then Some p else first_where test others

-- ---- the request record

abbrev pub is_request : Kind → Bool
is_request Response = false
is_request Revisit = false
is_request Request = true
is_request Other = false

-- a request record whose id is this one
abbrev pub is_request_with : List ℕ → Placed → Bool
is_request_with id p = is_request (kind_of (fields_of p)) && has_id id (first_of record_id (fields_of p))

-- a request record one of whose fields WARC-Concurrent-To is this id
abbrev pub is_request_beside : List ℕ → Placed → Bool
is_request_beside id p = is_request (kind_of (fields_of p)) && names_id (Some id) (values_of concurrent_to (fields_of p))

-- one of its fields WARC-Concurrent-To is the response's id, or its id is in one of the response's
abbrev pub stands_with : List NamedValue → Placed → Bool
stands_with response p =
    is_request (kind_of (fields_of p))
    && (names_id (first_of record_id response) (values_of concurrent_to (fields_of p))
    || names_id (first_of record_id (fields_of p)) (values_of concurrent_to response))

-- the first request record that stands with the response
abbrev pub found_request : List Placed → List NamedValue → Option Placed
found_request all response = first_where (stands_with response) all

-- ---- the request

-- what stands before the target in a request that is made, and behind it
unfoldable pub made_front : List ℕ
made_front = codes "GET "

unfoldable pub made_end : List ℕ
made_end = codes " HTTP/1.0" ++ crlf_bytes ++ crlf_bytes

-- `GET <uri> HTTP/1.0`, without fields
abbrev pub made_request : List ℕ → List ℕ
made_request uri = made_front ++ uri ++ made_end

-- a request of a method, in bytes
pub record Asked : Type 0 where
  pub method : List ℕ
  pub text : List ℕ

abbrev pub made : List ℕ → Asked
made uri = record { method = codes "GET"; text = made_request uri }

-- the block, where it is one whole request; else one that is made
abbrev pub IsAskedIn : List ℕ → List ℕ → Asked → Type 0
IsAskedIn block uri asked =
    (IsRequestOf asked.method block × (asked.text ≡ block))
    ⊎ (((method : List ℕ) → ¬ (IsRequestOf method block)) × (asked ≡ made uri))

-- the request by the record that was found
abbrev pub IsAskedBy : Option Placed → List ℕ → Asked → Type 0
IsAskedBy None uri asked = asked ≡ made uri
IsAskedBy (Some p) uri asked = IsAskedIn p.form.block uri asked

-- the request of a response record with these fields
abbrev pub IsAskedFor : List Placed → List NamedValue → List ℕ → Asked → Type 0
IsAskedFor all response uri asked = IsAskedBy (found_request all response) uri asked
