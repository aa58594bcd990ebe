-- What tells a body's length (RFC 9112, section 6.3), without a limit on it.
use Rattle.std.specs.Prelude.{ℕ, Bool, false, ◌&&◌, ◌||◌, ◌==◌, nat_lt, List, [], ◌∷◌, codes, length, Result, Ok, Err, if◌then◌else◌}
use Rattle.std.specs.List.{list_all}
use Rattle.std.specs.Char.{is_ascii_digit}
use Rattle.std.specs.Str.{bytes_eq}
use Rattle.std.specs.Str.Parse.{digits_value}
use Rattle.httparse.specs.Grammar.{RequestHead, ResponseHead, status_code}
use Rattle.capture.specs.Fields.{NamedValue, named_values, has_field, values_of, members_of, lowered}
use Rattle.capture.specs.declared.framing.Framing.{Framing}
use Rattle.capture.specs.declared.framing.Framing.TheVariants.{Empty, Length, Chunked, ToEnd}
use Rattle.capture.specs.declared.framing.FramingFault.{FramingFault}
use Rattle.capture.specs.declared.framing.FramingFault.TheVariants.{Malformed, CodingRefused}

abbrev pub transfer_encoding : List ℕ
transfer_encoding = codes "transfer-encoding"

abbrev pub content_length : List ℕ
content_length = codes "content-length"

-- the one value `chunked`
abbrev pub is_chunked : List (List ℕ) → Bool
is_chunked [] = false
is_chunked (value ∷ []) = bytes_eq (lowered value) (codes "chunked")
is_chunked (value ∷ other ∷ values) = false

-- one digit or more
abbrev pub is_number : List ℕ → Bool
is_number text = nat_lt 0 (length text) && list_all is_ascii_digit text

-- the one number that the members are
abbrev pub length_of_members : List (List ℕ) → Result ℕ FramingFault
length_of_members [] = Err Malformed
length_of_members (first ∷ others) =
    if is_number first && list_all (λ m. is_number m && digits_value 10 m == digits_value 10 first) others
    then Ok (digits_value 10 first) else Err Malformed

-- the body's length by its fields Content-Length (RFC 9110, section 8.6)
abbrev pub framed_by_length : List NamedValue → Result Framing FramingFault
framed_by_length fields = elim (length_of_members (members_of content_length fields)) [ Ok n ↦ Ok (Length n) | Err e ↦ Err e ]

-- a coding other than `chunked` alone is refused
abbrev pub framed_by_coding : List NamedValue → Result Framing FramingFault
framed_by_coding fields =
    if is_chunked (values_of transfer_encoding fields) then Ok Chunked else Err CodingRefused

-- of a request, by its minor version and its fields
abbrev pub framing_of_request : ℕ → List NamedValue → Result Framing FramingFault
framing_of_request minor fields =
    if has_field transfer_encoding fields
    then (if minor == 0 || has_field content_length fields then Err Malformed else framed_by_coding fields)
    else (if has_field content_length fields then framed_by_length fields else Ok Empty)

-- no body follows a response of this status
abbrev pub is_bodiless : ℕ → Bool
is_bodiless status = nat_lt status 200 || status == 204 || status == 304

-- of a response to HEAD or to another method, by its minor version, its status and its fields
abbrev pub framing_of_response : Bool → ℕ → ℕ → List NamedValue → Result Framing FramingFault
framing_of_response answers_head minor status fields =
    if answers_head || is_bodiless status then Ok Empty
    else (if has_field transfer_encoding fields
    then (if minor == 0 then Err Malformed else framed_by_coding fields)
    else (if has_field content_length fields then framed_by_length fields else Ok ToEnd))

-- of a request's head
abbrev pub request_framing : RequestHead → Result Framing FramingFault
request_framing h = framing_of_request h.minor (named_values h.fields)

-- of a response's head
abbrev pub response_framing : Bool → ResponseHead → Result Framing FramingFault
response_framing answers_head h = framing_of_response answers_head h.minor (status_code h) (named_values h.fields)
