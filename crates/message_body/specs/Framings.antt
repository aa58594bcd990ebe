-- The framing that a head in parts tells (RFC 9112, section 6.3), with a length kept in 64 bits.
use Rattle.std.specs.Prelude.{ℕ, ◌^◌, ◌&&◌, ◌==◌, nat_lt, List, map, Option, Some, None, Result, Ok, Err, Bool, if◌then◌else◌}
use Rattle.std.specs.List.{list_all}
use Rattle.std.specs.Str.Parse.{digits_value}
use Rattle.httparse.specs.Grammar.{trim_ows}
use Rattle.capture.specs.Fields.{split_at_commas}
use Rattle.capture.specs.Framing.{is_number, length_of_members, framing_of_request, framing_of_response}
use Rattle.capture.specs.declared.framing.Framing.{Framing}
use Rattle.capture.specs.declared.framing.Framing.TheVariants.{Empty, Length, Chunked, ToEnd}
use Rattle.capture.specs.declared.framing.FramingFault.{FramingFault}
use Rattle.capture.specs.declared.framing.FramingFault.TheVariants.{Malformed, CodingRefused}
use Rattle.http_head.specs.Heads.{minor_of, named_value}
use Rattle.http_head.specs.declared.head.RequestHead.{RequestHead}
use Rattle.http_head.specs.declared.head.ResponseHead.{ResponseHead}
use Rattle.http_head.specs.declared.head.WireFault.{WireFault}
use Rattle.http_head.specs.declared.head.WireFault.TheVariants as wire

-- the framing that a request's head tells
abbrev pub told_by_request : RequestHead → Result Framing FramingFault
told_by_request head = framing_of_request (minor_of head.version) (map named_value head.fields)

-- the framing that a response's head tells, to HEAD or to another method
abbrev pub told_by_response : Bool → ResponseHead → Result Framing FramingFault
told_by_response answers_head head =
    framing_of_response answers_head (minor_of head.version) head.status (map named_value head.fields)

-- the fault of a message
abbrev pub wire_fault : FramingFault → WireFault
wire_fault Malformed = wire.Malformed
wire_fault CodingRefused = wire.CodingRefused

-- a length below 2 to the 64th
abbrev pub length_answer : Result ℕ FramingFault → Result ℕ WireFault
length_answer (Ok n) = if nat_lt n (2 ^ 64) then Ok n else Err wire.BodyTooLong
length_answer (Err fault) = Err (wire_fault fault)

-- a framing, whose length is below 2 to the 64th
abbrev pub framing_answer : Result Framing FramingFault → Result Framing WireFault
framing_answer (Ok Empty) = Ok Empty
framing_answer (Ok (Length n)) = if nat_lt n (2 ^ 64) then Ok (Length n) else Err wire.BodyTooLong
framing_answer (Ok Chunked) = Ok Chunked
framing_answer (Ok ToEnd) = Ok ToEnd
framing_answer (Err fault) = Err (wire_fault fault)

-- the members of a list between commas, without the blanks around them
abbrev pub members : List ℕ → List (List ℕ)
members list = map trim_ows (split_at_commas list)

-- the one number that the members are, where those before were this number, or none came before
abbrev pub told_behind : Option ℕ → List (List ℕ) → Result ℕ FramingFault
told_behind None texts = length_of_members texts
told_behind (Some n) texts =
    if list_all (λ m. is_number m && digits_value 10 m == n) texts then Ok n else Err Malformed
