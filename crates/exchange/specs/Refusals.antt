-- What a refusal is answered with.
use Rattle.std.specs.Prelude.{ℕ, Bool, true, List, [], ◌∷◌, ◌++◌, codes, decimal, length}
use Rattle.httparse.specs.Ascii.{line_feed, space, crlf_bytes}
use Rattle.capture.specs.declared.refusal.Refusal.{Refusal}
use Rattle.capture.specs.declared.refusal.Refusal.TheVariants.{Malformed, TargetRefused, BadTime, BadAcceptDatetime, BadQuery, NotAForm, NoCapture, NoSuch, MethodRefused, BodyTooLong, HeadTooLong, ClockRange, ConnectRefused, SecureRefused, CodingRefused, DialFault, OriginFault, OriginEnded, OriginMalformed, OriginTooLong, TooManyInterim, Full, DiskFault, Damaged}
use Rattle.head_lines.specs.Lines.{own_status_line, type_line, head_end, body_unless}
use Rattle.head_lines.specs.declared.status.Status.{Status}
use Rattle.head_lines.specs.declared.status.Status.TheVariants as status

-- the status
unfoldable pub refusal_status : Refusal → Status
refusal_status Malformed = status.BadRequest
refusal_status TargetRefused = status.BadRequest
refusal_status BadTime = status.BadRequest
refusal_status BadAcceptDatetime = status.BadRequest
refusal_status BadQuery = status.BadRequest
refusal_status NotAForm = status.NotFound
refusal_status NoCapture = status.NotFound
refusal_status (NoSuch number count) = status.NotFound
refusal_status MethodRefused = status.MethodNotAllowed
refusal_status BodyTooLong = status.ContentTooLarge
refusal_status HeadTooLong = status.HeadTooLarge
refusal_status (ClockRange now) = status.InternalServerError
refusal_status ConnectRefused = status.NotImplemented
refusal_status SecureRefused = status.NotImplemented
refusal_status CodingRefused = status.NotImplemented
refusal_status DialFault = status.BadGateway
refusal_status OriginFault = status.BadGateway
refusal_status OriginEnded = status.BadGateway
refusal_status OriginMalformed = status.BadGateway
refusal_status OriginTooLong = status.BadGateway
refusal_status TooManyInterim = status.BadGateway
refusal_status (Full count limit) = status.InsufficientStorage
refusal_status DiskFault = status.InsufficientStorage
refusal_status (Damaged number kept found) = status.InsufficientStorage

-- the refusal in a word
unfoldable pub refusal_name : Refusal → List ℕ
refusal_name Malformed = codes "Malformed"
refusal_name TargetRefused = codes "TargetRefused"
refusal_name BadTime = codes "BadTime"
refusal_name BadAcceptDatetime = codes "BadAcceptDatetime"
refusal_name BadQuery = codes "BadQuery"
refusal_name NotAForm = codes "NotAForm"
refusal_name NoCapture = codes "NoCapture"
refusal_name (NoSuch number count) = codes "NoSuch"
refusal_name MethodRefused = codes "MethodRefused"
refusal_name BodyTooLong = codes "BodyTooLong"
refusal_name HeadTooLong = codes "HeadTooLong"
refusal_name (ClockRange now) = codes "ClockRange"
refusal_name ConnectRefused = codes "ConnectRefused"
refusal_name SecureRefused = codes "SecureRefused"
refusal_name CodingRefused = codes "CodingRefused"
refusal_name DialFault = codes "DialFault"
refusal_name OriginFault = codes "OriginFault"
refusal_name OriginEnded = codes "OriginEnded"
refusal_name OriginMalformed = codes "OriginMalformed"
refusal_name OriginTooLong = codes "OriginTooLong"
refusal_name TooManyInterim = codes "TooManyInterim"
refusal_name (Full count limit) = codes "Full"
refusal_name DiskFault = codes "DiskFault"
refusal_name (Damaged number kept found) = codes "Damaged"

-- a number behind a space
abbrev pub spaced : ℕ → List ℕ
spaced n = (space ∷ []) ++ decimal n

-- the numbers that it names
unfoldable pub refusal_numbers : Refusal → List ℕ
refusal_numbers (NoSuch number count) = spaced number ++ spaced count
refusal_numbers (ClockRange now) = spaced now
refusal_numbers (Full count limit) = spaced count ++ spaced limit
refusal_numbers (Damaged number kept found) = spaced number
refusal_numbers other = []

-- the methods that are served, where the method was refused (RFC 9110, section 10.2.1)
unfoldable pub allow_line : Refusal → List ℕ
allow_line MethodRefused = codes "Allow: GET, HEAD" ++ crlf_bytes
allow_line other = []

-- the word, the numbers and a line end
unfoldable pub refusal_body : Refusal → List ℕ
refusal_body refusal = refusal_name refusal ++ refusal_numbers refusal ++ (line_feed ∷ [])

-- the status line, and the type of what follows
unfoldable pub refusal_start : Refusal → List ℕ
refusal_start refusal =
    own_status_line (refusal_status refusal) ++ type_line (codes "text/plain")

-- the whole answer
unfoldable pub refusal_text : Refusal → Bool → Bool → List ℕ
refusal_text refusal answers_head closes =
    refusal_start refusal
    ++ allow_line refusal
    ++ head_end (length (refusal_body refusal)) closes
    ++ body_unless answers_head (refusal_body refusal)

-- the answer where memory ran out, which closes the connection
unfoldable pub memory_text : List ℕ
memory_text =
    own_status_line status.ServiceUnavailable ++ type_line (codes "text/plain")
    ++ head_end 7 true
    ++ codes "Memory" ++ (line_feed ∷ [])
