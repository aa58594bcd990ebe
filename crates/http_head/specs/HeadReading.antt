-- A stream that is collected up to the end of its head.
use Rattle.std.specs.Prelude.{◌≡◌, ℕ, ◌≤◌, ◌⊎◌, List, [], ◌∷◌, length, None}
use Rattle.httparse.specs.Ascii.{carriage_return}
use Rattle.capture.specs.Head.{head_end, front_of, line_ends_len, after_line_ends}
use Rattle.capture.specs.Head as head
use Rattle.capture.specs.declared.limits.TheConstants.{HEAD_LIMIT}
use Rattle.http_head.specs.declared.head_reader.HeadProgress.{HeadProgress}
use Rattle.http_head.specs.declared.head_reader.HeadProgress.TheVariants.{More, Head, TooLong}

-- the head hasn't ended, and one more byte may come
abbrev pub IsOpen : List ℕ → Type 0
IsOpen stream = (head_end stream ≡ None) × (length stream ≤ HEAD_LIMIT)

-- the stream is one head within the limits, behind its line ends, and ends with it
abbrev pub EndsWithHead : List ℕ → Type 0
EndsWithHead stream = front_of stream ≡ head.Head (line_ends_len stream) (after_line_ends stream)

-- the stream has passed a limit
abbrev pub IsTooLong : List ℕ → Type 0
IsTooLong stream = front_of stream ≡ head.TooLong

-- what is said of the stream so far
abbrev pub Reaches : HeadProgress → List ℕ → Type 0
Reaches More stream = IsOpen stream
Reaches Head stream = EndsWithHead stream
Reaches TooLong stream = IsTooLong stream

-- nothing but line ends
abbrev pub IsBlank : List ℕ → Type 0
IsBlank stream = after_line_ends stream ≡ []

-- nothing but line ends, and perhaps the CR of one more
abbrev pub MayBeBlank : List ℕ → Type 0
MayBeBlank stream = (after_line_ends stream ≡ []) ⊎ (after_line_ends stream ≡ carriage_return ∷ [])
