-- What is said of a stream's front stays so, however the stream goes on.
use Rattle.std.specs.Prelude.{◌≡◌, ℕ, List, ◌++◌, Some}
use Rattle.capture.specs.Head.{head_end, front_of}
use Rattle.capture.specs.Head as head

-- a head's end stays where it is
abbrev pub EndsStay : Type 0
EndsStay = (stream more : List ℕ) (end : ℕ) → head_end stream ≡ Some end → head_end (stream ++ more) ≡ Some end

-- and so does a head within the limits
abbrev pub HeadsStay : Type 0
HeadsStay =
    (stream more : List ℕ) (skipped : ℕ) (text : List ℕ) → front_of stream ≡ head.Head skipped text
    → front_of (stream ++ more) ≡ head.Head skipped text

-- what has passed a limit has passed it
abbrev pub TooLongStays : Type 0
TooLongStays = (stream more : List ℕ) → front_of stream ≡ head.TooLong → front_of (stream ++ more) ≡ head.TooLong
