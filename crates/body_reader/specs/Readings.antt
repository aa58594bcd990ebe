-- How a body is read, and which bytes may have come.
use Rattle.std.specs.Prelude.{◌≡◌, ℕ, ◌+◌, ◌≤◌, List, [], length}
use Rattle.capture.specs.declared.framing.Framing.{Framing}
use Rattle.capture.specs.declared.framing.Framing.TheVariants as framing
use Rattle.capture.specs.declared.limits.TheConstants.{BODY_LIMIT}
use Rattle.body_reader.specs.steps.ChunkPlaces.{StandsAt}
use Rattle.body_reader.specs.declared.chunks.place.ChunkPlace.{ChunkPlace}
use Rattle.body_reader.specs.declared.chunks.place.ChunkPlace.TheVariants.{Line, Data, LineEnd, LineEndCr, Trailer, Whole, Refused}
use Rattle.body_reader.specs.declared.fed.BodyProgress.{BodyProgress}
use Rattle.body_reader.specs.declared.fed.BodyProgress.TheVariants.{More}
use Rattle.body_reader.specs.declared.fed.BodyProgress.TheVariants as progress
use Rattle.body_reader.specs.declared.reading.Reading.{Reading}
use Rattle.body_reader.specs.declared.reading.Reading.TheVariants.{Empty, Length, Chunked, ToEnd}

-- the framing by which it is read
abbrev pub framing_of : Reading → Framing
framing_of Empty = framing.Empty
framing_of (Length n) = framing.Length n
framing_of (Chunked place) = framing.Chunked
framing_of ToEnd = framing.ToEnd

-- the bytes that came are within the limit, with one more byte at most, and stand at the place
abbrev pub IsReading : Reading → List ℕ → Type 0
IsReading Empty stream = stream ≡ []
IsReading (Length n) stream = (n ≤ BODY_LIMIT) × (length stream ≤ n)
IsReading (Chunked place) stream = StandsAt place stream
IsReading ToEnd stream = length stream ≤ BODY_LIMIT + 1

-- how far a chunked body has come that stands there
abbrev pub progress_of : ChunkPlace → BodyProgress
progress_of (Line start) = More
progress_of (Data left) = More
progress_of LineEnd = More
progress_of LineEndCr = More
progress_of (Trailer start place) = More
progress_of Whole = progress.Whole
progress_of (Refused fault) = progress.Refused fault
