-- Where a chunked body stands that is read piece by piece.
use Rattle.std.specs.Prelude.{◌≡◌, ◌≢◌, ℕ, ◌+◌, List, [], ◌∷◌, length, ⊤}
use Rattle.std.specs.List.{flat_map}
use Rattle.httparse.specs.Ascii.{carriage_return}
use Rattle.httparse.specs.Grammar.{ChunkLine, chunk_size}
use Rattle.capture.specs.Body.{IsWithinLimits}
use Rattle.capture.specs.Chunks.{Chunk, print_chunk, Begun, InLine, InData, InLineEnd, InTrailer, IsCutBody, print_cut}
use Rattle.capture.specs.FirstChunks.{HoldsChunked, RefusesChunked}
use Rattle.body_reader.specs.steps.TrailerPlaces.{place_after}
use Rattle.body_reader.specs.declared.trailer.TrailerPlace.{TrailerPlace}
use Rattle.body_reader.specs.declared.trailer.TrailerPlace.TheVariants.{LineStart, Ended}
use Rattle.body_reader.specs.declared.chunks.place.ChunkPlace.{ChunkPlace}
use Rattle.body_reader.specs.declared.chunks.place.ChunkPlace.TheVariants.{Line, Data, LineEnd, LineEndCr, Trailer, Whole, Refused}

-- the stream is these chunks and what is begun, within the limits
pub record IsCutAt (chunks : List Chunk) (begun : Begun) (stream : List ℕ) : Type 0 where
  pub valid : IsCutBody (record { chunks = chunks; begun = begun })
  pub within : IsWithinLimits (record { chunks = chunks; begun = begun })
  pub composed : stream ≡ print_cut (record { chunks = chunks; begun = begun })

-- inside a size line, which begins behind so many bytes
pub record InLineAt (start : ℕ) (stream : List ℕ) : Type 0 where
  pub chunks : List Chunk
  pub come : List ℕ
  pub cut : IsCutAt chunks (InLine come) stream
  pub start_is : start ≡ length (flat_map print_chunk chunks)

-- inside a chunk's data, of which so many bytes are to come
pub record InDataAt (left : ℕ) (stream : List ℕ) : Type 0 where
  pub chunks : List Chunk
  pub line : ChunkLine
  pub come : List ℕ
  pub cut : IsCutAt chunks (InData line come) stream
  pub left_is : length come + left ≡ chunk_size line

-- behind a chunk's data and this part of its line end
pub record InLineEndAt (end_bytes stream : List ℕ) : Type 0 where
  pub chunks : List Chunk
  pub line : ChunkLine
  pub data_bytes : List ℕ
  pub cut : IsCutAt chunks (InLineEnd line data_bytes end_bytes) stream

-- inside the trailer section, which begins behind so many bytes and stands at that place
pub record InTrailerAt (start : ℕ) (place : TrailerPlace) (stream : List ℕ) : Type 0 where
  pub chunks : List Chunk
  pub line : ChunkLine
  pub come : List ℕ
  pub cut : IsCutAt chunks (InTrailer line come) stream
  pub start_is : start + length come ≡ length stream
  pub place_is : place ≡ place_after LineStart come
  pub going : place ≢ Ended

-- the stream stands there
abbrev pub StandsAt : ChunkPlace → List ℕ → Type 0
StandsAt (Line start) stream = InLineAt start stream
StandsAt (Data left) stream = InDataAt left stream
StandsAt LineEnd stream = InLineEndAt [] stream
StandsAt LineEndCr stream = InLineEndAt (carriage_return ∷ []) stream
StandsAt (Trailer start place) stream = InTrailerAt start place stream
StandsAt Whole stream = HoldsChunked stream (length stream)
StandsAt (Refused fault) stream = RefusesChunked stream fault

-- neither whole nor refused
abbrev pub IsGoing : ChunkPlace → Type 0
IsGoing (Line start) = ⊤
IsGoing (Data left) = ⊤
IsGoing LineEnd = ⊤
IsGoing LineEndCr = ⊤
IsGoing (Trailer start place) = ⊤
IsGoing Whole = ⊥
IsGoing (Refused fault) = ⊥
