-- What stands at the front of a text that is to be a chunked body, or what is left of one (RFC 9112, section 7.1).
use Rattle.std.specs.Prelude.{◌≡◌, ℕ, ◌+◌, ◌<◌, ◌≤◌, List, ◌++◌, length, drop}
use Rattle.httparse.specs.Grammar.{ChunkLine, IsChunkLine, chunk_size, print_chunk_line}
use Rattle.httparse.specs.Ascii.{crlf_bytes}
use Rattle.httparse.specs.Spans.{span_bytes, IsChunkLineAt}
use Rattle.httparse.specs.declared.spans.Span.{Span}
use Rattle.capture.specs.Chunks.{Chunk, IsChunk, print_chunk, ChunkedBody, IsChunkedBody, print_chunked, Begun, IsBegun, print_begun, begun_data, IsBegunLineEnd, CutBody, IsCutBody, print_cut}
use Rattle.message_body.specs.declared.split.Split.{Split}
use Rattle.message_body.specs.declared.split.Split.TheVariants.{Piece, Last, Cut, Nothing}
use Rattle.message_body.specs.declared.split.LineEndSeen.{LineEndSeen}
use Rattle.message_body.specs.declared.split.LineEndSeen.TheVariants.{Whole, Open, Wrong}

-- the text is no whole chunked body
pub record HasNoBody (text : List ℕ) : Type 0 where
  pub none : (b : ChunkedBody) → IsChunkedBody b → text ≡ print_chunked b → ⊥

-- the text is no chunked body that was cut
pub record HasNoCut (text : List ℕ) : Type 0 where
  pub none : (c : CutBody) → IsCutBody c → text ≡ print_cut c → ⊥

-- a chunk stands at the front, whose data lies there and which ends two bytes behind it
pub record HoldsChunk (text : List ℕ) (data_span : Span) : Type 0 where
  pub chunk : Chunk
  pub valid : IsChunk chunk
  pub composed : text ≡ print_chunk chunk ++ drop (data_span.end + 2) text
  pub data_is : span_bytes text data_span ≡ chunk.data_bytes
  pub ordered : data_span.start ≤ data_span.end
  pub fits : data_span.end + 2 ≤ length text

-- a size line of 0 stands at the front and ends there
pub record HoldsLast (text : List ℕ) (start : ℕ) : Type 0 where
  pub line : ChunkLine
  pub valid : IsChunkLine line
  pub zero : chunk_size line ≡ 0
  pub composed : text ≡ print_chunk_line line ++ drop start text
  pub fits : start ≤ length text

-- the text ends inside a size line or a chunk, whose data as far as it came lies there
pub record HoldsCut (text : List ℕ) (data_span : Span) : Type 0 where
  pub begun : Begun
  pub valid : IsBegun begun
  pub composed : text ≡ print_begun begun
  pub data_is : span_bytes text data_span ≡ begun_data begun
  pub ordered : data_span.start ≤ data_span.end
  pub fits : data_span.end ≤ length text

-- what stands at the front
abbrev pub IsSplit : List ℕ → Split → Type 0
IsSplit text (Piece data_span) = HoldsChunk text data_span
IsSplit text (Last start) = HoldsLast text start
IsSplit text (Cut data_span) = HoldsCut text data_span
IsSplit text Nothing = HasNoBody text × HasNoCut text

-- a size line and its data stand at the front
pub record HoldsData (text : List ℕ) (data_span : Span) : Type 0 where
  pub line : ChunkLine
  pub size : ℕ
  pub at : IsChunkLineAt text data_span.start size line
  pub some : 0 < size
  pub end_is : data_span.end ≡ data_span.start + size
  pub fits : data_span.end ≤ length text

-- what stands behind a chunk's data: its line end, a part of that, or neither
abbrev pub IsLineEndSeen : List ℕ → LineEndSeen → Type 0
IsLineEndSeen bytes Whole = (rest : List ℕ) × (bytes ≡ crlf_bytes ++ rest)
IsLineEndSeen bytes Open = IsBegunLineEnd bytes
IsLineEndSeen bytes Wrong = ((rest : List ℕ) → bytes ≡ crlf_bytes ++ rest → ⊥) × (IsBegunLineEnd bytes → ⊥)
