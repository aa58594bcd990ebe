-- A chunked body (RFC 9112, section 7.1): whole, or as far as it came before it was cut.
use Rattle.std.specs.Prelude.{◌≡◌, ◌≢◌, ◌⊎◌, ℕ, ◌<◌, List, [], ◌∷◌, ◌++◌, length, All, None}
use Rattle.std.specs.List.{flat_map}
use Rattle.httparse.specs.Ascii.{carriage_return, line_feed, crlf_bytes}
use Rattle.httparse.specs.Grammar.{ChunkLine, chunk_size, print_chunk_line, IsChunkLine, Field, IsField, LineEnd, print_section}
use Rattle.capture.specs.Head.{section_len}

-- a chunk: its size line, and its data
pub record Chunk : Type 0 where
  pub line : ChunkLine
  pub data_bytes : List ℕ

-- chunks, the line of size 0, and the trailer section
pub record ChunkedBody : Type 0 where
  pub chunks : List Chunk
  pub last : ChunkLine
  pub trailer : List Field
  pub end : LineEnd

-- a chunk's bytes
abbrev pub print_chunk : Chunk → List ℕ
print_chunk c = print_chunk_line c.line ++ c.data_bytes ++ crlf_bytes

-- a chunked body's bytes
abbrev pub print_chunked : ChunkedBody → List ℕ
print_chunked b = flat_map print_chunk b.chunks ++ print_chunk_line b.last ++ print_section b.trailer b.end

-- the data has the size that the line says, which isn't 0
pub record IsChunk (c : Chunk) : Type 0 where
  pub line : IsChunkLine c.line
  pub some : 0 < chunk_size c.line
  pub size : length c.data_bytes ≡ chunk_size c.line

-- each part is of its class
pub record IsChunkedBody (b : ChunkedBody) : Type 0 where
  pub chunks : All IsChunk b.chunks
  pub last : IsChunkLine b.last
  pub zero : chunk_size b.last ≡ 0
  pub trailer : All IsField b.trailer

-- the data of chunks, joined
abbrev pub joined_data : List Chunk → List ℕ
joined_data chunks = flat_map (λ c. c.data_bytes) chunks

-- How far a body came behind its whole chunks: inside a size line; inside a chunk's data; behind the data, before its
-- line end is whole; or, behind the line of size 0, inside the trailer section.
pub data Begun : Type 0 where
  InLine : (come : List ℕ) → Begun
  InData : (line : ChunkLine) (come : List ℕ) → Begun
  InLineEnd : (line : ChunkLine) (data_bytes come : List ℕ) → Begun
  InTrailer : (line : ChunkLine) (come : List ℕ) → Begun

-- the bytes that came
abbrev pub print_begun : Begun → List ℕ
print_begun (InLine come) = come
print_begun (InData line come) = print_chunk_line line ++ come
print_begun (InLineEnd line data_bytes come) = print_chunk_line line ++ data_bytes ++ come
print_begun (InTrailer line come) = print_chunk_line line ++ come

-- the data that came
abbrev pub begun_data : Begun → List ℕ
begun_data (InLine come) = []
begun_data (InData line come) = come
begun_data (InLineEnd line data_bytes come) = data_bytes
begun_data (InTrailer line come) = []

-- nothing of a line end, or its CR
abbrev pub IsBegunLineEnd : List ℕ → Type 0
IsBegunLineEnd come = (come ≡ []) ⊎ (come ≡ carriage_return ∷ [])

-- each part is of its class, and more is to come: a size line's LF, data, the line end behind it, or the trailer's empty
-- line
abbrev pub IsBegun : Begun → Type 0
IsBegun (InLine come) = All (λ b. b ≢ line_feed) come
IsBegun (InData line come) = IsChunkLine line × (length come < chunk_size line)
IsBegun (InLineEnd line data_bytes come) = IsChunk (record { line = line; data_bytes = data_bytes }) × IsBegunLineEnd come
IsBegun (InTrailer line come) = IsChunkLine line × (chunk_size line ≡ 0) × (section_len come ≡ None)

-- whole chunks, and how far the body came behind them
pub record CutBody : Type 0 where
  pub chunks : List Chunk
  pub begun : Begun

-- the bytes that came
abbrev pub print_cut : CutBody → List ℕ
print_cut c = flat_map print_chunk c.chunks ++ print_begun c.begun

-- the data that came
abbrev pub cut_data : CutBody → List ℕ
cut_data c = joined_data c.chunks ++ begun_data c.begun

-- each part is of its class
pub record IsCutBody (c : CutBody) : Type 0 where
  pub chunks : All IsChunk c.chunks
  pub begun : IsBegun c.begun
