-- Which bytes are a body of a framing (RFC 9112, section 6.3), and which are one that was cut.
use Rattle.std.specs.Prelude.{◌≡◌, ℕ, ◌+◌, ◌<◌, ◌≤◌, List, [], length, All, ⊤, Bool, true, false}
use Rattle.std.specs.List.{flat_map}
use Rattle.httparse.specs.Grammar.{ChunkLine, chunk_size, print_chunk_line}
use Rattle.capture.specs.Chunks.{Chunk, ChunkedBody, IsChunkedBody, print_chunk, print_chunked, Begun, InLine, InData, InLineEnd, InTrailer, CutBody, IsCutBody, print_begun, print_cut}
use Rattle.capture.specs.declared.framing.Framing.{Framing}
use Rattle.capture.specs.declared.framing.Framing.TheVariants.{Empty, Length, Chunked, ToEnd}
use Rattle.capture.specs.declared.limits.TheConstants.{BODY_LIMIT, HEAD_LIMIT, SIZE_LINE_LIMIT}

-- the wire is one body of the framing, which here has no limit
abbrev pub IsBody : Framing → List ℕ → Type 0
IsBody Empty wire = wire ≡ []
IsBody (Length n) wire = length wire ≡ n
IsBody Chunked wire = (b : ChunkedBody) × IsChunkedBody b × (wire ≡ print_chunked b)
IsBody ToEnd wire = ⊤

-- a size line within its limit
abbrev pub IsShortLine : ChunkLine → Type 0
IsShortLine line = length (print_chunk_line line) ≤ SIZE_LINE_LIMIT

-- the size lines are within their limit
abbrev pub HasShortLines : List Chunk → Type 0
HasShortLines chunks = All (λ c. IsShortLine c.line) chunks

-- how many bytes have come behind the whole chunks, counting all the data of a chunk whose size line has come
abbrev pub announced_begun : Begun → ℕ
announced_begun (InLine come) = length come
announced_begun (InData line come) = length (print_chunk_line line) + chunk_size line
announced_begun (InLineEnd line data_bytes come) = length (print_begun (InLineEnd line data_bytes come))
announced_begun (InTrailer line come) = length (print_begun (InTrailer line come))

-- how many bytes have come, counted so
abbrev pub announced : CutBody → ℕ
announced c = length (flat_map print_chunk c.chunks) + announced_begun c.begun

-- the size line that is being read, or was the last one, and the trailer are within their limits
abbrev pub IsShortBegun : Begun → Type 0
IsShortBegun (InLine come) = length come ≤ SIZE_LINE_LIMIT
IsShortBegun (InData line come) = IsShortLine line
IsShortBegun (InLineEnd line data_bytes come) = IsShortLine line
IsShortBegun (InTrailer line come) = IsShortLine line × (length come ≤ HEAD_LIMIT)

-- a body that was cut is within the limits
pub record IsWithinLimits (c : CutBody) : Type 0 where
  pub lines : HasShortLines c.chunks
  pub begun : IsShortBegun c.begun
  pub fits : announced c ≤ BODY_LIMIT

-- the wire is what came of a body of the framing, within the limits, and more was to come
abbrev pub IsCutWire : Framing → List ℕ → Type 0
IsCutWire Empty wire = ⊥
IsCutWire (Length n) wire = (length wire < n) × (n ≤ BODY_LIMIT)
IsCutWire Chunked wire = (c : CutBody) × IsCutBody c × IsWithinLimits c × (wire ≡ print_cut c)
IsCutWire ToEnd wire = ⊥

-- the wire is a body of the framing, or one that was cut
abbrev pub IsWire : Bool → Framing → List ℕ → Type 0
IsWire false framing wire = IsBody framing wire
IsWire true framing wire = IsCutWire framing wire
