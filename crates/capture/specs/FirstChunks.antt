-- What stands at the front of a stream that is to be a chunked body (RFC 9112, section 7.1).
use Rattle.std.specs.Prelude.{◌≡◌, ◌≢◌, ◌⊎◌, ℕ, ◌+◌, ◌<◌, ◌≤◌, List, [], ◌∷◌, ◌++◌, length, Some}
use Rattle.httparse.specs.Ascii.{carriage_return, line_feed}
use Rattle.httparse.specs.Grammar.{ChunkLine, chunk_size, ReadsChunkLine, Field, LineEnd, ReadsSection, print_section}
use Rattle.capture.specs.Body.{IsShortLine, HasShortLines, IsWithinLimits}
use Rattle.capture.specs.Chunks.{ChunkedBody, IsChunkedBody, print_chunked, Begun, InLine, InData, InLineEnd, InTrailer, CutBody, IsCutBody, print_cut}
use Rattle.capture.specs.Head.{section_len, trailer_lines}
use Rattle.capture.specs.declared.framing.MessageFault.{MessageFault}
use Rattle.capture.specs.declared.framing.MessageFault.TheVariants.{Malformed, HeadTooLong, BodyTooLong, CodingRefused}
use Rattle.capture.specs.declared.limits.TheConstants.{BODY_LIMIT, FIELD_LIMIT, HEAD_LIMIT, SIZE_LINE_LIMIT}

-- a trailer section within the limits
pub record IsShortTrailer (section : List ℕ) : Type 0 where
  pub length_is : length section ≤ HEAD_LIMIT
  pub lines : trailer_lines section ≤ FIELD_LIMIT

-- a chunked body within the limits stands at the front and has so many bytes
pub record HoldsChunked (stream : List ℕ) (used : ℕ) : Type 0 where
  pub body : ChunkedBody
  pub rest : List ℕ
  pub valid : IsChunkedBody body
  pub composed : stream ≡ print_chunked body ++ rest
  pub used_is : used ≡ length (print_chunked body)
  pub lines : HasShortLines body.chunks
  pub last : IsShortLine body.last
  pub trailer : IsShortTrailer (print_section body.trailer body.end)
  pub fits : used ≤ BODY_LIMIT

-- the trailer section ends with its last byte
abbrev pub EndsTrailer : List ℕ → Type 0
EndsTrailer section = section_len section ≡ Some (length section)

-- with one more byte the trailer section passes its length, or it ends and has too many lines
abbrev pub IsTrailerTooLong : Begun → ℕ → Type 0
IsTrailerTooLong (InLine come) byte = ⊥
IsTrailerTooLong (InData line come) byte = ⊥
IsTrailerTooLong (InLineEnd line data_bytes come) byte = ⊥
IsTrailerTooLong (InTrailer line come) byte =
    (HEAD_LIMIT < length (come ++ byte ∷ []))
    ⊎ (EndsTrailer (come ++ byte ∷ []) × (FIELD_LIMIT < trailer_lines (come ++ byte ∷ [])))

-- a size line that is whole with this byte, which is within its limit
pub record EndsLine (begun : Begun) (byte : ℕ) (line : ChunkLine) : Type 0 where
  pub come : List ℕ
  pub in_line : begun ≡ InLine come
  pub reads : ReadsChunkLine (come ++ byte ∷ []) line []
  pub short : IsShortLine line

-- with one more byte the body passes its limit, or a size line is whole whose data would pass it
abbrev pub IsOverLimit : CutBody → ℕ → Type 0
IsOverLimit cut byte =
    (length (print_cut cut) ≡ BODY_LIMIT)
    ⊎ ((line : ChunkLine) × EndsLine cut.begun byte line × (BODY_LIMIT < length (print_cut cut) + 1 + chunk_size line))

-- the byte can't stand there: it is one more than a size line may have, or ends one that is none of the grammar; it isn't
-- that of the line end behind the data; or it ends a trailer section that is none of the grammar
abbrev pub IsWrongByte : Begun → ℕ → Type 0
IsWrongByte (InLine come) byte =
    (length come ≡ SIZE_LINE_LIMIT)
    ⊎ ((byte ≡ line_feed) × ((line : ChunkLine) → ¬ (ReadsChunkLine (come ++ byte ∷ []) line [])))
IsWrongByte (InData line come) byte = ⊥
IsWrongByte (InLineEnd line data_bytes come) byte =
    ((come ≡ []) × (byte ≢ carriage_return)) ⊎ ((come ≡ carriage_return ∷ []) × (byte ≢ line_feed))
IsWrongByte (InTrailer line come) byte =
    EndsTrailer (come ++ byte ∷ [])
    × ((fields : List Field) (end : LineEnd) → ¬ (ReadsSection (come ++ byte ∷ []) fields end []))

-- the fault that is due at a byte, in this order: the trailer's limits, the body's limit, the limit of a size line and the
-- grammar
abbrev pub IsChunkedFault : CutBody → ℕ → MessageFault → Type 0
IsChunkedFault cut byte HeadTooLong = IsTrailerTooLong cut.begun byte
IsChunkedFault cut byte BodyTooLong = ¬ (IsTrailerTooLong cut.begun byte) × IsOverLimit cut byte
IsChunkedFault cut byte Malformed =
    ¬ (IsTrailerTooLong cut.begun byte) × ¬ (IsOverLimit cut byte) × IsWrongByte cut.begun byte
IsChunkedFault cut byte CodingRefused = ⊥

-- the front of the stream begins a chunked body within the limits, and the byte behind it shows the fault
pub record RefusesChunked (stream : List ℕ) (fault : MessageFault) : Type 0 where
  pub cut : CutBody
  pub byte : ℕ
  pub rest : List ℕ
  pub valid : IsCutBody cut
  pub within : IsWithinLimits cut
  pub composed : stream ≡ print_cut cut ++ byte ∷ rest
  pub due : IsChunkedFault cut byte fault
