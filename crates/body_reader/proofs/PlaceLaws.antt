-- What a chunked body that was cut becomes with one more byte, or with a run of data.
use Rattle.std.proofs.Common.{◌≡◌, ◌≢◌, ℕ, ◌+◌, ◌<◌, ◌≤◌, List, [], ◌∷◌, ◌++◌, length, inl, inr, refl, sym, ap, ◌∙◌, arith, append_assoc, append-nil, length-append}
use Rattle.std.specs.List.{flat_map}
use Rattle.std.proofs.lemmas.List.Elements.{All-cons, All-nil, All-append}
use Rattle.httparse.specs.Grammar.{ChunkLine, chunk_size, print_chunk_line, ReadsChunkLine}
use Rattle.capture.specs.Body.{IsShortLine, IsCutWire}
use Rattle.capture.specs.Chunks.{Chunk, IsChunk, print_chunk, Begun, InLine, InData, InLineEnd, InTrailer, print_begun, print_cut}
use Rattle.capture.specs.FirstChunks.{RefusesChunked, IsChunkedFault, EndsLine, IsOverLimit}
use Rattle.capture.specs.declared.framing.Framing.TheVariants.{Chunked}
use Rattle.capture.specs.declared.framing.MessageFault.{MessageFault}
use Rattle.capture.specs.declared.framing.MessageFault.TheVariants.{Malformed, BodyTooLong}
use Rattle.capture.specs.declared.limits.TheConstants.{BODY_LIMIT, SIZE_LINE_LIMIT}
use Rattle.body_reader.specs.steps.ChunkPlaces.{IsCutAt, InLineAt, InDataAt, InTrailerAt, StandsAt, IsGoing}
use Rattle.body_reader.specs.declared.chunks.place.ChunkPlace.{ChunkPlace}
use Rattle.body_reader.specs.declared.chunks.place.ChunkPlace.TheVariants.{Line, Data, LineEnd, LineEndCr, Trailer, Whole, Refused}
use Rattle.body_reader.specs.declared.trailer.TrailerPlace.TheVariants.{LineStart}

-- ---- what came, in bytes

pub cut_len : (chunks : List Chunk) (begun : Begun) (s : List ℕ) → IsCutAt chunks begun s
    → length s ≡ length (flat_map print_chunk chunks) + length (print_begun begun)
cut_len chunks begun s cut = ap length cut.composed ∙ length-append (flat_map print_chunk chunks) (print_begun begun)

pub cut_grows : (chunks : List Chunk) (begun : Begun) (s more : List ℕ) → IsCutAt chunks begun s
    → s ++ more ≡ flat_map print_chunk chunks ++ (print_begun begun ++ more)
cut_grows chunks begun s more cut =
    ap (λ t. t ++ more) cut.composed ∙ append_assoc (flat_map print_chunk chunks) (print_begun begun) more

-- the byte behind what came shows the fault
pub refuses : (chunks : List Chunk) (begun : Begun) (s : List ℕ) (b : ℕ) (fault : MessageFault) → IsCutAt chunks begun s
    → IsChunkedFault (record { chunks = chunks; begun = begun }) b fault → RefusesChunked (s ++ b ∷ []) fault
refuses chunks begun s b fault cut due = record {
  cut = record { chunks = chunks; begun = begun };
  byte = b;
  rest = [];
  valid = cut.valid;
  within = cut.within;
  composed = ap (λ t. t ++ b ∷ []) cut.composed;
  due = due;
}

pub at_limit : (chunks : List Chunk) (begun : Begun) (s : List ℕ) → IsCutAt chunks begun s → length s ≡ BODY_LIMIT
    → length (print_cut (record { chunks = chunks; begun = begun })) ≡ BODY_LIMIT
at_limit chunks begun s cut full = sym (ap length cut.composed) ∙ full

pub below_limit : (chunks : List Chunk) (begun : Begun) (s : List ℕ) → IsCutAt chunks begun s → length s < BODY_LIMIT
    → length (print_cut (record { chunks = chunks; begun = begun })) ≢ BODY_LIMIT
below_limit chunks begun s cut few full = absurd (omega (arith, few, ap length cut.composed, full))

-- ---- a size line

-- where a size line stands in the stream
pub line_bounds : (start : ℕ) (s : List ℕ) (at : InLineAt start s) → start + length at.come ≡ length s
line_bounds start s at = omega (arith, at.start_is, cut_len at.chunks (InLine at.come) s at.cut)

pub line_fits : (start : ℕ) (s : List ℕ) → InLineAt start s → length s ≤ BODY_LIMIT
line_fits start s at = omega (arith, at.cut.within.fits, cut_len at.chunks (InLine at.come) s at.cut)

pub line_is_short : (start : ℕ) (s : List ℕ) → InLineAt start s → length s ≤ start + SIZE_LINE_LIMIT
line_is_short start s at = omega (arith, line_bounds start s at, at.cut.within.begun)

pub line_starts : (start : ℕ) (s : List ℕ) → InLineAt start s → start ≤ length s
line_starts start s at = omega (arith, line_bounds start s at)

pub begins_line : InLineAt 0 []
begins_line = record {
  chunks = [];
  come = [];
  cut = record {
    valid = record { chunks = All-nil IsChunk; begun = All-nil (λ b. b ≢ 10) };
    within = record { lines = All-nil (λ c. IsShortLine c.line); begun = omega arith; fits = omega arith };
    composed = refl;
  };
  start_is = refl;
}

pub line_goes_on : (start : ℕ) (s : List ℕ) (b : ℕ) → InLineAt start s → b ≢ 10 → length s < BODY_LIMIT
    → length s < start + SIZE_LINE_LIMIT → InLineAt start (s ++ b ∷ [])
line_goes_on start s b at other room short =
    let come = at.come ++ b ∷ [] in
    let long : length come ≡ length at.come + 1 = length-append at.come (b ∷ []) in
    record {
      chunks = at.chunks;
      come = come;
      cut = record {
        valid = record {
          chunks = at.cut.valid.chunks;
          begun = All-append (λ c. c ≢ 10) at.come (b ∷ []) at.cut.valid.begun (All-cons (λ c. c ≢ 10) b [] other (All-nil (λ c. c ≢ 10)));
        };
        within = record {
          lines = at.cut.within.lines;
          begun = omega (arith, long, line_bounds start s at, short);
          fits = omega (arith, long, cut_len at.chunks (InLine at.come) s at.cut, room);
        };
        composed = cut_grows at.chunks (InLine at.come) s (b ∷ []) at.cut;
      };
      start_is = at.start_is;
    }

pub line_over : (start : ℕ) (s : List ℕ) (b : ℕ) → InLineAt start s → length s ≡ BODY_LIMIT → RefusesChunked (s ++ b ∷ []) BodyTooLong
line_over start s b at full =
    refuses at.chunks (InLine at.come) s b BodyTooLong at.cut (λ h. h, inl (at_limit at.chunks (InLine at.come) s at.cut full))

same_come : (come other : List ℕ) → InLine come ≡ InLine other → come ≡ other
same_come come other e = cc

-- a line that ends there is one of the grammar
ended_line : (come : List ℕ) (b : ℕ) (line : ChunkLine) (ends : EndsLine (InLine come) b line) → ReadsChunkLine (come ++ b ∷ []) line []
ended_line come b line ends =
    let e : ends.come ++ b ∷ [] ≡ come ++ b ∷ [] = ap (λ t. t ++ b ∷ []) (sym (same_come come ends.come ends.in_line)) in
    (ends.reads.0, sym e ∙ ends.reads.1)

line_len : (text : List ℕ) (line : ChunkLine) → ReadsChunkLine text line [] → length text ≡ length (print_chunk_line line)
line_len text line reads = ap length (reads.1 ∙ append-nil (print_chunk_line line))

pub line_too_long : (start : ℕ) (s : List ℕ) (b : ℕ) → InLineAt start s → length s < BODY_LIMIT
    → length s ≡ start + SIZE_LINE_LIMIT → RefusesChunked (s ++ b ∷ []) Malformed
line_too_long start s b at room long =
    let come_len : length at.come ≡ SIZE_LINE_LIMIT = omega (arith, line_bounds start s at, long) in
    let over : IsOverLimit (record { chunks = at.chunks; begun = InLine at.come }) b → ⊥ = λ (o : _).
    elim o [
      | inl full ↦ below_limit at.chunks (InLine at.come) s at.cut room full
      | inr ends ↦ absurd (omega (
        arith,
        ends.1.short,
        line_len (at.come ++ b ∷ []) ends.0 (ended_line at.come b ends.0 ends.1),
        length-append at.come (b ∷ []),
        come_len,
      ))
    ] in
    refuses at.chunks (InLine at.come) s b Malformed at.cut (λ h. h, over, inl come_len)

pub line_is_none : (start : ℕ) (s : List ℕ) (at : InLineAt start s) → length s < BODY_LIMIT
    → ((line : ChunkLine) → ReadsChunkLine (at.come ++ 10 ∷ []) line [] → ⊥) → RefusesChunked (s ++ 10 ∷ []) Malformed
line_is_none start s at room none =
    let over : IsOverLimit (record { chunks = at.chunks; begun = InLine at.come }) 10 → ⊥ = λ (o : _).
    elim o [
      | inl full ↦ below_limit at.chunks (InLine at.come) s at.cut room full
      | inr ends ↦ none ends.0 (ended_line at.come 10 ends.0 ends.1)
    ] in
    refuses at.chunks (InLine at.come) s 10 Malformed at.cut (λ h. h, over, inr (refl, none))

-- a size line that is whole with its LF, within its limit
pub record LineEnds (start : ℕ) (s : List ℕ) (line : ChunkLine) : Type 0 where
  pub at : InLineAt start s
  pub reads : ReadsChunkLine (at.come ++ 10 ∷ []) line []
  pub room : length s < BODY_LIMIT
  pub short : length s < start + SIZE_LINE_LIMIT

short_line : (start : ℕ) (s : List ℕ) (line : ChunkLine) → LineEnds start s line → IsShortLine line
short_line start s line ends =
    omega (
      arith,
      line_len (ends.at.come ++ 10 ∷ []) line ends.reads,
      length-append ends.at.come (10 ∷ []),
      line_bounds start s ends.at,
      ends.short,
    )

pub line_is_big : (start : ℕ) (s : List ℕ) (line : ChunkLine) → LineEnds start s line → BODY_LIMIT < length s + 1 + chunk_size line
    → RefusesChunked (s ++ 10 ∷ []) BodyTooLong
line_is_big start s line ends big =
    let ends_line : EndsLine (InLine ends.at.come) 10 line =
    record { come = ends.at.come; in_line = refl; reads = ends.reads; short = short_line start s line ends } in
    refuses ends.at.chunks (InLine ends.at.come) s 10 BodyTooLong ends.at.cut
    (λ h. h, inr (line, ends_line, omega (arith, big, ap length ends.at.cut.composed)))

line_text : (start : ℕ) (s : List ℕ) (line : ChunkLine) (ends : LineEnds start s line)
    → s ++ 10 ∷ [] ≡ flat_map print_chunk ends.at.chunks ++ (print_chunk_line line ++ [])
line_text start s line ends =
    cut_grows ends.at.chunks (InLine ends.at.come) s (10 ∷ []) ends.at.cut
    ∙ ap (λ t. flat_map print_chunk ends.at.chunks ++ t) ends.reads.1

line_text_len : (start : ℕ) (s : List ℕ) (line : ChunkLine) (ends : LineEnds start s line)
    → length s + 1 ≡ length (flat_map print_chunk ends.at.chunks) + length (print_chunk_line line)
line_text_len start s line ends =
    omega (
      arith,
      cut_len ends.at.chunks (InLine ends.at.come) s ends.at.cut,
      line_len (ends.at.come ++ 10 ∷ []) line ends.reads,
      length-append ends.at.come (10 ∷ []),
    )

pub line_to_data : (start : ℕ) (s : List ℕ) (line : ChunkLine) → LineEnds start s line → chunk_size line ≢ 0
    → length s + 1 + chunk_size line ≤ BODY_LIMIT → InDataAt (chunk_size line) (s ++ 10 ∷ [])
line_to_data start s line ends other fits = record {
  chunks = ends.at.chunks;
  line = line;
  come = [];
  cut = record {
    valid = record { chunks = ends.at.cut.valid.chunks; begun = (ends.reads.0, omega (arith, other)) };
    within = record {
      lines = ends.at.cut.within.lines;
      begun = short_line start s line ends;
      fits = omega (arith, line_text_len start s line ends, fits);
    };
    composed = line_text start s line ends;
  };
  left_is = omega arith;
}

pub line_to_trailer : (start : ℕ) (s : List ℕ) (line : ChunkLine) → LineEnds start s line → chunk_size line ≡ 0
    → InTrailerAt (length s + 1) LineStart (s ++ 10 ∷ [])
line_to_trailer start s line ends zero = record {
  chunks = ends.at.chunks;
  line = line;
  come = [];
  cut = record {
    valid = record { chunks = ends.at.cut.valid.chunks; begun = (ends.reads.0, zero, refl) };
    within = record {
      lines = ends.at.cut.within.lines;
      begun = (short_line start s line ends, omega arith);
      fits = omega (arith, line_text_len start s line ends, length-append (print_chunk_line line) [], ends.room);
    };
    composed = line_text start s line ends;
  };
  start_is = omega (arith, length-append s (10 ∷ []));
  place_is = refl;
  going = λ e. cc;
}

-- ---- a body that was cut

cut_wire : (chunks : List Chunk) (begun : Begun) (s : List ℕ) → IsCutAt chunks begun s → IsCutWire Chunked s
cut_wire chunks begun s cut = (record { chunks = chunks; begun = begun }, cut.valid, cut.within, cut.composed)

-- what stands at a place that isn't the end is a body that was cut
pub going_is_cut : (place : ChunkPlace) (s : List ℕ) → IsGoing place → StandsAt place s → IsCutWire Chunked s
going_is_cut (Line start) s going at = cut_wire at.chunks (InLine at.come) s at.cut
going_is_cut (Data left) s going at = cut_wire at.chunks (InData at.line at.come) s at.cut
going_is_cut LineEnd s going at = cut_wire at.chunks (InLineEnd at.line at.data_bytes []) s at.cut
going_is_cut LineEndCr s going at = cut_wire at.chunks (InLineEnd at.line at.data_bytes (13 ∷ [])) s at.cut
going_is_cut (Trailer start place) s going at = cut_wire at.chunks (InTrailer at.line at.come) s at.cut
going_is_cut Whole s going at = absurd going
going_is_cut (Refused fault) s going at = absurd going
