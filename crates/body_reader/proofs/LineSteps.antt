-- What a size line's bytes make of a body, read from the text in which they stand.
use Rattle.std.proofs.Common.{◌≡◌, ◌≢◌, ℕ, ◌+◌, ◌-◌, ◌<◌, ◌≤◌, List, [], ◌∷◌, ◌++◌, length, take, drop, get_or, refl, sym, ap, subst, ◌∙◌, arith, append_assoc, append-nil, length-append, length-take-le}
use Rattle.std.specs.List.{flat_map}
use Rattle.std.proofs.Math.Seq.{drop-append_seam}
use Rattle.std.proofs.lemmas.List.{take_more, drop_all}
use Rattle.httparse.specs.Grammar.{ChunkLine, chunk_size, print_chunk_line, HasNoChunkLine, NeverHasChunkLine}
use Rattle.httparse.specs.Spans.{IsChunkLineAt}
use Rattle.httparse.proofs.ChunkLemmas.{chunk_line_unique}
use Rattle.capture.specs.Chunks.{print_chunk}
use Rattle.capture.specs.FirstChunks.{RefusesChunked}
use Rattle.capture.specs.declared.framing.MessageFault.TheVariants.{Malformed, BodyTooLong}
use Rattle.capture.specs.declared.limits.TheConstants.{BODY_LIMIT, SIZE_LINE_LIMIT}
use Rattle.body_reader.specs.steps.ChunkPlaces.{InLineAt, InDataAt, InTrailerAt}
use Rattle.body_reader.specs.declared.trailer.TrailerPlace.TheVariants.{LineStart}
use Rattle.body_reader.proofs.PlaceLaws.{LineEnds, line_over, line_too_long, line_goes_on, line_is_none, line_is_big, line_to_data, line_to_trailer}

-- ---- one more byte of a text

pub grown : (text : List ℕ) (at : ℕ) → at < length text → take (at + 1) text ≡ take at text ++ get_or text at 0 ∷ []
grown text at inside = take_more text at 0 inside

pub len_at : (text : List ℕ) (at : ℕ) → at < length text → length (take at text) ≡ at
len_at text at inside = length-take-le at text (omega (arith, inside))

pub at_byte : (P : List ℕ → Type 0) (text : List ℕ) (at b : ℕ) → at < length text → get_or text at 0 ≡ b
    → P (take at text ++ b ∷ []) → P (take (at + 1) text)
at_byte P text at b inside is here =
    subst P (sym (grown text at inside ∙ ap (λ c. take at text ++ c ∷ []) is)) here

-- ---- a byte of a size line

pub line_over_at : (text : List ℕ) (at start : ℕ) → at < length text → InLineAt start (take at text) → at ≡ BODY_LIMIT
    → RefusesChunked (take (at + 1) text) BodyTooLong
line_over_at text at start inside stands full =
    at_byte (λ t. RefusesChunked t BodyTooLong) text at (get_or text at 0) inside refl
    (line_over start (take at text) (get_or text at 0) stands (len_at text at inside ∙ full))

pub line_too_long_at : (text : List ℕ) (at start : ℕ) → at < length text → InLineAt start (take at text) → at < BODY_LIMIT
    → at ≡ start + SIZE_LINE_LIMIT → RefusesChunked (take (at + 1) text) Malformed
line_too_long_at text at start inside stands room long =
    let len = len_at text at inside in
    at_byte (λ t. RefusesChunked t Malformed) text at (get_or text at 0) inside refl
    (line_too_long start (take at text) (get_or text at 0) stands (omega (arith, len, room)) (len ∙ long))

pub line_goes_on_at : (text : List ℕ) (at start : ℕ) → at < length text → InLineAt start (take at text) → at < BODY_LIMIT
    → at < start + SIZE_LINE_LIMIT → get_or text at 0 ≢ 10 → InLineAt start (take (at + 1) text)
line_goes_on_at text at start inside stands room short other =
    let len = len_at text at inside in
    at_byte (InLineAt start) text at (get_or text at 0) inside refl
    (line_goes_on start (take at text) (get_or text at 0) stands other (omega (arith, len, room)) (omega (arith, len, short)))

-- ---- the LF of a size line

-- a size line up to its LF, as it stands in the text
pub record LineAt (text : List ℕ) (at start : ℕ) (slice : List ℕ) : Type 0 where
  pub inside : at < length text
  pub stands : InLineAt start (take at text)
  pub ends : get_or text at 0 ≡ 10
  pub room : at < BODY_LIMIT
  pub short : at < start + SIZE_LINE_LIMIT
  pub slice_is : slice ≡ drop start (take (at + 1) text)

pub line_at : (text : List ℕ) (at start : ℕ) (come slice : List ℕ) → at < length text → InLineAt start (take at text)
    → get_or text at 0 ≡ 10 → at < BODY_LIMIT → at < start + SIZE_LINE_LIMIT → come ≡ take (at + 1) text → slice ≡ drop start come
    → LineAt text at start slice
line_at text at start come slice inside stands ends room short come_is slice_is = record {
  inside = inside;
  stands = stands;
  ends = ends;
  room = room;
  short = short;
  slice_is = slice_is ∙ ap (drop start) come_is;
}

slice_text : (text : List ℕ) (at start : ℕ) (slice : List ℕ) (l : LineAt text at start slice) → slice ≡ l.stands.come ++ 10 ∷ []
slice_text text at start slice l =
    let before = flat_map print_chunk l.stands.chunks in
    let text_is : take (at + 1) text ≡ before ++ (l.stands.come ++ 10 ∷ []) =
    grown text at l.inside ∙ ap (λ b. take at text ++ b ∷ []) l.ends
    ∙ ap (λ t. t ++ 10 ∷ []) l.stands.cut.composed ∙ append_assoc before l.stands.come (10 ∷ []) in
    l.slice_is ∙ ap (drop start) text_is
    ∙ ap (λ n. drop n (before ++ (l.stands.come ++ 10 ∷ []))) l.stands.start_is
    ∙ drop-append_seam before (l.stands.come ++ 10 ∷ [])

-- the slice is one size line
ends_there : (text : List ℕ) (at start : ℕ) (slice : List ℕ) (l : LineAt text at start slice) (len size : ℕ) (line : ChunkLine)
    → IsChunkLineAt slice len size line → len ≡ length slice → LineEnds start (take at text) line
ends_there text at start slice l len size line found whole =
    let same = slice_text text at start slice l in
    let bytes = len_at text at l.inside in
    record {
      at = l.stands;
      reads = (
        found.reads.0,
        sym same ∙ found.reads.1 ∙ ap (λ r. print_chunk_line line ++ r) (drop_all len slice (omega (arith, whole))),
      );
      room = omega (arith, bytes, l.room);
      short = omega (arith, bytes, l.short);
    }

pub none_at : (text : List ℕ) (at start : ℕ) (slice : List ℕ) (l : LineAt text at start slice) → HasNoChunkLine slice
    → RefusesChunked (take (at + 1) text) Malformed
none_at text at start slice l none =
    at_byte (λ t. RefusesChunked t Malformed) text at 10 l.inside l.ends
    (line_is_none start (take at text) l.stands (omega (arith, len_at text at l.inside, l.room))
    (λ line reads. none line [] (reads.0, slice_text text at start slice l ∙ reads.1)))

pub never_at : (text : List ℕ) (at start : ℕ) (slice : List ℕ) (l : LineAt text at start slice) → NeverHasChunkLine slice
    → RefusesChunked (take (at + 1) text) Malformed
never_at text at start slice l never =
    none_at text at start slice l (λ m rest reads. never [] m rest (reads.0, append-nil slice ∙ reads.1))

pub other_len_at : (text : List ℕ) (at start : ℕ) (slice : List ℕ) (l : LineAt text at start slice) (len size : ℕ) (line : ChunkLine)
    → IsChunkLineAt slice len size line → len ≢ length slice → RefusesChunked (take (at + 1) text) Malformed
other_len_at text at start slice l len size line found other =
    at_byte (λ t. RefusesChunked t Malformed) text at 10 l.inside l.ends
    (line_is_none start (take at text) l.stands (omega (arith, len_at text at l.inside, l.room))
    (λ k reads.
    let same = slice_text text at start slice l in
    let one = chunk_line_unique slice line k (drop len slice) [] found.reads (reads.0, same ∙ reads.1) in
    other (omega (
      arith,
      found.len_is,
      ap (λ j. length (print_chunk_line j)) one.0,
      ap length (same ∙ reads.1),
      length-append (print_chunk_line k) [],
    ))))

pub big_at : (text : List ℕ) (at start : ℕ) (slice : List ℕ) (l : LineAt text at start slice) (len size : ℕ) (line : ChunkLine)
    → IsChunkLineAt slice len size line → len ≡ length slice → BODY_LIMIT - at ≤ size → RefusesChunked (take (at + 1) text) BodyTooLong
big_at text at start slice l len size line found whole big =
    at_byte (λ t. RefusesChunked t BodyTooLong) text at 10 l.inside l.ends
    (line_is_big start (take at text) line (ends_there text at start slice l len size line found whole)
    (omega (arith, big, len_at text at l.inside, found.size_is, l.room)))

pub trailer_at : (text : List ℕ) (at start : ℕ) (slice : List ℕ) (l : LineAt text at start slice) (len size : ℕ) (line : ChunkLine)
    → IsChunkLineAt slice len size line → len ≡ length slice → size ≡ 0 → InTrailerAt (at + 1) LineStart (take (at + 1) text)
trailer_at text at start slice l len size line found whole zero =
    subst (λ n. InTrailerAt (n + 1) LineStart (take (at + 1) text)) (len_at text at l.inside)
    (at_byte (InTrailerAt (length (take at text) + 1) LineStart) text at 10 l.inside l.ends
    (line_to_trailer start (take at text) line (ends_there text at start slice l len size line found whole)
    (sym found.size_is ∙ zero)))

pub data_at : (text : List ℕ) (at start : ℕ) (slice : List ℕ) (l : LineAt text at start slice) (len size : ℕ) (line : ChunkLine)
    → IsChunkLineAt slice len size line → len ≡ length slice → size ≢ 0 → size < BODY_LIMIT - at → InDataAt size (take (at + 1) text)
data_at text at start slice l len size line found whole other fits =
    subst (λ n. InDataAt n (take (at + 1) text)) (sym found.size_is)
    (at_byte (InDataAt (chunk_size line)) text at 10 l.inside l.ends
    (line_to_data start (take at text) line (ends_there text at start slice l len size line found whole)
    (λ zero. other (found.size_is ∙ zero)) (omega (arith, fits, len_at text at l.inside, found.size_is))))
