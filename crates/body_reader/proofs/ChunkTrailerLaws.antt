-- What a byte of the trailer section makes of a chunked body that was cut.
use Rattle.std.proofs.Common.{◌≡◌, ◌≢◌, ℕ, ◌+◌, ◌<◌, ◌≤◌, List, [], ◌∷◌, ◌++◌, length, drop, Some, None, inl, inr, sym, ap, subst, ◌∙◌, arith, append_assoc, append-nil, length-append}
use Rattle.std.specs.List.{flat_map}
use Rattle.std.proofs.Math.Seq.{drop-append_seam}
use Rattle.httparse.specs.Grammar.{ChunkLine, print_chunk_line, print_section}
use Rattle.capture.specs.Chunks.{print_chunk, ChunkedBody, print_chunked, InLine, InTrailer}
use Rattle.capture.specs.FirstChunks.{HoldsChunked, RefusesChunked, EndsTrailer, IsTrailerTooLong, IsOverLimit}
use Rattle.capture.specs.Head.{section_len, trailer_lines}
use Rattle.capture.specs.declared.framing.MessageFault.TheVariants.{Malformed, HeadTooLong, BodyTooLong}
use Rattle.capture.specs.declared.limits.TheConstants.{BODY_LIMIT, FIELD_LIMIT, HEAD_LIMIT}
use Rattle.body_reader.specs.steps.ChunkPlaces.{InTrailerAt}
use Rattle.http_head.specs.Sections.{IsSection}
use Rattle.body_reader.specs.steps.TrailerPlaces.{next_place, place_after}
use Rattle.body_reader.specs.declared.trailer.TrailerPlace.{TrailerPlace}
use Rattle.body_reader.specs.declared.trailer.TrailerPlace.TheVariants.{LineStart, Ended}
use Rattle.body_reader.proofs.PlaceLaws.{cut_len, cut_grows, refuses, at_limit, below_limit}
use Rattle.body_reader.proofs.TrailerLaws.{open_section, section_ends, place_after-append}

-- ---- how far the section came

pub trailer_fits : (start : ℕ) (place : TrailerPlace) (s : List ℕ) → InTrailerAt start place s → length s ≤ BODY_LIMIT
trailer_fits start place s at =
    omega (arith, at.cut.within.fits, cut_len at.chunks (InTrailer at.line at.come) s at.cut)

trailer_bounds : (start : ℕ) (place : TrailerPlace) (s : List ℕ) (at : InTrailerAt start place s)
    → start ≡ length (flat_map print_chunk at.chunks ++ print_chunk_line at.line)
trailer_bounds start place s at =
    omega (
      arith,
      at.start_is,
      cut_len at.chunks (InTrailer at.line at.come) s at.cut,
      length-append (print_chunk_line at.line) at.come,
      length-append (flat_map print_chunk at.chunks) (print_chunk_line at.line),
    )

-- the section with one more byte stands behind the size line
pub section_there : (start : ℕ) (place : TrailerPlace) (s : List ℕ) (b : ℕ) (at : InTrailerAt start place s)
    → drop start (s ++ b ∷ []) ≡ at.come ++ b ∷ []
section_there start place s b at =
    let before = flat_map print_chunk at.chunks ++ print_chunk_line at.line in
    let text : s ++ b ∷ [] ≡ before ++ (at.come ++ b ∷ []) =
    cut_grows at.chunks (InTrailer at.line at.come) s (b ∷ []) at.cut
    ∙ ap (λ t. flat_map print_chunk at.chunks ++ t) (append_assoc (print_chunk_line at.line) at.come (b ∷ []))
    ∙ sym (append_assoc (flat_map print_chunk at.chunks) (print_chunk_line at.line) (at.come ++ b ∷ [])) in
    ap (drop start) text ∙ ap (λ n. drop n (before ++ (at.come ++ b ∷ []))) (trailer_bounds start place s at)
    ∙ drop-append_seam before (at.come ++ b ∷ [])

-- the machine with one more byte
place_there : (start : ℕ) (place : TrailerPlace) (s : List ℕ) (b : ℕ) (at : InTrailerAt start place s)
    → place_after LineStart (at.come ++ b ∷ []) ≡ next_place place b
place_there start place s b at =
    place_after-append LineStart at.come (b ∷ []) ∙ ap (λ p. next_place p b) (sym at.place_is)

still_open : (start : ℕ) (place : TrailerPlace) (s : List ℕ) (b : ℕ) (at : InTrailerAt start place s)
    → next_place place b ≢ Ended → section_len (at.come ++ b ∷ []) ≡ None
still_open start place s b at going =
    open_section (at.come ++ b ∷ []) (λ e. going (sym (place_there start place s b at) ∙ e))

ends_there : (start : ℕ) (place : TrailerPlace) (s : List ℕ) (b : ℕ) (at : InTrailerAt start place s)
    → next_place place b ≡ Ended → EndsTrailer (at.come ++ b ∷ [])
ends_there start place s b at ended =
    section_ends at.come b [] (λ e. at.going (at.place_is ∙ e)) (ap (λ p. next_place p b) (sym at.place_is) ∙ ended)
    ∙ ap Some (sym (length-append at.come (b ∷ [])))

-- ---- the faults

no_line_there : (line : ChunkLine) (come other : List ℕ) → InTrailer line come ≡ InLine other → ⊥
no_line_there line come other e = cc

not_over : (start : ℕ) (place : TrailerPlace) (s : List ℕ) (b : ℕ) (at : InTrailerAt start place s) → length s < BODY_LIMIT
    → IsOverLimit (record { chunks = at.chunks; begun = InTrailer at.line at.come }) b → ⊥
not_over start place s b at room (inl full) = below_limit at.chunks (InTrailer at.line at.come) s at.cut room full
not_over start place s b at room (inr ends) = no_line_there at.line at.come ends.1.come ends.1.in_line

pub trailer_too_long : (start : ℕ) (place : TrailerPlace) (s : List ℕ) (b : ℕ) → InTrailerAt start place s
    → start + HEAD_LIMIT < length s + 1 → RefusesChunked (s ++ b ∷ []) HeadTooLong
trailer_too_long start place s b at long =
    refuses at.chunks (InTrailer at.line at.come) s b HeadTooLong at.cut
    (inl (omega (arith, at.start_is, long, length-append at.come (b ∷ []))))

pub many_lines : (start : ℕ) (place : TrailerPlace) (s : List ℕ) (b : ℕ) → InTrailerAt start place s → next_place place b ≡ Ended
    → FIELD_LIMIT < trailer_lines (drop start (s ++ b ∷ [])) → RefusesChunked (s ++ b ∷ []) HeadTooLong
many_lines start place s b at ended many =
    refuses at.chunks (InTrailer at.line at.come) s b HeadTooLong at.cut
    (inr (
      ends_there start place s b at ended,
      subst (λ t. FIELD_LIMIT < trailer_lines t) (section_there start place s b at) many,
    ))

-- the section with one more byte is within its limits, as far as they are told
pub record IsShortStill (start : ℕ) (s : List ℕ) (b : ℕ) : Type 0 where
  pub length_is : length s + 1 ≤ start + HEAD_LIMIT
  pub lines : trailer_lines (drop start (s ++ b ∷ [])) ≤ FIELD_LIMIT

not_too_long : (start : ℕ) (place : TrailerPlace) (s : List ℕ) (b : ℕ) (at : InTrailerAt start place s) → IsShortStill start s b
    → IsTrailerTooLong (InTrailer at.line at.come) b → ⊥
not_too_long start place s b at short (inl long) =
    absurd (omega (arith, at.start_is, short.length_is, length-append at.come (b ∷ []), long))
not_too_long start place s b at short (inr many) =
    absurd (omega (arith, many.1, short.lines, ap trailer_lines (section_there start place s b at)))

open_not_too_long : (start : ℕ) (place : TrailerPlace) (s : List ℕ) (b : ℕ) (at : InTrailerAt start place s)
    → length s + 1 ≤ start + HEAD_LIMIT → next_place place b ≢ Ended → IsTrailerTooLong (InTrailer at.line at.come) b → ⊥
open_not_too_long start place s b at short going (inl long) =
    absurd (omega (arith, at.start_is, short, length-append at.come (b ∷ []), long))
open_not_too_long start place s b at short going (inr many) =
    let e : None ≡ Some (length (at.come ++ b ∷ [])) = sym (still_open start place s b at going) ∙ many.0 in cc

pub trailer_over : (start : ℕ) (place : TrailerPlace) (s : List ℕ) (b : ℕ) → InTrailerAt start place s
    → length s + 1 ≤ start + HEAD_LIMIT → next_place place b ≢ Ended → length s ≡ BODY_LIMIT → RefusesChunked (s ++ b ∷ []) BodyTooLong
trailer_over start place s b at short going full =
    refuses at.chunks (InTrailer at.line at.come) s b BodyTooLong at.cut
    (open_not_too_long start place s b at short going, inl (at_limit at.chunks (InTrailer at.line at.come) s at.cut full))

pub end_over : (start : ℕ) (place : TrailerPlace) (s : List ℕ) (b : ℕ) → InTrailerAt start place s → IsShortStill start s b
    → length s ≡ BODY_LIMIT → RefusesChunked (s ++ b ∷ []) BodyTooLong
end_over start place s b at short full =
    refuses at.chunks (InTrailer at.line at.come) s b BodyTooLong at.cut
    (not_too_long start place s b at short, inl (at_limit at.chunks (InTrailer at.line at.come) s at.cut full))

pub no_section : (start : ℕ) (place : TrailerPlace) (s : List ℕ) (b : ℕ) → InTrailerAt start place s → IsShortStill start s b
    → next_place place b ≡ Ended → length s < BODY_LIMIT → (IsSection (drop start (s ++ b ∷ [])) → ⊥) → RefusesChunked (s ++ b ∷ []) Malformed
no_section start place s b at short ended room none =
    let there = section_there start place s b at in
    refuses at.chunks (InTrailer at.line at.come) s b Malformed at.cut (
      not_too_long start place s b at short,
      not_over start place s b at room,
      (
        ends_there start place s b at ended,
        λ fields end reads. none (record { fields = fields; end = end; reads = (reads.0, there ∙ reads.1) }),
      ),
    )

-- ---- the section goes on, or is whole

pub trailer_goes_on : (start : ℕ) (place : TrailerPlace) (s : List ℕ) (b : ℕ) → InTrailerAt start place s
    → length s + 1 ≤ start + HEAD_LIMIT → next_place place b ≢ Ended → length s < BODY_LIMIT
    → InTrailerAt start (next_place place b) (s ++ b ∷ [])
trailer_goes_on start place s b at short going room =
    let come = at.come ++ b ∷ [] in
    let long : length come ≡ length at.come + 1 = length-append at.come (b ∷ []) in
    record {
      chunks = at.chunks;
      line = at.line;
      come = come;
      cut = record {
        valid = record {
          chunks = at.cut.valid.chunks;
          begun = (at.cut.valid.begun.0, at.cut.valid.begun.1, still_open start place s b at going);
        };
        within = record {
          lines = at.cut.within.lines;
          begun = (at.cut.within.begun.0, omega (arith, at.start_is, short, long));
          fits = omega (
            arith,
            cut_len at.chunks (InTrailer at.line at.come) s at.cut,
            length-append (print_chunk_line at.line) at.come,
            length-append (print_chunk_line at.line) come,
            long,
            room,
          );
        };
        composed =
            cut_grows at.chunks (InTrailer at.line at.come) s (b ∷ []) at.cut
            ∙ ap (λ t. flat_map print_chunk at.chunks ++ t) (append_assoc (print_chunk_line at.line) at.come (b ∷ []));
      };
      start_is = omega (arith, at.start_is, long, length-append s (b ∷ []));
      place_is = sym (place_there start place s b at);
      going = going;
    }

pub body_ends : (start : ℕ) (place : TrailerPlace) (s : List ℕ) (b : ℕ) → InTrailerAt start place s → IsShortStill start s b
    → length s < BODY_LIMIT → IsSection (drop start (s ++ b ∷ [])) → HoldsChunked (s ++ b ∷ []) (length (s ++ b ∷ []))
body_ends start place s b at short room is =
    let body : ChunkedBody = record { chunks = at.chunks; last = at.line; trailer = is.fields; end = is.end } in
    let section = print_section is.fields is.end in
    let come_is : at.come ++ b ∷ [] ≡ section =
    sym (section_there start place s b at) ∙ is.reads.1 ∙ append-nil section in
    let text : s ++ b ∷ [] ≡ print_chunked body =
    cut_grows at.chunks (InTrailer at.line at.come) s (b ∷ []) at.cut
    ∙ ap (λ t. flat_map print_chunk at.chunks ++ t)
    (append_assoc (print_chunk_line at.line) at.come (b ∷ []) ∙ ap (λ t. print_chunk_line at.line ++ t) come_is)
    ∙ sym (append_assoc (flat_map print_chunk at.chunks) (print_chunk_line at.line) section) in
    record {
      body = body;
      rest = [];
      valid = record {
        chunks = at.cut.valid.chunks;
        last = at.cut.valid.begun.0;
        zero = at.cut.valid.begun.1;
        trailer = is.reads.0;
      };
      composed = text ∙ sym (append-nil (print_chunked body));
      used_is = ap length text;
      lines = at.cut.within.lines;
      last = at.cut.within.begun.0;
      trailer = record {
        length_is = omega (arith, ap length come_is, length-append at.come (b ∷ []), at.start_is, short.length_is);
        lines = subst (λ t. trailer_lines t ≤ FIELD_LIMIT) (section_there start place s b at ∙ come_is) short.lines;
      };
      fits = omega (arith, length-append s (b ∷ []), room);
    }
