-- What data, and the line end behind them, make of a chunked body that was cut.
use Rattle.std.proofs.Common.{◌≡◌, ◌≢◌, ℕ, ◌+◌, ◌-◌, ◌<◌, ◌≤◌, List, [], ◌∷◌, ◌++◌, length, inl, inr, refl, sym, ap, ◌∙◌, arith, append_assoc, append-nil, length-append}
use Rattle.std.specs.List.{flat_map}
use Rattle.std.proofs.lemmas.List.{flat_map_more}
use Rattle.std.proofs.lemmas.List.Elements.{All-nil, All-push}
use Rattle.httparse.specs.Grammar.{ChunkLine, chunk_size, print_chunk_line}
use Rattle.capture.specs.Body.{IsShortLine}
use Rattle.capture.specs.Chunks.{Chunk, IsChunk, print_chunk, InLine, InData, InLineEnd}
use Rattle.capture.specs.FirstChunks.{RefusesChunked, IsOverLimit}
use Rattle.capture.specs.declared.framing.MessageFault.TheVariants.{Malformed, BodyTooLong}
use Rattle.capture.specs.declared.limits.TheConstants.{BODY_LIMIT}
use Rattle.body_reader.specs.steps.ChunkPlaces.{InLineAt, InDataAt, InLineEndAt}
use Rattle.body_reader.proofs.PlaceLaws.{cut_len, cut_grows, refuses, at_limit, below_limit}

-- ---- data

pub data_goes_on : (left : ℕ) (s run : List ℕ) → InDataAt left s → length run < left → InDataAt (left - length run) (s ++ run)
data_goes_on left s run at few =
    let long : length (at.come ++ run) ≡ length at.come + length run = length-append at.come run in
    record {
      chunks = at.chunks;
      line = at.line;
      come = at.come ++ run;
      cut = record {
        valid = record {
          chunks = at.cut.valid.chunks;
          begun = (at.cut.valid.begun.0, omega (arith, long, at.left_is, few));
        };
        within = record { lines = at.cut.within.lines; begun = at.cut.within.begun; fits = at.cut.within.fits };
        composed =
            cut_grows at.chunks (InData at.line at.come) s run at.cut
            ∙ ap (λ t. flat_map print_chunk at.chunks ++ t) (append_assoc (print_chunk_line at.line) at.come run);
      };
      left_is = omega (arith, long, at.left_is, few);
    }

pub data_ends : (left : ℕ) (s run : List ℕ) → InDataAt left s → length run ≡ left → InLineEndAt [] (s ++ run)
data_ends left s run at all =
    let data_bytes = at.come ++ run in
    let long : length data_bytes ≡ length at.come + length run = length-append at.come run in
    let size : length data_bytes ≡ chunk_size at.line = omega (arith, long, at.left_is, all) in
    let text : s ++ run ≡ flat_map print_chunk at.chunks ++ (print_chunk_line at.line ++ data_bytes ++ []) =
    cut_grows at.chunks (InData at.line at.come) s run at.cut
    ∙ ap (λ t. flat_map print_chunk at.chunks ++ t)
    (append_assoc (print_chunk_line at.line) at.come run ∙ sym (append-nil (print_chunk_line at.line ++ data_bytes))) in
    record {
      chunks = at.chunks;
      line = at.line;
      data_bytes = data_bytes;
      cut = record {
        valid = record {
          chunks = at.cut.valid.chunks;
          begun = (record { line = at.cut.valid.begun.0; some = omega (arith, at.cut.valid.begun.1); size = size }, inl refl);
        };
        within = record {
          lines = at.cut.within.lines;
          begun = at.cut.within.begun;
          fits = omega (
            arith,
            at.cut.within.fits,
            length-append (print_chunk_line at.line ++ data_bytes) [],
            length-append (print_chunk_line at.line) data_bytes,
            size,
          );
        };
        composed = text;
      };
    }

-- some data are to come
pub some_left : (left : ℕ) (s : List ℕ) → InDataAt left s → 0 < left
some_left left s at = omega (arith, at.left_is, at.cut.valid.begun.1)

-- ---- the line end behind the data

no_line_there : (line : ChunkLine) (data_bytes come other : List ℕ) → InLineEnd line data_bytes come ≡ InLine other → ⊥
no_line_there line data_bytes come other e = cc

not_over : (bytes s : List ℕ) (b : ℕ) (at : InLineEndAt bytes s) → length s < BODY_LIMIT
    → IsOverLimit (record { chunks = at.chunks; begun = InLineEnd at.line at.data_bytes bytes }) b → ⊥
not_over bytes s b at room (inl full) = below_limit at.chunks (InLineEnd at.line at.data_bytes bytes) s at.cut room full
not_over bytes s b at room (inr ends) = no_line_there at.line at.data_bytes bytes ends.1.come ends.1.in_line

pub line_end_fits : (bytes s : List ℕ) → InLineEndAt bytes s → length s ≤ BODY_LIMIT
line_end_fits bytes s at =
    omega (arith, at.cut.within.fits, cut_len at.chunks (InLineEnd at.line at.data_bytes bytes) s at.cut)

pub line_end_over : (bytes s : List ℕ) (b : ℕ) → InLineEndAt bytes s → length s ≡ BODY_LIMIT → RefusesChunked (s ++ b ∷ []) BodyTooLong
line_end_over bytes s b at full =
    let begun = InLineEnd at.line at.data_bytes bytes in
    refuses at.chunks begun s b BodyTooLong at.cut (λ h. h, inl (at_limit at.chunks begun s at.cut full))

pub no_cr : (s : List ℕ) (b : ℕ) → InLineEndAt [] s → length s < BODY_LIMIT → b ≢ 13 → RefusesChunked (s ++ b ∷ []) Malformed
no_cr s b at room other =
    refuses at.chunks (InLineEnd at.line at.data_bytes []) s b Malformed at.cut
    (λ h. h, not_over [] s b at room, inl (refl, other))

pub no_lf : (s : List ℕ) (b : ℕ) → InLineEndAt (13 ∷ []) s → length s < BODY_LIMIT → b ≢ 10 → RefusesChunked (s ++ b ∷ []) Malformed
no_lf s b at room other =
    refuses at.chunks (InLineEnd at.line at.data_bytes (13 ∷ [])) s b Malformed at.cut
    (λ h. h, not_over (13 ∷ []) s b at room, inr (refl, other))

pub cr_comes : (s : List ℕ) → InLineEndAt [] s → length s < BODY_LIMIT → InLineEndAt (13 ∷ []) (s ++ 13 ∷ [])
cr_comes s at room =
    let before = print_chunk_line at.line ++ at.data_bytes in
    let text : s ++ 13 ∷ [] ≡ flat_map print_chunk at.chunks ++ (before ++ 13 ∷ []) =
    cut_grows at.chunks (InLineEnd at.line at.data_bytes []) s (13 ∷ []) at.cut
    ∙ ap (λ t. flat_map print_chunk at.chunks ++ (t ++ 13 ∷ [])) (append-nil before) in
    record {
      chunks = at.chunks;
      line = at.line;
      data_bytes = at.data_bytes;
      cut = record {
        valid = record { chunks = at.cut.valid.chunks; begun = (at.cut.valid.begun.0, inr refl) };
        within = record {
          lines = at.cut.within.lines;
          begun = at.cut.within.begun;
          fits = omega (
            arith,
            ap length text,
            length-append s (13 ∷ []),
            length-append (flat_map print_chunk at.chunks) (before ++ 13 ∷ []),
            room,
          );
        };
        composed = text;
      };
    }

pub lf_comes : (s : List ℕ) → InLineEndAt (13 ∷ []) s → length s < BODY_LIMIT → InLineAt (length s + 1) (s ++ 10 ∷ [])
lf_comes s at room =
    let chunk : Chunk = record { line = at.line; data_bytes = at.data_bytes } in
    let before = print_chunk_line at.line ++ at.data_bytes in
    let chunks = at.chunks ++ chunk ∷ [] in
    let text : s ++ 10 ∷ [] ≡ flat_map print_chunk chunks ++ [] =
    cut_grows at.chunks (InLineEnd at.line at.data_bytes (13 ∷ [])) s (10 ∷ []) at.cut
    ∙ ap (λ t. flat_map print_chunk at.chunks ++ t) (append_assoc before (13 ∷ []) (10 ∷ []))
    ∙ flat_map_more print_chunk [] at.chunks chunk ∙ sym (append-nil (flat_map print_chunk chunks)) in
    let long : length s + 1 ≡ length (flat_map print_chunk chunks) =
    omega (arith, ap length text, length-append s (10 ∷ []), length-append (flat_map print_chunk chunks) []) in
    record {
      chunks = chunks;
      come = [];
      cut = record {
        valid = record {
          chunks = All-push IsChunk at.chunks chunk at.cut.valid.chunks at.cut.valid.begun.0;
          begun = All-nil (λ b. b ≢ 10);
        };
        within = record {
          lines = All-push (λ c. IsShortLine c.line) at.chunks chunk at.cut.within.lines at.cut.within.begun;
          begun = omega arith;
          fits = omega (arith, long, room);
        };
        composed = text;
      };
      start_is = long;
    }
