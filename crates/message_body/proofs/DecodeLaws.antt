-- How the data of a body's rest become those of the body.
use Rattle.std.proofs.Common.{◌≡◌, ◌≢◌, ℕ, ◌+◌, List, [], ◌∷◌, ◌++◌, length, drop, Some, None, refl, sym, ap, subst, ◌∙◌, append_assoc, append-nil}
use Rattle.std.proofs.lemmas.List.Elements.{All-cons, All-nil}
use Rattle.httparse.specs.Grammar.{print_chunk_line, print_section}
use Rattle.httparse.specs.Spans.{span_bytes}
use Rattle.httparse.specs.declared.spans.Span.{Span}
use Rattle.capture.specs.Body.{IsBody, IsCutWire}
use Rattle.capture.specs.Chunks.{IsChunk, print_chunk, ChunkedBody, IsChunkedBody, print_chunked, joined_data, InTrailer, CutBody, IsCutBody, print_begun, begun_data, print_cut, cut_data}
use Rattle.capture.specs.Head.{section_len}
use Rattle.capture.specs.Payload.{IsJoined, IsCutJoined}
use Rattle.capture.specs.declared.framing.Framing.TheVariants.{Chunked}
use Rattle.capture.proofs.CutLaws.{whole_is_not_cut}
use Rattle.http_head.specs.Sections.{IsSection}
use Rattle.http_head.proofs.SectionLaws.{sections_end}
use Rattle.message_body.specs.steps.Decoding.{IsTrailerSeen}
use Rattle.message_body.specs.steps.Splits.{HasNoBody, HasNoCut, HoldsChunk, HoldsLast, HoldsCut}
use Rattle.message_body.specs.declared.decode.TrailerSeen.TheVariants.{Wrong}
use Rattle.message_body.proofs.SplitLaws.{LineFirst, body_text, print_first, tail_of, no_body_at_last, no_cut_at_last}
use Rattle.message_body.proofs.SplitSteps.{no_body_behind, no_cut_behind}

-- However the rest is decoded, the wire is decoded so, with these data before.
pub record Decodes (wire before rest : List ℕ) : Type 0 where
  pub whole : (payload : List ℕ) → IsJoined rest payload → IsJoined wire (before ++ payload)
  pub cut : (payload : List ℕ) → IsCutJoined rest payload → IsCutJoined wire (before ++ payload)
  pub no_body : HasNoBody rest → HasNoBody wire
  pub no_cut : HasNoCut rest → HasNoCut wire

pub decodes_all : (wire : List ℕ) → Decodes wire [] wire
decodes_all wire = record { whole = λ p is. is; cut = λ p is. is; no_body = λ none. none; no_cut = λ none. none }

-- ---- a chunk

joined_behind : (text : List ℕ) (d : Span) → HoldsChunk text d → (payload : List ℕ)
    → IsJoined (drop (d.end + 2) text) payload → IsJoined text (span_bytes text d ++ payload)
joined_behind text d holds payload is =
    let b = is.0 in
    let all : ChunkedBody = record { chunks = holds.chunk ∷ b.chunks; last = b.last; trailer = b.trailer; end = b.end } in
    let valid : IsChunkedBody all = record {
      chunks = All-cons IsChunk holds.chunk b.chunks holds.valid is.1.chunks;
      last = is.1.last;
      zero = is.1.zero;
      trailer = is.1.trailer;
    } in
    let text_is : text ≡ print_chunked all =
    holds.composed ∙ ap (λ r. print_chunk holds.chunk ++ r) (is.2 ∙ body_text b.chunks b.last b.trailer b.end)
    ∙ sym (print_first holds.chunk b.chunks (tail_of b.last b.trailer b.end))
    ∙ sym (body_text (holds.chunk ∷ b.chunks) b.last b.trailer b.end) in
    let data_is : span_bytes text d ++ payload ≡ joined_data (holds.chunk ∷ b.chunks) =
    ap (λ s. s ++ payload) holds.data_is ∙ ap (λ s. holds.chunk.data_bytes ++ s) is.3 in
    (all, valid, text_is, data_is)

cut_behind : (text : List ℕ) (d : Span) → HoldsChunk text d → (payload : List ℕ)
    → IsCutJoined (drop (d.end + 2) text) payload → IsCutJoined text (span_bytes text d ++ payload)
cut_behind text d holds payload is =
    let c = is.0 in
    let all : CutBody = record { chunks = holds.chunk ∷ c.chunks; begun = c.begun } in
    let valid : IsCutBody all =
    record { chunks = All-cons IsChunk holds.chunk c.chunks holds.valid is.1.chunks; begun = is.1.begun } in
    let text_is : text ≡ print_cut all =
    holds.composed ∙ ap (λ r. print_chunk holds.chunk ++ r) is.2
    ∙ sym (print_first holds.chunk c.chunks (print_begun c.begun)) in
    let data_is : span_bytes text d ++ payload ≡ cut_data all =
    ap (λ s. s ++ payload) holds.data_is ∙ ap (λ s. holds.chunk.data_bytes ++ s) is.3
    ∙ sym (append_assoc holds.chunk.data_bytes (joined_data c.chunks) (begun_data c.begun)) in
    (all, valid, text_is, data_is)

pub decodes_further : (wire before rest : List ℕ) (d : Span) → Decodes wire before rest → HoldsChunk rest d
    → Decodes wire (before ++ span_bytes rest d) (drop (d.end + 2) rest)
decodes_further wire before rest d so_far holds = record {
  whole = λ payload is. subst (IsJoined wire) (sym (append_assoc before (span_bytes rest d) payload))
      (so_far.whole (span_bytes rest d ++ payload) (joined_behind rest d holds payload is));
  cut = λ payload is. subst (IsCutJoined wire) (sym (append_assoc before (span_bytes rest d) payload))
      (so_far.cut (span_bytes rest d ++ payload) (cut_behind rest d holds payload is));
  no_body = λ none. so_far.no_body (no_body_behind rest d holds none);
  no_cut = λ none. so_far.no_cut (no_cut_behind rest d holds none);
}

-- ---- where it ends

pub whole_at_last : (wire before rest : List ℕ) (start : ℕ) → Decodes wire before rest → HoldsLast rest start
    → IsSection (drop start rest) → IsJoined wire before
whole_at_last wire before rest start so_far holds is =
    let all : ChunkedBody = record { chunks = []; last = holds.line; trailer = is.fields; end = is.end } in
    let valid : IsChunkedBody all =
    record { chunks = All-nil IsChunk; last = holds.valid; zero = holds.zero; trailer = is.reads.0 } in
    let text_is : rest ≡ print_chunked all =
    holds.composed ∙ ap (λ r. print_chunk_line holds.line ++ r) (is.reads.1 ∙ append-nil (print_section is.fields is.end)) in
    subst (IsJoined wire) (append-nil before) (so_far.whole [] (all, valid, text_is, refl))

pub cut_at_last : (wire before rest : List ℕ) (start : ℕ) → Decodes wire before rest → HoldsLast rest start
    → section_len (drop start rest) ≡ None → IsCutJoined wire before
cut_at_last wire before rest start so_far holds open_at =
    let all : CutBody = record { chunks = []; begun = InTrailer holds.line (drop start rest) } in
    let valid : IsCutBody all = record { chunks = All-nil IsChunk; begun = (holds.valid, holds.zero, open_at) } in
    subst (IsCutJoined wire) (append-nil before) (so_far.cut [] (all, valid, holds.composed, refl))

pub neither_at_last : (wire before rest : List ℕ) (start : ℕ) → Decodes wire before rest → HoldsLast rest start
    → (IsSection (drop start rest) → ⊥) → section_len (drop start rest) ≢ None → HasNoBody wire × HasNoCut wire
neither_at_last wire before rest start so_far holds none ended =
    let first : LineFirst rest holds.line (drop start rest) = record { is = holds.valid; composed = holds.composed } in (
      so_far.no_body (no_body_at_last rest holds.line (drop start rest) first holds.zero none),
      so_far.no_cut (no_cut_at_last rest holds.line (drop start rest) first holds.zero ended),
    )

pub cut_at_end : (wire before rest : List ℕ) (d : Span) → Decodes wire before rest → HoldsCut rest d
    → IsCutJoined wire (before ++ span_bytes rest d)
cut_at_end wire before rest d so_far holds =
    let all : CutBody = record { chunks = []; begun = holds.begun } in
    let valid : IsCutBody all = record { chunks = All-nil IsChunk; begun = holds.valid } in
    so_far.cut (span_bytes rest d) (all, valid, holds.composed, holds.data_is)

-- ---- the trailer section

-- a section ends with the text's last byte
section_ends_text : (text : List ℕ) → IsSection text → section_len text ≡ Some (length text)
section_ends_text text is =
    ap section_len is.reads.1 ∙ sections_end is.fields is.end [] is.reads.0
    ∙ ap (λ s. Some (length s)) (sym (is.reads.1 ∙ append-nil (print_section is.fields is.end)))

-- a text whose first section ends before it does
pub no_section_of_other_end : (text : List ℕ) (n : ℕ) → Some n ≡ section_len text → n ≢ length text → IsTrailerSeen text Wrong
no_section_of_other_end text n some other = (no_section, has_end)
  where
    no_section : IsSection text → ⊥
    no_section is = let e : Some n ≡ Some (length text) = some ∙ section_ends_text text is in other (cc)

    has_end : section_len text ≡ None → ⊥
    has_end none = let e : Some n ≡ None = some ∙ none in cc

-- ---- no text is whole and cut

pub cut_is_no_body : (wire payload : List ℕ) → IsCutJoined wire payload → IsBody Chunked wire → ⊥
cut_is_no_body wire payload cut body =
    whole_is_not_cut body.0 [] cut.0 body.1 cut.1 (append-nil (print_chunked body.0) ∙ sym body.2 ∙ cut.2)

pub body_is_no_cut : (wire payload : List ℕ) → IsJoined wire payload → IsCutWire Chunked wire → ⊥
body_is_no_cut wire payload body cut =
    whole_is_not_cut body.0 [] cut.0 body.1 cut.1 (append-nil (print_chunked body.0) ∙ sym body.2 ∙ cut.3)
