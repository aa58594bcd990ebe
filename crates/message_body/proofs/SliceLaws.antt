-- What is left of a chunked wire's data behind its first chunk.
use Rattle.std.proofs.Common.{◌≡◌, ◌≢◌, ℕ, ◌+◌, Bool, true, false, List, [], ◌∷◌, ◌++◌, length, drop, refl, sym, ap, subst, ◌∙◌, arith, append_assoc, append-nil, inl, inr}
use Rattle.std.specs.Prelude.{All}
use Rattle.std.specs.List.{flat_map}
use Rattle.std.proofs.lemmas.List.{append_cancel_left}
use Rattle.std.proofs.lemmas.List.Elements.{All-head, All-tail}
use Rattle.httparse.specs.Ascii.{crlf_bytes}
use Rattle.httparse.specs.Grammar.{ChunkLine, chunk_size, print_chunk_line, Field, LineEnd, print_section}
use Rattle.httparse.specs.Spans.{span_bytes}
use Rattle.httparse.specs.declared.spans.Span.{Span}
use Rattle.capture.specs.Chunks.{Chunk, ChunkedBody, IsChunk, IsChunkedBody, print_chunk, print_chunked, joined_data, Begun, InLine, InData, InLineEnd, InTrailer, IsBegun, IsBegunLineEnd, print_begun, begun_data, CutBody, IsCutBody, print_cut, cut_data}
use Rattle.capture.specs.Payload.{IsPayload}
use Rattle.capture.specs.declared.framing.Framing.{Framing}
use Rattle.capture.specs.declared.framing.Framing.TheVariants.{Empty, Length, Chunked, ToEnd}
use Rattle.capture.proofs.CutLaws.{whole_is_not_cut}
use Rattle.capture.proofs.PayloadLaws.{one_payload}
use Rattle.message_body.specs.Slices.{IsLeft, LeavesBehind, is_chunked}
use Rattle.message_body.specs.steps.Splits.{HasNoBody, HasNoCut, HoldsChunk, HoldsLast, HoldsCut}
use Rattle.message_body.proofs.DecodeLaws.{cut_at_end, decodes_all}
use Rattle.message_body.proofs.SplitLaws.{body_text, chunk_first, no_line_without_lf, not_in_data, of_two_sizes, one_line, print_first, same_bytes, same_chunk, same_line_end, tail_of}
use Rattle.message_body.proofs.SplitSteps.{chunk_data_first, not_begun}

-- the data are the first chunk's and those of what stands behind it
pub record GoesOnBehind (text : List ℕ) (d : Span) (left : List ℕ) : Type 0 where
  pub rest : List ℕ
  pub splits : left ≡ span_bytes text d ++ rest
  pub is : IsLeft true (drop (d.end + 2) text) rest

-- ---- a chunk

joined_behind : (text : List ℕ) (d : Span) → HoldsChunk text d → (chunks : List Chunk) (last : ChunkLine) (trailer : List Field) (end : LineEnd)
    → IsChunkedBody (record { chunks = chunks; last = last; trailer = trailer; end = end })
    → text ≡ print_chunked (record { chunks = chunks; last = last; trailer = trailer; end = end })
    → GoesOnBehind text d (joined_data chunks)
joined_behind text d holds [] last trailer end is e =
    absurd (of_two_sizes text holds.chunk.line last _ (print_section trailer end) (chunk_data_first text d holds).first
    (record { is = is.last; composed = e }) holds.valid.some is.zero)
joined_behind text d holds (c ∷ chunks) last trailer end is e =
    let others : ChunkedBody = record { chunks = chunks; last = last; trailer = trailer; end = end } in
    let split = e ∙ body_text (c ∷ chunks) last trailer end ∙ print_first c chunks (tail_of last trailer end)
    ∙ ap (λ r. print_chunk c ++ r) (sym (body_text chunks last trailer end)) in
    let valid : IsChunkedBody others = record {
      chunks = All-tail IsChunk c chunks is.chunks;
      last = is.last;
      zero = is.zero;
      trailer = is.trailer;
    } in
    let first : IsChunk c = All-head IsChunk c chunks is.chunks in
    let lines = chunk_first text c (print_chunked others) first split in
    let at = chunk_data_first text d holds in
    let behind = same_chunk text holds.chunk.line holds.chunk.data_bytes _ at c (print_chunked others) first lines in
    let bytes = same_bytes text holds.chunk.line holds.chunk.data_bytes _ at c (print_chunked others) first lines in
    record {
      rest = joined_data chunks;
      splits = ap (λ s. s ++ joined_data chunks) (sym bytes ∙ sym holds.data_is);
      is = inl (others, valid, append_cancel_left crlf_bytes (drop (d.end + 2) text) (print_chunked others) behind, refl);
    }

begun_isnt : (text : List ℕ) (d : Span) → HoldsChunk text d → (begun : Begun) → IsBegun begun → text ≡ print_begun begun → ⊥
begun_isnt text d holds (InLine come) is e =
    no_line_without_lf text holds.chunk.line _ (subst (All (λ b. b ≢ 10)) (sym e) is) (chunk_data_first text d holds).first
begun_isnt text d holds (InData line come) is e =
    not_in_data text holds.chunk.line holds.chunk.data_bytes _ (chunk_data_first text d holds) line come (record { is = is.0; composed = e }) is.1
begun_isnt text d holds (InLineEnd line data_bytes come) is e =
    let behind = same_line_end text holds.chunk.line holds.chunk.data_bytes _ (chunk_data_first text d holds) line data_bytes come
    (record { is = is.0.line; composed = e ∙ append_assoc (print_chunk_line line) data_bytes come }) is.0.size in
    not_begun (drop (d.end + 2) text) (subst IsBegunLineEnd (sym behind) is.1)
begun_isnt text d holds (InTrailer line come) is e =
    of_two_sizes text holds.chunk.line line _ come (chunk_data_first text d holds).first (record { is = is.0; composed = e }) holds.valid.some is.1

cut_behind : (text : List ℕ) (d : Span) → HoldsChunk text d → (chunks : List Chunk) (begun : Begun) → All IsChunk chunks → IsBegun begun
    → text ≡ flat_map print_chunk chunks ++ print_begun begun → GoesOnBehind text d (joined_data chunks ++ begun_data begun)
cut_behind text d holds [] begun all is e = absurd (begun_isnt text d holds begun is e)
cut_behind text d holds (c ∷ chunks) begun all is e =
    let others : CutBody = record { chunks = chunks; begun = begun } in
    let first : IsChunk c = All-head IsChunk c chunks all in
    let lines = chunk_first text c (print_cut others) first (e ∙ print_first c chunks (print_begun begun)) in
    let at = chunk_data_first text d holds in
    let behind = same_chunk text holds.chunk.line holds.chunk.data_bytes _ at c (print_cut others) first lines in
    let bytes = same_bytes text holds.chunk.line holds.chunk.data_bytes _ at c (print_cut others) first lines in
    let valid : IsCutBody others = record { chunks = All-tail IsChunk c chunks all; begun = is } in
    record {
      rest = cut_data others;
      splits = append_assoc c.data_bytes (joined_data chunks) (begun_data begun) ∙ ap (λ s. s ++ cut_data others) (sym bytes ∙ sym holds.data_is);
      is = inr (others, valid, append_cancel_left crlf_bytes (drop (d.end + 2) text) (print_cut others) behind, refl);
    }

pub goes_on_behind : (text : List ℕ) (d : Span) (left : List ℕ) → HoldsChunk text d → IsLeft true text left → GoesOnBehind text d left
goes_on_behind text d left holds (inl is) =
    subst (GoesOnBehind text d) (sym is.3) (joined_behind text d holds is.0.chunks is.0.last is.0.trailer is.0.end is.1 is.2)
goes_on_behind text d left holds (inr is) =
    subst (GoesOnBehind text d) (sym is.3) (cut_behind text d holds is.0.chunks is.0.begun is.1.chunks is.1.begun is.2)

-- ---- the line of size 0

no_chunk_at_last : (text : List ℕ) (start : ℕ) (c : Chunk) (rest : List ℕ) → HoldsLast text start → IsChunk c → text ≡ print_chunk c ++ rest → ⊥
no_chunk_at_last text start c rest holds is e =
    of_two_sizes text c.line holds.line _ _ (chunk_first text c rest is e) (record { is = holds.valid; composed = holds.composed }) is.some holds.zero

joined_at_last : (text : List ℕ) (start : ℕ) → HoldsLast text start → (chunks : List Chunk) (last : ChunkLine) (trailer : List Field) (end : LineEnd)
    → IsChunkedBody (record { chunks = chunks; last = last; trailer = trailer; end = end })
    → text ≡ print_chunked (record { chunks = chunks; last = last; trailer = trailer; end = end }) → joined_data chunks ≡ []
joined_at_last text start holds [] last trailer end is e = refl
joined_at_last text start holds (c ∷ chunks) last trailer end is e =
    absurd (no_chunk_at_last text start c (flat_map print_chunk chunks ++ tail_of last trailer end) holds (All-head IsChunk c chunks is.chunks)
    (e ∙ body_text (c ∷ chunks) last trailer end ∙ print_first c chunks (tail_of last trailer end)))

begun_at_last : (text : List ℕ) (start : ℕ) → HoldsLast text start → (begun : Begun) → IsBegun begun → text ≡ print_begun begun → begun_data begun ≡ []
begun_at_last text start holds (InLine come) is e = refl
begun_at_last text start holds (InData line come) is e =
    let same = one_line text line holds.line come _ (record { is = is.0; composed = e }) (record { is = holds.valid; composed = holds.composed }) in
    absurd (omega (arith, is.1, ap chunk_size same.0, holds.zero))
begun_at_last text start holds (InLineEnd line data_bytes come) is e =
    absurd (of_two_sizes text line holds.line _ _ (record { is = is.0.line; composed = e ∙ append_assoc (print_chunk_line line) data_bytes come })
    (record { is = holds.valid; composed = holds.composed }) is.0.some holds.zero)
begun_at_last text start holds (InTrailer line come) is e = refl

cut_at_last : (text : List ℕ) (start : ℕ) → HoldsLast text start → (chunks : List Chunk) (begun : Begun) → All IsChunk chunks → IsBegun begun
    → text ≡ flat_map print_chunk chunks ++ print_begun begun → joined_data chunks ++ begun_data begun ≡ []
cut_at_last text start holds [] begun all is e = begun_at_last text start holds begun is e
cut_at_last text start holds (c ∷ chunks) begun all is e =
    absurd (no_chunk_at_last text start c (flat_map print_chunk chunks ++ print_begun begun) holds (All-head IsChunk c chunks all)
    (e ∙ print_first c chunks (print_begun begun)))

pub none_left_at_last : (text : List ℕ) (start : ℕ) (left : List ℕ) → HoldsLast text start → IsLeft true text left → left ≡ []
none_left_at_last text start left holds (inl is) =
    is.3 ∙ joined_at_last text start holds is.0.chunks is.0.last is.0.trailer is.0.end is.1 is.2
none_left_at_last text start left holds (inr is) =
    is.3 ∙ cut_at_last text start holds is.0.chunks is.0.begun is.1.chunks is.1.begun is.2

-- ---- where the text ends

pub last_left : (text : List ℕ) (d : Span) (left : List ℕ) → HoldsCut text d → IsLeft true text left → left ≡ span_bytes text d
last_left text d left holds (inl is) =
    let cut = cut_at_end text [] text d (decodes_all text) holds in
    absurd (whole_is_not_cut is.0 [] cut.0 is.1 cut.1 (append-nil (print_chunked is.0) ∙ sym is.2 ∙ cut.2))
last_left text d left holds (inr is) =
    one_payload true Chunked text left (span_bytes text d) is (cut_at_end text [] text d (decodes_all text) holds)

pub nothing_left : (text left : List ℕ) → HasNoBody text → HasNoCut text → IsLeft true text left → ⊥
nothing_left text left no_body no_cut (inl is) = no_body.none is.0 is.1 is.2
nothing_left text left no_body no_cut (inr is) = no_cut.none is.0 is.1 is.2

-- ---- a wire

pub left_of_payload : (cut : Bool) (framing : Framing) (wire payload : List ℕ) → IsPayload cut framing wire payload → IsLeft (is_chunked framing) wire payload
left_of_payload cut Empty wire payload is = is
left_of_payload cut (Length n) wire payload is = is
left_of_payload false Chunked wire payload is = inl is
left_of_payload true Chunked wire payload is = inr is
left_of_payload cut ToEnd wire payload is = is

-- ---- the next slice

-- a wire as it stands is its own slice
pub all_at_once : (rest all none left : List ℕ) → all ≡ rest → none ≡ [] → IsLeft false rest left → LeavesBehind left all false none
all_at_once rest all none left all_is none_is is = record {
  behind = [];
  splits = is ∙ sym all_is ∙ sym (append-nil all);
  is = sym none_is;
  end = λ e. is ∙ sym all_is ∙ e;
}

data_some : (text : List ℕ) (d : Span) → HoldsChunk text d → span_bytes text d ≡ [] → ⊥
data_some text d holds none =
    omega (arith, holds.valid.some, holds.valid.size, ap length (sym holds.data_is ∙ none))

pub chunk_leaves : (text slice rest left : List ℕ) (d : Span) → HoldsChunk text d → slice ≡ span_bytes text d → rest ≡ drop (d.end + 2) text
    → IsLeft true text left → LeavesBehind left slice true rest
chunk_leaves text slice rest left d holds slice_is rest_is is =
    let goes = goes_on_behind text d left holds is in
    record {
      behind = goes.rest;
      splits = goes.splits ∙ ap (λ s. s ++ goes.rest) (sym slice_is);
      is = subst (λ r. IsLeft true r goes.rest) (sym rest_is) goes.is;
      end = λ e. absurd (data_some text d holds (sym slice_is ∙ e));
    }

pub end_leaves : (slice rest left : List ℕ) → left ≡ slice → rest ≡ [] → LeavesBehind left slice false rest
end_leaves slice rest left is rest_is = record {
  behind = [];
  splits = is ∙ sym (append-nil slice);
  is = sym rest_is;
  end = λ e. is ∙ e;
}
