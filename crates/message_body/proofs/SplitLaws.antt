-- Which chunk stands at the front of a text, and what follows where none does.
use Rattle.std.proofs.Common.{◌≡◌, ◌≢◌, ℕ, ◌<◌, List, [], ◌∷◌, ◌++◌, length, None, refl, sym, ap, subst, ◌∙◌, arith, append_assoc, append-nil, length-append}
use Rattle.std.specs.Prelude.{All}
use Rattle.std.specs.List.{flat_map}
use Rattle.std.proofs.lemmas.List.Elements.{All-head, All-tail}
use Rattle.httparse.specs.Ascii.{crlf_bytes}
use Rattle.httparse.specs.Grammar.{ChunkLine, chunk_size, print_chunk_line, print_extension, IsChunkLine, HasNoChunkLine, Field, LineEnd, print_section}
use Rattle.httparse.proofs.ChunkLemmas.{chunk_line_unique}
use Rattle.capture.specs.Chunks.{Chunk, ChunkedBody, IsChunk, IsChunkedBody, print_chunk, print_chunked, Begun, InLine, InData, InLineEnd, InTrailer, IsBegun, IsBegunLineEnd, print_begun, CutBody, IsCutBody, print_cut}
use Rattle.capture.specs.Head.{section_len}
use Rattle.http_head.specs.Sections.{IsSection}
use Rattle.message_body.specs.steps.Splits.{HasNoBody, HasNoCut}

-- ---- lines

-- a size line stands at the front, and then rest
pub record LineFirst (text : List ℕ) (line : ChunkLine) (rest : List ℕ) : Type 0 where
  pub is : IsChunkLine line
  pub composed : text ≡ print_chunk_line line ++ rest

pub one_line : (text : List ℕ) (l k : ChunkLine) (rest more : List ℕ) → LineFirst text l rest → LineFirst text k more
    → (l ≡ k) × (rest ≡ more)
one_line text l k rest more first second =
    chunk_line_unique text l k rest more (first.is, first.composed) (second.is, second.composed)

no_lf_behind : (front rest : List ℕ) → All (λ b. b ≢ 10) (front ++ 13 ∷ 10 ∷ rest) → ⊥
no_lf_behind [] rest none =
    All-head (λ b. b ≢ 10) 10 rest (All-tail (λ b. b ≢ 10) 13 (10 ∷ rest) none) refl
no_lf_behind (b ∷ front) rest none = no_lf_behind front rest (All-tail (λ c. c ≢ 10) b (front ++ 13 ∷ 10 ∷ rest) none)

-- a text without LF begins with no size line
pub no_line_without_lf : (text : List ℕ) (line : ChunkLine) (rest : List ℕ) → All (λ b. b ≢ 10) text → LineFirst text line rest → ⊥
unfolding print_chunk_line
no_line_without_lf text line rest none first =
    let front : List ℕ = line.digits ++ line.pad ++ print_extension line.extension in
    let e : text ≡ front ++ 13 ∷ 10 ∷ rest = first.composed ∙ append_assoc front (13 ∷ 10 ∷ []) rest in
    no_lf_behind front rest (subst (All (λ b. b ≢ 10)) e none)

-- ---- what begins with a size line

regrouped : (a b c d : List ℕ) → a ++ b ++ c ++ d ≡ a ++ (b ++ (c ++ d))
regrouped a b c d = simp append_assoc

-- what stands behind a chunk's size line
abbrev pub behind_line : Chunk → List ℕ → List ℕ
behind_line c rest = c.data_bytes ++ (crlf_bytes ++ rest)

pub chunk_first : (text : List ℕ) (c : Chunk) (rest : List ℕ) → IsChunk c → text ≡ print_chunk c ++ rest
    → LineFirst text c.line (behind_line c rest)
chunk_first text c rest is e = record {
  is = is.line;
  composed = e ∙ regrouped (print_chunk_line c.line) c.data_bytes crlf_bytes rest;
}

-- what stands behind a body's chunks
abbrev pub tail_of : ChunkLine → List Field → LineEnd → List ℕ
tail_of last trailer end = print_chunk_line last ++ print_section trailer end

pub body_text : (chunks : List Chunk) (last : ChunkLine) (trailer : List Field) (end : LineEnd)
    → print_chunked (record { chunks = chunks; last = last; trailer = trailer; end = end })
    ≡ flat_map print_chunk chunks ++ tail_of last trailer end
body_text chunks last trailer end =
    append_assoc (flat_map print_chunk chunks) (print_chunk_line last) (print_section trailer end)

pub print_first : (c : Chunk) (chunks : List Chunk) (rest : List ℕ)
    → flat_map print_chunk (c ∷ chunks) ++ rest ≡ print_chunk c ++ (flat_map print_chunk chunks ++ rest)
print_first c chunks rest = append_assoc (print_chunk c) (flat_map print_chunk chunks) rest

-- a text is a whole body
pub record HasBody (text : List ℕ) : Type 0 where
  pub body : ChunkedBody
  pub valid : IsChunkedBody body
  pub composed : text ≡ print_chunked body

-- a text is a body that was cut
pub record HasCut (text : List ℕ) : Type 0 where
  pub cut : CutBody
  pub valid : IsCutBody cut
  pub composed : text ≡ print_cut cut

-- a text is no whole body, whether it is to begin with a chunk or with the line of size 0
pub record RefutesBody (text : List ℕ) : Type 0 where
  pub chunk : (c : Chunk) (rest : List ℕ) → IsChunk c → LineFirst text c.line (behind_line c rest) → HasBody rest → ⊥
  pub last : (line : ChunkLine) (rest : List ℕ) → LineFirst text line rest → chunk_size line ≡ 0 → IsSection rest → ⊥

refutes_chunks : (text : List ℕ) → RefutesBody text → (chunks : List Chunk) (last : ChunkLine) (trailer : List Field) (end : LineEnd)
    → IsChunkedBody (record { chunks = chunks; last = last; trailer = trailer; end = end })
    → text ≡ print_chunked (record { chunks = chunks; last = last; trailer = trailer; end = end }) → ⊥
refutes_chunks text refuted [] last trailer end is e =
    refuted.last last (print_section trailer end) (record { is = is.last; composed = e }) is.zero
    (record { fields = trailer; end = end; reads = (is.trailer, sym (append-nil (print_section trailer end))) })
refutes_chunks text refuted (c ∷ chunks) last trailer end is e =
    let others : ChunkedBody = record { chunks = chunks; last = last; trailer = trailer; end = end } in
    let split = e ∙ body_text (c ∷ chunks) last trailer end ∙ print_first c chunks (tail_of last trailer end)
    ∙ ap (λ r. print_chunk c ++ r) (sym (body_text chunks last trailer end)) in
    let valid : IsChunkedBody others = record {
      chunks = All-tail IsChunk c chunks is.chunks;
      last = is.last;
      zero = is.zero;
      trailer = is.trailer;
    } in
    let first : IsChunk c = All-head IsChunk c chunks is.chunks in
    refuted.chunk c (print_chunked others) first (chunk_first text c (print_chunked others) first split)
    (record { body = others; valid = valid; composed = refl })

pub no_body : (text : List ℕ) → RefutesBody text → HasNoBody text
no_body text refuted = record { none = λ b is e. refutes_chunks text refuted b.chunks b.last b.trailer b.end is e }

-- a text is no body that was cut, wherever it is to end
pub record RefutesCut (text : List ℕ) : Type 0 where
  pub chunk : (c : Chunk) (rest : List ℕ) → IsChunk c → LineFirst text c.line (behind_line c rest) → HasCut rest → ⊥
  pub in_line : All (λ b. b ≢ 10) text → ⊥
  pub in_data : (line : ChunkLine) (come : List ℕ) → LineFirst text line come → length come < chunk_size line → ⊥
  pub in_line_end : (line : ChunkLine) (data_bytes come : List ℕ) → LineFirst text line (data_bytes ++ come) → 0 < chunk_size line
      → length data_bytes ≡ chunk_size line → IsBegunLineEnd come → ⊥
  pub in_trailer : (line : ChunkLine) (come : List ℕ) → LineFirst text line come → chunk_size line ≡ 0 → section_len come ≡ None → ⊥

refutes_begun : (text : List ℕ) → RefutesCut text → (begun : Begun) → IsBegun begun → text ≡ print_begun begun → ⊥
refutes_begun text refuted (InLine come) is e = refuted.in_line (subst (All (λ b. b ≢ 10)) (sym e) is)
refutes_begun text refuted (InData line come) is e = refuted.in_data line come (record { is = is.0; composed = e }) is.1
refutes_begun text refuted (InLineEnd line data_bytes come) is e =
    refuted.in_line_end line data_bytes come
    (record { is = is.0.line; composed = e ∙ append_assoc (print_chunk_line line) data_bytes come }) is.0.some is.0.size is.1
refutes_begun text refuted (InTrailer line come) is e =
    refuted.in_trailer line come (record { is = is.0; composed = e }) is.1 is.2

refutes_cut : (text : List ℕ) → RefutesCut text → (chunks : List Chunk) (begun : Begun) → All IsChunk chunks → IsBegun begun
    → text ≡ flat_map print_chunk chunks ++ print_begun begun → ⊥
refutes_cut text refuted [] begun all is e = refutes_begun text refuted begun is e
refutes_cut text refuted (c ∷ chunks) begun all is e =
    let others : CutBody = record { chunks = chunks; begun = begun } in
    let first : IsChunk c = All-head IsChunk c chunks all in
    refuted.chunk c (print_cut others) first
    (chunk_first text c (print_cut others) first (e ∙ print_first c chunks (print_begun begun)))
    (record { cut = others; valid = record { chunks = All-tail IsChunk c chunks all; begun = is }; composed = refl })

pub no_cut : (text : List ℕ) → RefutesCut text → HasNoCut text
no_cut text refuted = record { none = λ c is e. refutes_cut text refuted c.chunks c.begun is.chunks is.begun e }

-- ---- a text with a LF that begins with no size line

pub no_body_without_line : (text : List ℕ) → HasNoChunkLine text → HasNoBody text
no_body_without_line text none = no_body text (record {
  chunk = λ c rest is first has. none c.line _ (first.is, first.composed);
  last = λ line rest first zero is. none line rest (first.is, first.composed);
})

pub no_cut_without_line : (text : List ℕ) → HasNoChunkLine text → (All (λ b. b ≢ 10) text → ⊥) → HasNoCut text
no_cut_without_line text none lf = no_cut text (record {
  chunk = λ c rest is first has. none c.line _ (first.is, first.composed);
  in_line = lf;
  in_data = λ line come first few. none line come (first.is, first.composed);
  in_line_end = λ line data_bytes come first some size begun. none line _ (first.is, first.composed);
  in_trailer = λ line come first zero open_at. none line come (first.is, first.composed);
})

-- ---- fronts of one length

head_same : (a b : ℕ) (s t : List ℕ) → a ∷ s ≡ b ∷ t → (a ≡ b) × (s ≡ t)
head_same a b s t e = (cc, cc)

pub same_fronts : (s t rest other : List ℕ) → length s ≡ length t → s ++ rest ≡ t ++ other → (s ≡ t) × (rest ≡ other)
same_fronts [] [] rest other len e = (refl, e)
same_fronts [] (b ∷ t) rest other len e = absurd (omega (arith, len))
same_fronts (a ∷ s) [] rest other len e = absurd (omega (arith, len))
same_fronts (a ∷ s) (b ∷ t) rest other len e =
    let both = head_same a b (s ++ rest) (t ++ other) e in
    let others = same_fronts s t rest other (omega (arith, len)) both.1 in
    (cc, others.1)

-- ---- a text that begins with a size line and its data

-- a size line and its data stand at the front, and then behind
pub record DataFirst (text : List ℕ) (line : ChunkLine) (data_bytes behind : List ℕ) : Type 0 where
  pub first : LineFirst text line (data_bytes ++ behind)
  pub some : 0 < chunk_size line
  pub size : length data_bytes ≡ chunk_size line

-- a chunk there has the data, and its line end stands behind them
pub same_chunk : (text : List ℕ) (line : ChunkLine) (data_bytes behind : List ℕ) → DataFirst text line data_bytes behind
    → (c : Chunk) (rest : List ℕ) → IsChunk c → LineFirst text c.line (behind_line c rest) → behind ≡ crlf_bytes ++ rest
same_chunk text line data_bytes behind at c rest is first =
    let same = one_line text line c.line _ _ at.first first in
    let len : length data_bytes ≡ length c.data_bytes = at.size ∙ ap chunk_size same.0 ∙ sym is.size in
    (same_fronts data_bytes c.data_bytes behind (crlf_bytes ++ rest) len same.1).1

pub same_bytes : (text : List ℕ) (line : ChunkLine) (data_bytes behind : List ℕ) → DataFirst text line data_bytes behind
    → (c : Chunk) (rest : List ℕ) → IsChunk c → LineFirst text c.line (behind_line c rest) → data_bytes ≡ c.data_bytes
same_bytes text line data_bytes behind at c rest is first =
    let same = one_line text line c.line _ _ at.first first in
    let len : length data_bytes ≡ length c.data_bytes = at.size ∙ ap chunk_size same.0 ∙ sym is.size in
    (same_fronts data_bytes c.data_bytes behind (crlf_bytes ++ rest) len same.1).0

pub of_two_sizes : (text : List ℕ) (l k : ChunkLine) (rest more : List ℕ) → LineFirst text l rest → LineFirst text k more
    → 0 < chunk_size l → chunk_size k ≡ 0 → ⊥
of_two_sizes text l k rest more first second some zero =
    absurd (omega (arith, some, zero, ap chunk_size (one_line text l k rest more first second).0))

pub not_in_data : (text : List ℕ) (line : ChunkLine) (data_bytes behind : List ℕ) → DataFirst text line data_bytes behind
    → (k : ChunkLine) (come : List ℕ) → LineFirst text k come → length come < chunk_size k → ⊥
not_in_data text line data_bytes behind at k come first few =
    let same = one_line text line k _ come at.first first in
    absurd (omega (arith, few, at.size, ap chunk_size same.0, ap length same.1, length-append data_bytes behind))

pub same_line_end : (text : List ℕ) (line : ChunkLine) (data_bytes behind : List ℕ) → DataFirst text line data_bytes behind
    → (k : ChunkLine) (others come : List ℕ) → LineFirst text k (others ++ come) → length others ≡ chunk_size k → behind ≡ come
same_line_end text line data_bytes behind at k others come first size =
    let same = one_line text line k _ _ at.first first in
    let len : length data_bytes ≡ length others = at.size ∙ ap chunk_size same.0 ∙ sym size in
    (same_fronts data_bytes others behind come len same.1).1

pub no_body_at_data : (text : List ℕ) (line : ChunkLine) (data_bytes behind : List ℕ) → DataFirst text line data_bytes behind
    → ((rest : List ℕ) → behind ≡ crlf_bytes ++ rest → HasBody rest → ⊥) → HasNoBody text
no_body_at_data text line data_bytes behind at refuted = no_body text (record {
  chunk = λ c rest is first has. refuted rest (same_chunk text line data_bytes behind at c rest is first) has;
  last = λ k rest first zero is. of_two_sizes text line k _ rest at.first first at.some zero;
})

pub no_cut_at_data : (text : List ℕ) (line : ChunkLine) (data_bytes behind : List ℕ) → DataFirst text line data_bytes behind
    → ((rest : List ℕ) → behind ≡ crlf_bytes ++ rest → HasCut rest → ⊥) → (IsBegunLineEnd behind → ⊥) → HasNoCut text
no_cut_at_data text line data_bytes behind at refuted whole = no_cut text (record {
  chunk = λ c rest is first has. refuted rest (same_chunk text line data_bytes behind at c rest is first) has;
  in_line = λ none. no_line_without_lf text line _ none at.first;
  in_data = not_in_data text line data_bytes behind at;
  in_line_end = λ k others come first some size begun.
      whole (subst IsBegunLineEnd (sym (same_line_end text line data_bytes behind at k others come first size)) begun);
  in_trailer = λ k come first zero open_at. of_two_sizes text line k _ come at.first first at.some zero;
})

-- ---- a text that begins with a line of size 0

pub no_body_at_last : (text : List ℕ) (line : ChunkLine) (rest : List ℕ) → LineFirst text line rest → chunk_size line ≡ 0
    → (IsSection rest → ⊥) → HasNoBody text
no_body_at_last text line rest first zero refuted = no_body text (record {
  chunk = λ c more is second has. of_two_sizes text c.line line _ rest second first
      (omega (arith, is.some)) zero;
  last = λ k more second zero_too is. refuted (subst IsSection (one_line text k line more rest second first).1 is);
})

pub no_cut_at_last : (text : List ℕ) (line : ChunkLine) (rest : List ℕ) → LineFirst text line rest → chunk_size line ≡ 0
    → section_len rest ≢ None → HasNoCut text
no_cut_at_last text line rest first zero ended = no_cut text (record {
  chunk = λ c more is second has. of_two_sizes text c.line line _ rest second first (omega (arith, is.some)) zero;
  in_line = λ none. no_line_without_lf text line rest none first;
  in_data = λ k come second few. of_two_sizes text k line come rest second first (omega (arith, few)) zero;
  in_line_end = λ k others come second some size begun. of_two_sizes text k line _ rest second first some zero;
  in_trailer = λ k come second zero_too open_at.
      ended (ap section_len (sym (one_line text k line come rest second first).1) ∙ open_at);
})
