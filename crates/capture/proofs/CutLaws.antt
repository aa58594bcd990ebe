-- How far a chunked body came is told by its bytes, and no body is both whole and cut.
use Rattle.std.proofs.Common.{◌≡◌, ◌≢◌, ℕ, ◌<◌, List, [], ◌∷◌, ◌++◌, length, None, Some, inl, inr, refl, sym, ap, subst, ◌∙◌, arith, append_assoc, length-append}
use Rattle.std.specs.Prelude.{All}
use Rattle.std.specs.List.{flat_map}
use Rattle.std.proofs.lemmas.List.Elements.{All-head, All-tail}
use Rattle.httparse.specs.Ascii.{crlf_bytes}
use Rattle.httparse.specs.Grammar.{ChunkLine, chunk_size, print_chunk_line, print_extension, IsChunkLine, print_section}
use Rattle.httparse.proofs.ChunkLemmas.{chunk_line_unique}
use Rattle.httparse.proofs.GrammarLemmas.{section_unique}
use Rattle.capture.specs.Chunks.{Chunk, ChunkedBody, IsChunk, IsChunkedBody, print_chunk, print_chunked, Begun, InLine, InData, InLineEnd, InTrailer, IsBegun, IsBegunLineEnd, print_begun, CutBody, IsCutBody, print_cut}
use Rattle.capture.specs.Head.{section_len}
use Rattle.capture.proofs.ChunkLaws.{same_fronts, line_of_chunk, HasNoChunk, chunks_unique}
use Rattle.capture.proofs.LineFeeds.{section_len-section}

-- ---- lines

-- a size line that stands at the front, and what stands behind it
pub record LineFirst (text : List ℕ) (line : ChunkLine) (rest : List ℕ) : Type 0 where
  pub is : IsChunkLine line
  pub composed : text ≡ print_chunk_line line ++ rest

-- equal texts begin with one size line
pub one_line : (text other : List ℕ) (l k : ChunkLine) (rest more : List ℕ) → LineFirst text l rest → LineFirst other k more → text ≡ other
    → (l ≡ k) × (rest ≡ more)
one_line text other l k rest more first second e =
    chunk_line_unique text l k rest more (first.is, first.composed) (second.is, e ∙ second.composed)

-- a text without LF begins with no size line
no_lf_behind : (front rest : List ℕ) → All (λ b. b ≢ 10) (front ++ 13 ∷ 10 ∷ rest) → ⊥
no_lf_behind [] rest none =
    All-head (λ b. b ≢ 10) 10 rest (All-tail (λ b. b ≢ 10) 13 (10 ∷ rest) none) refl
no_lf_behind (b ∷ front) rest none = no_lf_behind front rest (All-tail (λ c. c ≢ 10) b (front ++ 13 ∷ 10 ∷ rest) none)

pub no_line_without_lf : (text : List ℕ) (line : ChunkLine) (rest : List ℕ) → All (λ b. b ≢ 10) text → LineFirst text line rest → ⊥
unfolding print_chunk_line
no_line_without_lf text line rest none first =
    let front : List ℕ = line.digits ++ line.pad ++ print_extension line.extension in
    let e : text ≡ front ++ 13 ∷ 10 ∷ rest = first.composed ∙ append_assoc front (13 ∷ 10 ∷ []) rest in
    no_lf_behind front rest (subst (All (λ b. b ≢ 10)) e none)

-- ---- what begins a chunk

pub first_of_chunk : (c : Chunk) (rest text : List ℕ) → IsChunk c → text ≡ print_chunk c ++ rest
    → LineFirst text c.line (c.data_bytes ++ (crlf_bytes ++ rest))
first_of_chunk c rest text is e = let line = line_of_chunk c rest text is e in record { is = line.0; composed = line.1 }

-- behind a line of size 0 no chunk begins
pub no_chunk_behind_zero : (text : List ℕ) (line : ChunkLine) (rest : List ℕ) → LineFirst text line rest → chunk_size line ≡ 0 → HasNoChunk text
no_chunk_behind_zero text line rest first zero = record {
  none = λ c more is e.
      let same = one_line text text line c.line rest (c.data_bytes ++ (crlf_bytes ++ more)) first (first_of_chunk c more text is e) refl in
      absurd (omega (arith, is.some, zero, ap chunk_size same.0));
}

-- nor where fewer bytes of data came than the line says
no_chunk_in_data : (text : List ℕ) (line : ChunkLine) (come : List ℕ) → LineFirst text line come → length come < chunk_size line → HasNoChunk text
no_chunk_in_data text line come first few = record {
  none = λ c more is e.
      let same = one_line text text line c.line come (c.data_bytes ++ (crlf_bytes ++ more)) first (first_of_chunk c more text is e) refl in
      absurd (omega (
        arith,
        few,
        is.size,
        ap chunk_size same.0,
        ap length same.1,
        length-append c.data_bytes (crlf_bytes ++ more),
      ));
}

not_whole_line_end : (come more : List ℕ) → IsBegunLineEnd come → come ≡ crlf_bytes ++ more → ⊥
not_whole_line_end come more (inl none) e = let f : [] ≡ 13 ∷ 10 ∷ more = sym none ∙ e in cc
not_whole_line_end come more (inr cr) e = let f : 13 ∷ [] ≡ 13 ∷ 10 ∷ more = sym cr ∙ e in cc

-- nor where the line end behind the data isn't whole
no_chunk_in_line_end : (text : List ℕ) (line : ChunkLine) (data_bytes come : List ℕ) → LineFirst text line (data_bytes ++ come)
    → length data_bytes ≡ chunk_size line → IsBegunLineEnd come → HasNoChunk text
no_chunk_in_line_end text line data_bytes come first size begun = record {
  none = λ c more is e.
      let same = one_line text text line c.line (data_bytes ++ come) (c.data_bytes ++ (crlf_bytes ++ more)) first (first_of_chunk c more text is e) refl in
      let behind = same_fronts data_bytes c.data_bytes come (crlf_bytes ++ more) (size ∙ ap chunk_size same.0 ∙ sym is.size) same.1 in
      not_whole_line_end come more begun behind.1;
}

-- ---- what is begun

-- a size line and what came behind it
line_first : (line : ChunkLine) (rest : List ℕ) → IsChunkLine line → LineFirst (print_chunk_line line ++ rest) line rest
line_first line rest is = record { is = is; composed = refl }

line_end_first : (line : ChunkLine) (data_bytes come : List ℕ) → IsChunkLine line
    → LineFirst (print_chunk_line line ++ data_bytes ++ come) line (data_bytes ++ come)
line_end_first line data_bytes come is = record { is = is; composed = append_assoc (print_chunk_line line) data_bytes come }

-- what is begun is no chunk
pub begun_is_no_chunk : (begun : Begun) → IsBegun begun → HasNoChunk (print_begun begun)
begun_is_no_chunk (InLine come) is = record {
  none = λ c more is_chunk e. no_line_without_lf come c.line _ is (first_of_chunk c more come is_chunk e);
}
begun_is_no_chunk (InData line come) is = no_chunk_in_data _ line come (line_first line come is.0) is.1
begun_is_no_chunk (InLineEnd line data_bytes come) is =
    no_chunk_in_line_end _ line data_bytes come (line_end_first line data_bytes come is.0.line) is.0.size is.1
begun_is_no_chunk (InTrailer line come) is = no_chunk_behind_zero _ line come (line_first line come is.0) is.1

data_or_line_end : (text other : List ℕ) (l k : ChunkLine) (come data_bytes end : List ℕ) → LineFirst text l come → length come < chunk_size l
    → LineFirst other k (data_bytes ++ end) → length data_bytes ≡ chunk_size k → text ≡ other → ⊥
data_or_line_end text other l k come data_bytes end first few second size e =
    let same = one_line text other l k come (data_bytes ++ end) first second e in
    absurd (omega (arith, few, size, ap chunk_size same.0, ap length same.1, length-append data_bytes end))

of_two_sizes : (text other : List ℕ) (l k : ChunkLine) (rest more : List ℕ) → LineFirst text l rest → LineFirst other k more
    → 0 < chunk_size l → chunk_size k ≡ 0 → text ≡ other → ⊥
of_two_sizes text other l k rest more first second some zero e =
    let same = one_line text other l k rest more first second e in
    absurd (omega (arith, some, zero, ap chunk_size same.0))

-- the bytes tell what is begun
pub begun_unique : (a b : Begun) → IsBegun a → IsBegun b → print_begun a ≡ print_begun b → a ≡ b
begun_unique (InLine s) (InLine t) is_a is_b e = ap InLine e
begun_unique (InLine s) (InData k t) is_a is_b e =
    absurd (no_line_without_lf s k t is_a (record { is = is_b.0; composed = e }))
begun_unique (InLine s) (InLineEnd k d t) is_a is_b e =
    absurd (no_line_without_lf s k (d ++ t) is_a (record { is = is_b.0.line; composed = e ∙ append_assoc (print_chunk_line k) d t }))
begun_unique (InLine s) (InTrailer k t) is_a is_b e =
    absurd (no_line_without_lf s k t is_a (record { is = is_b.0; composed = e }))
begun_unique (InData l s) (InLine t) is_a is_b e =
    absurd (no_line_without_lf t l s is_b (record { is = is_a.0; composed = sym e }))
begun_unique (InData l s) (InData k t) is_a is_b e =
    let same = one_line _ _ l k s t (line_first l s is_a.0) (line_first k t is_b.0) e in
    λ i. InData (same.0 i) (same.1 i)
begun_unique (InData l s) (InLineEnd k d t) is_a is_b e =
    absurd (data_or_line_end _ _ l k s d t (line_first l s is_a.0) is_a.1 (line_end_first k d t is_b.0.line) is_b.0.size e)
begun_unique (InData l s) (InTrailer k t) is_a is_b e =
    absurd (of_two_sizes _ _ l k s t (line_first l s is_a.0) (line_first k t is_b.0) (omega (arith, is_a.1)) is_b.1 e)
begun_unique (InLineEnd l c s) (InLine t) is_a is_b e =
    absurd (no_line_without_lf t l (c ++ s) is_b (record { is = is_a.0.line; composed = sym e ∙ append_assoc (print_chunk_line l) c s }))
begun_unique (InLineEnd l c s) (InData k t) is_a is_b e =
    absurd (data_or_line_end _ _ k l t c s (line_first k t is_b.0) is_b.1 (line_end_first l c s is_a.0.line) is_a.0.size (sym e))
begun_unique (InLineEnd l c s) (InLineEnd k d t) is_a is_b e =
    let same = one_line _ _ l k (c ++ s) (d ++ t) (line_end_first l c s is_a.0.line) (line_end_first k d t is_b.0.line) e in
    let behind = same_fronts c d s t (is_a.0.size ∙ ap chunk_size same.0 ∙ sym is_b.0.size) same.1 in
    λ i. InLineEnd (same.0 i) (behind.0 i) (behind.1 i)
begun_unique (InLineEnd l c s) (InTrailer k t) is_a is_b e =
    absurd (of_two_sizes _ _ l k (c ++ s) t (line_end_first l c s is_a.0.line) (line_first k t is_b.0) is_a.0.some is_b.1 e)
begun_unique (InTrailer l s) (InLine t) is_a is_b e =
    absurd (no_line_without_lf t l s is_b (record { is = is_a.0; composed = sym e }))
begun_unique (InTrailer l s) (InData k t) is_a is_b e =
    absurd (of_two_sizes _ _ k l t s (line_first k t is_b.0) (line_first l s is_a.0) (omega (arith, is_b.1)) is_a.1 (sym e))
begun_unique (InTrailer l s) (InLineEnd k d t) is_a is_b e =
    absurd (of_two_sizes _ _ k l (d ++ t) s (line_end_first k d t is_b.0.line) (line_first l s is_a.0) is_b.0.some is_a.1 (sym e))
begun_unique (InTrailer l s) (InTrailer k t) is_a is_b e =
    let same = one_line _ _ l k s t (line_first l s is_a.0) (line_first k t is_b.0) e in
    λ i. InTrailer (same.0 i) (same.1 i)

-- ---- bodies

pub cut_unique : (a b : CutBody) → IsCutBody a → IsCutBody b → print_cut a ≡ print_cut b → a ≡ b
cut_unique a b is_a is_b e =
    let same = chunks_unique a.chunks b.chunks (print_begun a.begun) (print_begun b.begun) is_a.chunks is_b.chunks
    (begun_is_no_chunk a.begun is_a.begun) (begun_is_no_chunk b.begun is_b.begun) e in
    let begun = begun_unique a.begun b.begun is_a.begun is_b.begun same.1 in
    λ i. record { chunks = same.0 i; begun = begun i }

-- what stands behind the chunks of a whole body
abbrev tail_of : ChunkedBody → List ℕ → List ℕ
tail_of b rest = print_chunk_line b.last ++ (print_section b.trailer b.end ++ rest)

whole_text : (b : ChunkedBody) (rest : List ℕ) → print_chunked b ++ rest ≡ flat_map print_chunk b.chunks ++ tail_of b rest
whole_text b rest = regrouped (flat_map print_chunk b.chunks) (print_chunk_line b.last) (print_section b.trailer b.end) rest
  where
    regrouped : (a b c d : List ℕ) → a ++ b ++ c ++ d ≡ a ++ (b ++ (c ++ d))
    regrouped a b c d = simp append_assoc

tail_first : (b : ChunkedBody) (rest : List ℕ) → IsChunkedBody b → LineFirst (tail_of b rest) b.last (print_section b.trailer b.end ++ rest)
tail_first b rest is = record { is = is.last; composed = refl }

pub whole_unique : (a b : ChunkedBody) (rest other : List ℕ) → IsChunkedBody a → IsChunkedBody b → print_chunked a ++ rest ≡ print_chunked b ++ other
    → (a ≡ b) × (rest ≡ other)
whole_unique a b rest other is_a is_b e =
    let chunks = chunks_unique a.chunks b.chunks (tail_of a rest) (tail_of b other) is_a.chunks is_b.chunks
    (no_chunk_behind_zero _ a.last _ (tail_first a rest is_a) is_a.zero) (no_chunk_behind_zero _ b.last _ (tail_first b other is_b) is_b.zero)
    (sym (whole_text a rest) ∙ e ∙ whole_text b other) in
    let lines = one_line _ _ a.last b.last _ _ (tail_first a rest is_a) (tail_first b other is_b) chunks.1 in
    let sections = section_unique (print_section a.trailer a.end ++ rest) a.trailer b.trailer a.end b.end rest other
    (is_a.trailer, refl) (is_b.trailer, lines.1) in
    (λ i. record { chunks = chunks.0 i; last = lines.0 i; trailer = sections.0 i; end = sections.1 i }, sections.2)

-- behind a whole body's chunks nothing is begun
not_begun : (b : ChunkedBody) (rest : List ℕ) (begun : Begun) → IsChunkedBody b → IsBegun begun → tail_of b rest ≡ print_begun begun → ⊥
not_begun b rest (InLine come) whole is e =
    no_line_without_lf come b.last (print_section b.trailer b.end ++ rest) is (record { is = whole.last; composed = sym e })
not_begun b rest (InData line come) whole is e =
    of_two_sizes _ _ line b.last come _ (line_first line come is.0) (tail_first b rest whole) (omega (arith, is.1)) whole.zero (sym e)
not_begun b rest (InLineEnd line data_bytes come) whole is e =
    of_two_sizes _ _ line b.last (data_bytes ++ come) _ (line_end_first line data_bytes come is.0.line) (tail_first b rest whole) is.0.some whole.zero (sym e)
not_begun b rest (InTrailer line come) whole is e =
    let same = one_line _ _ b.last line _ come (tail_first b rest whole) (line_first line come is.0) e in
    let ends = section_len-section b.trailer b.end rest whole.trailer in
    let open_at : section_len (print_section b.trailer b.end ++ rest) ≡ None = ap section_len same.1 ∙ is.2 in
    let never : Some (length (print_section b.trailer b.end)) ≡ None = sym ends ∙ open_at in
    cc

pub whole_is_not_cut : (b : ChunkedBody) (rest : List ℕ) (c : CutBody) → IsChunkedBody b → IsCutBody c → print_chunked b ++ rest ≡ print_cut c → ⊥
whole_is_not_cut b rest c whole cut e =
    let chunks = chunks_unique b.chunks c.chunks (tail_of b rest) (print_begun c.begun) whole.chunks cut.chunks
    (no_chunk_behind_zero _ b.last _ (tail_first b rest whole) whole.zero) (begun_is_no_chunk c.begun cut.begun)
    (sym (whole_text b rest) ∙ e) in
    not_begun b rest c.begun whole cut.begun chunks.1
