-- The limits of a chunked body that was cut, as a walk over its chunks finds them.
use Rattle.std.proofs.Common.{◌≡◌, ◌≢◌, ℕ, ◌+◌, ◌-◌, ◌<◌, ◌≤◌, inl, inr, Bool, List, [], ◌∷◌, ◌++◌, length, drop, take, leb, length-append, append_assoc, refl, sym, ap, subst, ◌∙◌, arith}
use Rattle.std.specs.Prelude.{◌↔◌, All, IsTrue}
use Rattle.std.specs.List.{flat_map}
use Rattle.std.proofs.lemmas.Bool.{le-leb, leb-true}
use Rattle.std.proofs.lemmas.List.{take_all, take_at, drop_at, take-append-drop}
use Rattle.std.proofs.lemmas.List.Elements.{All-cons, All-head, All-nil, All-tail}
use Rattle.httparse.specs.Ascii.{crlf_bytes}
use Rattle.httparse.specs.Grammar.{ChunkLine, chunk_size, print_chunk_line, print_extension, IsChunkLine, HasNoChunkLine}
use Rattle.httparse.specs.Spans.{IsChunkLineAt}
use Rattle.httparse.proofs.ChunkLemmas.{chunk_line_unique}
use Rattle.capture.specs.Body.{HasShortLines, IsShortBegun, IsShortLine, IsWithinLimits, announced}
use Rattle.capture.specs.Chunks.{Chunk, IsChunk, print_chunk, Begun, InLine, InData, InLineEnd, InTrailer, IsBegun, IsBegunLineEnd, print_begun, CutBody, IsCutBody, print_cut}
use Rattle.capture.specs.declared.limits.TheConstants.{BODY_LIMIT, HEAD_LIMIT, SIZE_LINE_LIMIT}

-- of two texts with fronts of one length
fronts : (p q x y : List ℕ) → length p ≡ length q → p ++ x ≡ q ++ y → (p ≡ q) × (x ≡ y)
fronts p q x y long e = (
  sym (take_at p x (length p) refl) ∙ ap (take (length p)) e ∙ take_at q y (length p) (sym long),
  sym (drop_at p x (length p) refl) ∙ ap (drop (length p)) e ∙ drop_at q y (length p) (sym long),
)

-- ---- size lines

-- a size line stands at the front, and then behind
pub record LineFirst (text : List ℕ) (line : ChunkLine) (behind : List ℕ) : Type 0 where
  pub is : IsChunkLine line
  pub composed : text ≡ print_chunk_line line ++ behind

pub line_at : (text : List ℕ) (start size : ℕ) (line : ChunkLine) (behind : List ℕ) → IsChunkLineAt text start size line → behind ≡ drop start text
    → LineFirst text line behind
line_at text start size line behind at is =
    record { is = at.reads.0; composed = at.reads.1 ∙ ap (λ t. print_chunk_line line ++ t) (sym is) }

one_line : (text : List ℕ) (l k : ChunkLine) (rest more : List ℕ) → LineFirst text l rest → LineFirst text k more
    → (k ≡ l) × (rest ≡ more)
one_line text l k rest more first second =
    let same = chunk_line_unique text l k rest more (first.is, first.composed) (second.is, second.composed) in
    (sym same.0, same.1)

no_lf_behind : (front rest : List ℕ) → All (λ b. b ≢ 10) (front ++ 13 ∷ 10 ∷ rest) → ⊥
no_lf_behind [] rest none =
    All-head (λ b. b ≢ 10) 10 rest (All-tail (λ b. b ≢ 10) 13 (10 ∷ rest) none) refl
no_lf_behind (b ∷ front) rest none = no_lf_behind front rest (All-tail (λ c. c ≢ 10) b (front ++ 13 ∷ 10 ∷ rest) none)

no_line_without_lf : (text : List ℕ) (line : ChunkLine) (rest : List ℕ) → All (λ b. b ≢ 10) text → LineFirst text line rest → ⊥
unfolding print_chunk_line
no_line_without_lf text line rest none first =
    let front : List ℕ = line.digits ++ line.pad ++ print_extension line.extension in
    let e : text ≡ front ++ 13 ∷ 10 ∷ rest = first.composed ∙ append_assoc front (13 ∷ 10 ∷ []) rest in
    no_lf_behind front rest (subst (All (λ b. b ≢ 10)) e none)

-- ---- bodies that were cut

regrouped : (a b c d : List ℕ) → a ++ b ++ c ++ d ≡ a ++ (b ++ (c ++ d))
regrouped a b c d = simp append_assoc

abbrev made : List Chunk → Begun → CutBody
made chunks begun = record { chunks = chunks; begun = begun }

chunk_first : (text : List ℕ) (c : Chunk) (chunks : List Chunk) (begun : Begun) → IsChunk c
    → text ≡ flat_map print_chunk (c ∷ chunks) ++ print_begun begun
    → LineFirst text c.line (c.data_bytes ++ (crlf_bytes ++ print_cut (made chunks begun)))
chunk_first text c chunks begun is e = record {
  is = is.line;
  composed = e ∙ append_assoc (print_chunk c) (flat_map print_chunk chunks) (print_begun begun)
      ∙ regrouped (print_chunk_line c.line) c.data_bytes crlf_bytes (print_cut (made chunks begun));
}

-- what is so of each body that was cut and begins with this size line, by how far it came
pub record AtLine (P : CutBody → Type 0) (line : ChunkLine) (behind : List ℕ) : Type 0 where
  pub chunk : (c : Chunk) (chunks : List Chunk) (begun : Begun) → IsChunk c → All IsChunk chunks → IsBegun begun → c.line ≡ line
      → behind ≡ c.data_bytes ++ (crlf_bytes ++ print_cut (made chunks begun)) → P (made (c ∷ chunks) begun)
  pub in_data : (k : ChunkLine) (come : List ℕ) → k ≡ line → behind ≡ come → length come < chunk_size k → P (made [] (InData k come))
  pub in_line_end : (k : ChunkLine) (data_bytes come : List ℕ) → k ≡ line → behind ≡ data_bytes ++ come → 0 < chunk_size k
      → length data_bytes ≡ chunk_size k → IsBegunLineEnd come → P (made [] (InLineEnd k data_bytes come))
  pub in_trailer : (k : ChunkLine) (come : List ℕ) → k ≡ line → behind ≡ come → chunk_size k ≡ 0 → P (made [] (InTrailer k come))

at_line : (P : CutBody → Type 0) (text : List ℕ) (line : ChunkLine) (behind : List ℕ) → LineFirst text line behind → AtLine P line behind
    → (chunks : List Chunk) (begun : Begun) → All IsChunk chunks → IsBegun begun
    → text ≡ flat_map print_chunk chunks ++ print_begun begun → P (made chunks begun)
at_line P text line behind first at [] (InLine come) all is e =
    absurd (no_line_without_lf text line behind (subst (All (λ b. b ≢ 10)) (sym e) is) first)
at_line P text line behind first at [] (InData k come) all is e =
    let same = one_line text line k behind come first (record { is = is.0; composed = e }) in
    at.in_data k come same.0 same.1 is.1
at_line P text line behind first at [] (InLineEnd k data_bytes come) all is e =
    let same = one_line text line k behind (data_bytes ++ come) first
    (record { is = is.0.line; composed = e ∙ append_assoc (print_chunk_line k) data_bytes come }) in
    at.in_line_end k data_bytes come same.0 same.1 is.0.some is.0.size is.1
at_line P text line behind first at [] (InTrailer k come) all is e =
    let same = one_line text line k behind come first (record { is = is.0; composed = e }) in
    at.in_trailer k come same.0 same.1 is.1
at_line P text line behind first at (c ∷ chunks) begun all is e =
    let valid : IsChunk c = All-head IsChunk c chunks all in
    let same = one_line text line c.line behind (c.data_bytes ++ (crlf_bytes ++ print_cut (made chunks begun))) first
    (chunk_first text c chunks begun valid e) in
    at.chunk c chunks begun valid (All-tail IsChunk c chunks all) is same.0 same.1

-- ---- the limits

-- within the limits, where so many bytes stood before it
pub record FitsBehind (before : ℕ) (c : CutBody) : Type 0 where
  pub lines : HasShortLines c.chunks
  pub begun : IsShortBegun c.begun
  pub fits : before + announced c ≤ BODY_LIMIT

abbrev HasShortLine : Chunk → Type 0
HasShortLine c = IsShortLine c.line

-- what is left of a body behind its front, which is within the limits exactly where the whole is
pub record Rest (Whole : Type 0) (before : ℕ) (text : List ℕ) : Type 0 where
  pub cut : CutBody
  pub is : IsCutBody cut
  pub composed : text ≡ print_cut cut
  pub to_whole : FitsBehind before cut → Whole
  pub to_rest : Whole → FitsBehind before cut

-- the wire is within the limits exactly where its rest is
pub record GoesOn (wire rest : List ℕ) : Type 0 where
  pub shorter : length rest ≤ length wire
  pub short : length wire ≤ BODY_LIMIT
  pub by_rest : (c : CutBody) → IsCutBody c → wire ≡ print_cut c → Rest (IsWithinLimits c) (length wire - length rest) rest

pub goes_on_all : (wire : List ℕ) → length wire ≤ BODY_LIMIT → GoesOn wire wire
goes_on_all wire short = record {
  shorter = omega arith;
  short = short;
  by_rest = λ c is e. record {
    cut = c;
    is = is;
    composed = e;
    to_whole = λ f. record { lines = f.lines; begun = f.begun; fits = omega (arith, f.fits) };
    to_rest = λ w. record { lines = w.lines; begun = w.begun; fits = omega (arith, w.fits) };
  };
}

-- what a walk answers
abbrev pub Judges : List ℕ → Bool → Type 0
Judges wire ok = (c : CutBody) → IsCutBody c → wire ≡ print_cut c → (IsTrue ok ↔ IsWithinLimits c)

judged : (wire rest : List ℕ) (ok : Bool) → GoesOn wire rest
    → ((d : CutBody) → IsCutBody d → rest ≡ print_cut d → (IsTrue ok ↔ FitsBehind (length wire - length rest) d))
    → Judges wire ok
judged wire rest ok goes by c is e =
    let left = goes.by_rest c is e in
    let same = by left.cut left.is left.composed in
    (λ t. left.to_whole (same.0 t), λ w. same.1 (left.to_rest w))

-- ---- a wire that is too long

come_is_announced : (begun : Begun) → IsBegun begun → length (print_begun begun) ≤ announced (made [] begun)
come_is_announced (InLine come) is = omega arith
come_is_announced (InData line come) is = omega (arith, is.1, length-append (print_chunk_line line) come)
come_is_announced (InLineEnd line data_bytes come) is = omega arith
come_is_announced (InTrailer line come) is = omega arith

pub too_long : (wire : List ℕ) → BODY_LIMIT < length wire → (c : CutBody) → IsCutBody c → wire ≡ print_cut c → IsWithinLimits c → ⊥
too_long wire long c is e within =
    omega (arith, within.fits, ap length e, length-append (flat_map print_chunk c.chunks) (print_begun c.begun), come_is_announced c.begun is.begun)

-- ---- no size line at the front

open_line : (before : ℕ) (rest : List ℕ) → HasNoChunkLine rest → before + length rest ≤ BODY_LIMIT
    → (chunks : List Chunk) (begun : Begun) → All IsChunk chunks → IsBegun begun
    → rest ≡ flat_map print_chunk chunks ++ print_begun begun
    → (length rest ≤ SIZE_LINE_LIMIT ↔ FitsBehind before (made chunks begun))
open_line before rest none room [] (InLine come) all is e = (
  λ short. record { lines = All-nil HasShortLine; begun = omega (arith, ap length e); fits = omega (arith, ap length e) },
  λ f. omega (arith, f.begun, ap length e),
)
open_line before rest none room [] (InData k come) all is e = absurd (none k come (is.0, e))
open_line before rest none room [] (InLineEnd k data_bytes come) all is e =
    absurd (none k (data_bytes ++ come) (is.0.line, e ∙ append_assoc (print_chunk_line k) data_bytes come))
open_line before rest none room [] (InTrailer k come) all is e = absurd (none k come (is.0, e))
open_line before rest none room (c ∷ chunks) begun all is e =
    let first = chunk_first rest c chunks begun (All-head IsChunk c chunks all) e in
    absurd (none c.line _ (first.is, first.composed))

pub judged_open : (wire rest : List ℕ) (ok : Bool) → GoesOn wire rest → HasNoChunkLine rest
    → (IsTrue ok ↔ (length rest ≤ SIZE_LINE_LIMIT)) → Judges wire ok
judged_open wire rest ok goes none short =
    judged wire rest ok goes (λ d is e.
    let same = open_line (length wire - length rest) rest none (omega (arith, goes.shorter, goes.short)) d.chunks d.begun is.chunks is.begun e in
    (λ t. same.0 (short.0 t), λ f. short.1 (same.1 f)))

-- ---- a size line at the front

module _ (before : ℕ) (text : List ℕ) (line : ChunkLine) (behind : List ℕ) where
  print_length : (k : ChunkLine) → k ≡ line → length (print_chunk_line k) ≡ length (print_chunk_line line)
  print_length k same = ap (λ (l : ChunkLine). length (print_chunk_line l)) same

  size_same : (k : ChunkLine) → k ≡ line → chunk_size k ≡ chunk_size line
  size_same k same = ap chunk_size same

  text_length : LineFirst text line behind → length text ≡ length (print_chunk_line line) + length behind
  text_length first = ap length first.composed ∙ length-append (print_chunk_line line) behind

  -- which is too long
  long_line : SIZE_LINE_LIMIT < length (print_chunk_line line) → AtLine (λ d. FitsBehind before d → ⊥) line behind
  long_line long = record {
    chunk = λ c chunks begun is all isb same e f.
        let short = All-head HasShortLine c chunks f.lines in
        omega (arith, short, print_length c.line same);
    in_data = λ k come same e few f. omega (arith, f.begun, print_length k same);
    in_line_end = λ k data_bytes come same e some size end f. omega (arith, f.begun, print_length k same);
    in_trailer = λ k come same e zero f. omega (arith, f.begun.0, print_length k same);
  }

  -- of size 0
  last_line : LineFirst text line behind → length (print_chunk_line line) ≤ SIZE_LINE_LIMIT → chunk_size line ≡ 0
      → before + length text ≤ BODY_LIMIT → AtLine (λ d. (length behind ≤ HEAD_LIMIT) ↔ FitsBehind before d) line behind
  last_line first short zero room = record {
    chunk = λ c chunks begun is all isb same e. absurd (omega (arith, is.some, size_same c.line same));
    in_data = λ k come same e few. absurd (omega (arith, few, size_same k same));
    in_line_end = λ k data_bytes come same e some size end. absurd (omega (arith, some, size_same k same));
    in_trailer = λ k come same e zero. (
      λ h. record {
        lines = All-nil HasShortLine;
        begun = (omega (arith, short, print_length k same), omega (arith, h, ap length e));
        fits = omega (arith, room, text_length first, ap length e, print_length k same, length-append (print_chunk_line k) come);
      },
      λ f. omega (arith, f.begun.1, ap length e),
    );
  }

  -- of more data than came
  data_line : LineFirst text line behind → length (print_chunk_line line) ≤ SIZE_LINE_LIMIT → length behind < chunk_size line
      → before + length text ≤ BODY_LIMIT
      → AtLine (λ d. (before + length (print_chunk_line line) + chunk_size line ≤ BODY_LIMIT) ↔ FitsBehind before d) line behind
  data_line first short few room = record {
    chunk = λ c chunks begun is all isb same e.
        absurd (omega (
          arith,
          few,
          is.size,
          size_same c.line same,
          ap length e,
          length-append c.data_bytes (crlf_bytes ++ print_cut (made chunks begun)),
        ));
    in_data = λ k come same e less. (
      λ h. record {
        lines = All-nil HasShortLine;
        begun = omega (arith, short, print_length k same);
        fits = omega (arith, h, print_length k same, size_same k same);
      },
      λ f. omega (arith, f.fits, print_length k same, size_same k same),
    );
    in_line_end = λ k data_bytes come same e some size end.
        absurd (omega (arith, few, size, size_same k same, ap length e, length-append data_bytes come));
    in_trailer = λ k come same e zero. absurd (omega (arith, few, zero, size_same k same));
  }

  -- whose data came, with a part of the line end behind them
  ended_data : (data_bytes line_end : List ℕ) → LineFirst text line behind → length (print_chunk_line line) ≤ SIZE_LINE_LIMIT
      → behind ≡ data_bytes ++ line_end → length data_bytes ≡ chunk_size line → 0 < chunk_size line → length line_end < 2
      → before + length text ≤ BODY_LIMIT → AtLine (λ d. FitsBehind before d) line behind
  ended_data data_bytes line_end first short split size some few room = record {
    chunk = λ c chunks begun is all isb same e.
        let parts = fronts data_bytes c.data_bytes line_end (crlf_bytes ++ print_cut (made chunks begun))
        (omega (arith, size, is.size, size_same c.line same)) (sym split ∙ e) in
        absurd (omega (arith, few, ap length parts.1));
    in_data = λ k come same e less.
        absurd (omega (arith, less, size, size_same k same, ap length e, ap length split, length-append data_bytes line_end));
    in_line_end = λ k others come same e some_ size_ end. record {
      lines = All-nil HasShortLine;
      begun = omega (arith, short, print_length k same);
      fits = omega (
        arith,
        room,
        text_length first,
        ap length e,
        print_length k same,
        length-append others come,
        length-append (print_chunk_line k ++ others) come,
        length-append (print_chunk_line k) others,
      );
    };
    in_trailer = λ k come same e zero. absurd (omega (arith, some, zero, size_same k same));
  }

  begun_is_short : (come : List ℕ) → IsBegunLineEnd come → length come < 2
  begun_is_short come (inl none) = omega (arith, ap length none)
  begun_is_short come (inr cr) = omega (arith, ap length cr)

  -- a chunk
  whole_chunk : (data_bytes others : List ℕ) (x y : ℕ) → LineFirst text line behind → length (print_chunk_line line) ≤ SIZE_LINE_LIMIT
      → behind ≡ data_bytes ++ (x ∷ y ∷ others) → length data_bytes ≡ chunk_size line → 0 < chunk_size line
      → AtLine (λ d. Rest (FitsBehind before d) (before + (length text - length others)) others) line behind
  whole_chunk data_bytes others x y first short split size some =
      let lens : length behind ≡ length data_bytes + length (x ∷ y ∷ others) = ap length split ∙ length-append data_bytes (x ∷ y ∷ others) in
      record {
        chunk = λ c chunks begun is all isb same e.
            let parts = fronts data_bytes c.data_bytes (x ∷ y ∷ others) (crlf_bytes ++ print_cut (made chunks begun))
            (omega (arith, size, is.size, size_same c.line same)) (sym split ∙ e) in
            let chunk_length : length (print_chunk c) ≡ length (print_chunk_line line) + length data_bytes + 2 =
            omega (
              arith,
              length-append (print_chunk_line c.line ++ c.data_bytes) crlf_bytes,
              length-append (print_chunk_line c.line) c.data_bytes,
              print_length c.line same,
              ap length parts.0,
            ) in
            let all_length : length (flat_map print_chunk (c ∷ chunks)) ≡ length (print_chunk c) + length (flat_map print_chunk chunks) =
            length-append (print_chunk c) (flat_map print_chunk chunks) in
            record {
              cut = made chunks begun;
              is = record { chunks = all; begun = isb };
              composed = ap (drop 2) parts.1;
              to_whole = λ f. record {
                lines = All-cons HasShortLine c chunks (omega (arith, short, print_length c.line same)) f.lines;
                begun = f.begun;
                fits = omega (arith, f.fits, all_length, chunk_length, text_length first, lens);
              };
              to_rest = λ f. record {
                lines = All-tail HasShortLine c chunks f.lines;
                begun = f.begun;
                fits = omega (arith, f.fits, all_length, chunk_length, text_length first, lens);
              };
            };
        in_data = λ k come same e less. absurd (omega (arith, less, size, size_same k same, ap length e, lens));
        in_line_end = λ k come_data come same e some_ size_ end.
            absurd (omega (arith, begun_is_short come end, size, size_, size_same k same, ap length e, lens, length-append come_data come));
        in_trailer = λ k come same e zero. absurd (omega (arith, some, zero, size_same k same));
      }

-- ---- what the walk answers at a size line

module _ (wire rest : List ℕ) (line : ChunkLine) (behind : List ℕ) (goes : GoesOn wire rest) (first : LineFirst rest line behind) where
  at_rest : (P : CutBody → Type 0) → AtLine P line behind → (d : CutBody) → IsCutBody d → rest ≡ print_cut d → P d
  at_rest P at d is e = at_line P rest line behind first at d.chunks d.begun is.chunks is.begun e

  room : (length wire - length rest) + length rest ≤ BODY_LIMIT
  room = omega (arith, goes.shorter, goes.short)

  no_true : (ok : Bool) → (IsTrue ok → ⊥) → (P : Type 0) → (P → ⊥) → (IsTrue ok ↔ P)
  no_true ok none P not = (λ t. absurd (none t), λ p. absurd (not p))

  pub judged_long_line : (ok : Bool) → (IsTrue ok → ⊥) → SIZE_LINE_LIMIT < length (print_chunk_line line) → Judges wire ok
  judged_long_line ok none long =
      judged wire rest ok goes (λ d is e. no_true ok none (FitsBehind (length wire - length rest) d)
      (at_rest (λ d. FitsBehind (length wire - length rest) d → ⊥) (long_line (length wire - length rest) rest line behind long) d is e))

  pub judged_last_line : (ok : Bool) → length (print_chunk_line line) ≤ SIZE_LINE_LIMIT → chunk_size line ≡ 0
      → (IsTrue ok ↔ (length behind ≤ HEAD_LIMIT)) → Judges wire ok
  judged_last_line ok short zero said =
      judged wire rest ok goes (λ d is e.
      let same = at_rest (λ d. (length behind ≤ HEAD_LIMIT) ↔ FitsBehind (length wire - length rest) d)
      (last_line (length wire - length rest) rest line behind first short zero room) d is e in
      (λ t. same.0 (said.0 t), λ f. said.1 (same.1 f)))

  pub judged_data : (ok : Bool) → length (print_chunk_line line) ≤ SIZE_LINE_LIMIT → length behind < chunk_size line
      → (IsTrue ok ↔ ((length wire - length rest) + length (print_chunk_line line) + chunk_size line ≤ BODY_LIMIT)) → Judges wire ok
  judged_data ok short few said =
      judged wire rest ok goes (λ d is e.
      let same = at_rest (λ d. ((length wire - length rest) + length (print_chunk_line line) + chunk_size line ≤ BODY_LIMIT) ↔ FitsBehind (length wire - length rest) d)
      (data_line (length wire - length rest) rest line behind first short few room) d is e in
      (λ t. same.0 (said.0 t), λ f. said.1 (same.1 f)))

  pub judged_size : (size : ℕ) → size ≡ chunk_size line → length (print_chunk_line line) ≤ SIZE_LINE_LIMIT → length behind < size
      → Judges wire (leb size (BODY_LIMIT - (length wire - length behind)))
  judged_size size is short few =
      let text_lens : length rest ≡ length (print_chunk_line line) + length behind = ap length first.composed ∙ length-append (print_chunk_line line) behind in
      judged_data (leb size (BODY_LIMIT - (length wire - length behind))) short (omega (arith, few, is)) (
        λ t. omega (arith, leb-true size (BODY_LIMIT - (length wire - length behind)) t, is, text_lens, goes.shorter, goes.short),
        λ h. le-leb size (BODY_LIMIT - (length wire - length behind)) (omega (arith, h, is, text_lens, goes.shorter, goes.short)),
      )

  pub judged_line_end : (ok : Bool) (data_bytes line_end : List ℕ) → IsTrue ok → length (print_chunk_line line) ≤ SIZE_LINE_LIMIT
      → behind ≡ data_bytes ++ line_end → length data_bytes ≡ chunk_size line → 0 < chunk_size line → length line_end < 2 → Judges wire ok
  judged_line_end ok data_bytes line_end yes_ short split size some few =
      judged wire rest ok goes (λ d is e.
      let fits = at_rest (λ d. FitsBehind (length wire - length rest) d)
      (ended_data (length wire - length rest) rest line behind data_bytes line_end first short split size some few room) d is e in
      (λ t. fits, λ f. yes_))

  pub goes_further : (data_bytes others : List ℕ) (x y : ℕ) → length (print_chunk_line line) ≤ SIZE_LINE_LIMIT
      → behind ≡ data_bytes ++ (x ∷ y ∷ others) → length data_bytes ≡ chunk_size line → 0 < chunk_size line → GoesOn wire others
  goes_further data_bytes others x y short split size some =
      let lens : length behind ≡ length data_bytes + length (x ∷ y ∷ others) = ap length split ∙ length-append data_bytes (x ∷ y ∷ others) in
      let text_lens : length rest ≡ length (print_chunk_line line) + length behind = ap length first.composed ∙ length-append (print_chunk_line line) behind in
      let place : (length wire - length rest) + (length rest - length others) ≡ length wire - length others =
      omega (arith, goes.shorter, lens, text_lens) in
      record {
        shorter = omega (arith, goes.shorter, lens, text_lens);
        short = goes.short;
        by_rest = λ c is e.
            let left = goes.by_rest c is e in
            let more = at_rest (λ d. Rest (FitsBehind (length wire - length rest) d) ((length wire - length rest) + (length rest - length others)) others)
            (whole_chunk (length wire - length rest) rest line behind data_bytes others x y first short split size some) left.cut left.is left.composed in
            record {
              cut = more.cut;
              is = more.is;
              composed = more.composed;
              to_whole = λ f. left.to_whole (more.to_whole (subst (λ n. FitsBehind n more.cut) (sym place) f));
              to_rest = λ w. subst (λ n. FitsBehind n more.cut) place (more.to_rest (left.to_rest w));
            };
      }

  pub goes_behind : (data_bytes line_end : List ℕ) → 2 ≤ length line_end → length (print_chunk_line line) ≤ SIZE_LINE_LIMIT
      → behind ≡ data_bytes ++ line_end → length data_bytes ≡ chunk_size line → 0 < chunk_size line
      → GoesOn wire (take (length line_end - 2) (drop 2 line_end))
  goes_behind data_bytes [] two short split size some = absurd (omega (arith, two))
  goes_behind data_bytes (x ∷ []) two short split size some = absurd (omega (arith, two))
  goes_behind data_bytes (x ∷ y ∷ others) two short split size some =
      subst (GoesOn wire) (sym (take_all (length (x ∷ y ∷ others) - 2) others (omega arith)))
      (goes_further data_bytes others x y short split size some)

-- a list that was split
pub split_is : (text front back : List ℕ) (n : ℕ) → front ≡ take n text → back ≡ drop n text → text ≡ front ++ back
split_is text front back n p q = sym (ap (λ f. f ++ back) p ∙ ap (λ r. take n text ++ r) q ∙ take-append-drop n text)
