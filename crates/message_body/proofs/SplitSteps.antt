-- What a split says, by where it was made.
use Rattle.std.proofs.Common.{◌≡◌, ◌≢◌, ℕ, ◌+◌, ◌-◌, ◌<◌, ◌≤◌, List, [], ◌++◌, length, drop, get_or, refl, sym, ap, ◌∙◌, arith, append_assoc, append-nil, length-append, length-drop, inl, inr}
use Rattle.std.specs.Prelude.{All}
use Rattle.std.proofs.lemmas.Bool.{eq-eqb, eqb-true}
use Rattle.std.proofs.lemmas.List.{append_cancel_left, take_all, drop-drop}
use Rattle.std.proofs.lemmas.List.Elements.{All-from_get_or, All-get_or}
use Rattle.std.proofs.lemmas.List.Folds.{drop_split}
use Rattle.httparse.specs.Ascii.{crlf_bytes}
use Rattle.httparse.specs.Grammar.{ChunkLine, print_chunk_line, HasNoChunkLine, NeverHasChunkLine}
use Rattle.httparse.specs.Spans.{IsChunkLineAt, span_bytes}
use Rattle.httparse.specs.declared.spans.Span.{Span}
use Rattle.httparse.proofs.RunLemmas.{length-slice_range}
use Rattle.httparse.proofs.TrimLemmas.{slice_empty}
use Rattle.capture.specs.Chunks.{IsChunk, InLine, InData, InLineEnd, IsBegunLineEnd}
use Rattle.memchr.specs.Find.{Nowhere, Passes, is_byte}
use Rattle.message_body.specs.steps.Splits.{HasNoBody, HasNoCut, HoldsChunk, HoldsLast, HoldsCut, HoldsData, IsLineEndSeen}
use Rattle.message_body.specs.declared.split.LineEndSeen.TheVariants.{Wrong}
use Rattle.message_body.proofs.SplitLaws.{DataFirst, no_body_without_line, no_cut_without_line, no_body_at_data, no_cut_at_data}

-- ---- no size line

pub never_is_none : (text : List ℕ) → NeverHasChunkLine text → HasNoChunkLine text
never_is_none text never = λ l rest reads. never [] l rest (reads.0, append-nil text ∙ reads.1)

pub without_lf : (text : List ℕ) → Nowhere (Passes (is_byte 10) text) 0 (length text) → All (λ b. b ≢ 10) text
without_lf text none =
    All-from_get_or (λ b. b ≢ 10) text 0 (λ k inside lf. none k (omega arith) inside (eq-eqb (get_or text k 0) 10 lf))

pub cut_in_line : (text : List ℕ) → All (λ b. b ≢ 10) text → HoldsCut text (record { start = length text; end = length text })
cut_in_line text none = record {
  begun = InLine text;
  valid = none;
  composed = refl;
  data_is = slice_empty text (length text) (length text) refl (omega arith);
  ordered = omega arith;
  fits = omega arith;
}

pub nothing_in_line : (text : List ℕ) (k : ℕ) → HasNoChunkLine text → k < length text → Passes (is_byte 10) text k
    → HasNoBody text × HasNoCut text
nothing_in_line text k none inside lf = (
  no_body_without_line text none,
  no_cut_without_line text none (λ all. All-get_or (λ b. b ≢ 10) text k 0 inside all (eqb-true (get_or text k 0) 10 lf)),
)

-- ---- a size line

pub line_fits : (text : List ℕ) (start size : ℕ) (line : ChunkLine) → IsChunkLineAt text start size line → start ≤ length text
line_fits text start size line at =
    omega (arith, ap length at.reads.1, length-append (print_chunk_line line) (drop start text), at.len_is)

pub last_at : (text : List ℕ) (start size : ℕ) (line : ChunkLine) → IsChunkLineAt text start size line → size ≡ 0 → HoldsLast text start
last_at text start size line at zero = record {
  line = line;
  valid = at.reads.0;
  zero = sym at.size_is ∙ zero;
  composed = at.reads.1;
  fits = line_fits text start size line at;
}

pub cut_in_data : (text : List ℕ) (start size : ℕ) (line : ChunkLine) → IsChunkLineAt text start size line
    → length text - start < size → HoldsCut text (record { start = start; end = length text })
cut_in_data text start size line at few = record {
  begun = InData line (drop start text);
  valid = (at.reads.0, omega (arith, few, at.size_is, length-drop start text));
  composed = at.reads.1;
  data_is = take_all (length text - start) (drop start text) (omega (arith, length-drop start text));
  ordered = line_fits text start size line at;
  fits = omega arith;
}

pub data_at : (text : List ℕ) (start size : ℕ) (line : ChunkLine) → IsChunkLineAt text start size line → size ≢ 0
    → size ≤ length text - start → HoldsData text (record { start = start; end = start + size })
data_at text start size line at other enough = record {
  line = line;
  size = size;
  at = at;
  some = omega (arith, other);
  end_is = refl;
  fits = omega (arith, enough, line_fits text start size line at);
}

-- ---- a size line and its data

pub data_first : (text : List ℕ) (d : Span) (holds : HoldsData text d)
    → DataFirst text holds.line (span_bytes text d) (drop d.end text)
data_first text d holds =
    let ordered : d.start ≤ d.end = omega (arith, holds.end_is) in
    record {
      first = record {
        is = holds.at.reads.0;
        composed = holds.at.reads.1 ∙ ap (λ r. print_chunk_line holds.line ++ r) (drop_split text d.start d.end ordered);
      };
      some = omega (arith, holds.some, holds.at.size_is);
      size = omega (
        arith,
        length-slice_range text d.start d.end ordered holds.fits,
        holds.end_is,
        holds.at.size_is,
      );
    }

-- the chunk that the line and the data make
chunk_of : (text : List ℕ) (d : Span) (holds : HoldsData text d)
    → IsChunk (record { line = holds.line; data_bytes = span_bytes text d })
chunk_of text d holds =
    let at = data_first text d holds in record { line = at.first.is; some = at.some; size = at.size }

pub chunk_at : (text : List ℕ) (d : Span) (rest : List ℕ) → HoldsData text d → drop d.end text ≡ crlf_bytes ++ rest → HoldsChunk text d
chunk_at text d rest holds e =
    let behind : drop (d.end + 2) text ≡ rest = sym (drop-drop 2 d.end text) ∙ ap (drop 2) e in
    let at = data_first text d holds in
    record {
      chunk = record { line = holds.line; data_bytes = span_bytes text d };
      valid = chunk_of text d holds;
      composed =
          at.first.composed ∙ ap (λ r. print_chunk_line holds.line ++ (span_bytes text d ++ r)) e
          ∙ sym (regrouped (print_chunk_line holds.line) (span_bytes text d) crlf_bytes rest)
          ∙ ap (λ r. print_chunk_line holds.line ++ span_bytes text d ++ crlf_bytes ++ r) (sym behind);
      data_is = refl;
      ordered = omega (arith, holds.end_is);
      fits = omega (arith, ap length e, length-drop d.end text, holds.fits);
    }
  where
    regrouped : (a b c d : List ℕ) → a ++ b ++ c ++ d ≡ a ++ (b ++ (c ++ d))
    regrouped a b c d = simp append_assoc

pub cut_in_line_end : (text : List ℕ) (d : Span) → HoldsData text d → IsBegunLineEnd (drop d.end text) → HoldsCut text d
cut_in_line_end text d holds begun =
    let at = data_first text d holds in
    record {
      begun = InLineEnd holds.line (span_bytes text d) (drop d.end text);
      valid = (chunk_of text d holds, begun);
      composed = at.first.composed ∙ sym (append_assoc (print_chunk_line holds.line) (span_bytes text d) (drop d.end text));
      data_is = refl;
      ordered = omega (arith, holds.end_is);
      fits = holds.fits;
    }

pub nothing_behind_data : (text : List ℕ) (d : Span) → HoldsData text d → IsLineEndSeen (drop d.end text) Wrong → HasNoBody text × HasNoCut text
nothing_behind_data text d holds wrong =
    let at = data_first text d holds in (
      no_body_at_data text holds.line (span_bytes text d) (drop d.end text) at (λ rest e has. wrong.0 rest e),
      no_cut_at_data text holds.line (span_bytes text d) (drop d.end text) at (λ rest e has. wrong.0 rest e) wrong.1,
    )

-- ---- a chunk

pub chunk_data_first : (text : List ℕ) (d : Span) (holds : HoldsChunk text d)
    → DataFirst text holds.chunk.line holds.chunk.data_bytes (crlf_bytes ++ drop (d.end + 2) text)
chunk_data_first text d holds = record {
  first = record {
    is = holds.valid.line;
    composed = holds.composed ∙ regrouped (print_chunk_line holds.chunk.line) holds.chunk.data_bytes crlf_bytes (drop (d.end + 2) text);
  };
  some = holds.valid.some;
  size = holds.valid.size;
}
  where
    regrouped : (a b c d : List ℕ) → a ++ b ++ c ++ d ≡ a ++ (b ++ (c ++ d))
    regrouped a b c d = simp append_assoc

pub not_begun : (rest : List ℕ) → IsBegunLineEnd (crlf_bytes ++ rest) → ⊥
not_begun rest (inl none) = cc
not_begun rest (inr cr) = cc

-- a text whose rest behind a chunk is no body is none
pub no_body_behind : (text : List ℕ) (d : Span) → HoldsChunk text d → HasNoBody (drop (d.end + 2) text) → HasNoBody text
no_body_behind text d holds none =
    no_body_at_data text holds.chunk.line holds.chunk.data_bytes _ (chunk_data_first text d holds)
    (λ rest e has. none.none has.body has.valid (append_cancel_left crlf_bytes (drop (d.end + 2) text) rest e ∙ has.composed))

pub no_cut_behind : (text : List ℕ) (d : Span) → HoldsChunk text d → HasNoCut (drop (d.end + 2) text) → HasNoCut text
no_cut_behind text d holds none =
    no_cut_at_data text holds.chunk.line holds.chunk.data_bytes _ (chunk_data_first text d holds)
    (λ rest e has. none.none has.cut has.valid (append_cancel_left crlf_bytes (drop (d.end + 2) text) rest e ∙ has.composed))
    (not_begun (drop (d.end + 2) text))
