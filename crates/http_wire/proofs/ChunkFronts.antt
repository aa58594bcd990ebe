-- At each front of a chunked body within the limits, whole or cut, the byte behind it shows no fault.
use Rattle.std.proofs.Common.{◌≡◌, ◌≢◌, ℕ, ◌+◌, ◌<◌, ◌≤◌, List, [], ◌∷◌, ◌++◌, length, Option, Some, None, inl, inr, refl, sym, ap, subst, ◌∙◌, arith, append_assoc, append-nil, length-append}
use Rattle.std.specs.Prelude.{All}
use Rattle.std.specs.List.{flat_map}
use Rattle.std.proofs.lemmas.List.Elements.{All-nil, All-cons, All-head, All-tail}
use Rattle.httparse.specs.Ascii.{carriage_return, line_feed, crlf_bytes}
use Rattle.httparse.specs.Grammar.{ChunkLine, chunk_size, print_chunk_line, IsChunkLine, ReadsChunkLine, Field, LineEnd, ReadsSection}
use Rattle.httparse.proofs.ChunkLemmas.{chunk_line_unique}
use Rattle.capture.specs.Body.{IsShortLine, HasShortLines, announced_begun, IsShortBegun}
use Rattle.capture.specs.Chunks.{Chunk, IsChunk, print_chunk, Begun, InLine, InData, InLineEnd, InTrailer, IsBegun, IsBegunLineEnd, print_begun}
use Rattle.capture.specs.FirstChunks.{EndsTrailer, IsTrailerTooLong, IsWrongByte, EndsLine}
use Rattle.capture.specs.Head.{section_len, trailer_lines}
use Rattle.capture.specs.declared.limits.TheConstants.{FIELD_LIMIT, HEAD_LIMIT, SIZE_LINE_LIMIT}
use Rattle.http_wire.proofs.LineFronts.{Split, split, heads_of, HasNoLf, no_lf, lf_of_no_lf, LineFront, line_front, no_line_without_lf, nothing_left}
use Rattle.http_wire.proofs.SectionFronts.{section_fits, section_stays}

-- what stands in front of the byte is whole chunks and what is begun behind them, and the byte can stand there; a size line
-- that it ends announces no more than the bound
pub record Goes (front : List ℕ) (byte bound : ℕ) : Type 0 where
  pub chunks : List Chunk
  pub begun : Begun
  pub each : All IsChunk chunks
  pub is : IsBegun begun
  pub composed : front ≡ flat_map print_chunk chunks ++ print_begun begun
  pub not_long : IsTrailerTooLong begun byte → ⊥
  pub not_wrong : IsWrongByte begun byte → ⊥
  pub announces : (line : ChunkLine) → EndsLine begun byte line → length front + 1 + chunk_size line ≤ bound

-- each byte of the text can stand where it does
abbrev pub AllGo : List ℕ → ℕ → Type 0
AllGo text bound = (front : List ℕ) (byte : ℕ) (behind : List ℕ) → text ≡ front ++ byte ∷ behind → Goes front byte bound

pub goes_within : (front : List ℕ) (byte bound more : ℕ) → bound ≤ more → Goes front byte bound → Goes front byte more
goes_within front byte bound more fits goes = record {
  chunks = goes.chunks;
  begun = goes.begun;
  each = goes.each;
  is = goes.is;
  composed = goes.composed;
  not_long = goes.not_long;
  not_wrong = goes.not_wrong;
  announces = λ line ends. omega (arith, goes.announces line ends, fits);
}

-- a begun part alone
alone : (front : List ℕ) (byte bound : ℕ) (begun : Begun) → front ≡ print_begun begun → IsBegun begun → (IsTrailerTooLong begun byte → ⊥)
    → (IsWrongByte begun byte → ⊥) → ((line : ChunkLine) → EndsLine begun byte line → length front + 1 + chunk_size line ≤ bound)
    → Goes front byte bound
alone front byte bound begun composed is not_long not_wrong announces = record {
  chunks = [];
  begun = begun;
  each = All-nil IsChunk;
  is = is;
  composed = composed;
  not_long = not_long;
  not_wrong = not_wrong;
  announces = announces;
}

-- ---- size lines

data_is_no_line : (line : ChunkLine) (come other : List ℕ) → InData line come ≡ InLine other → ⊥
data_is_no_line line come other e = cc

end_is_no_line : (line : ChunkLine) (data_bytes come other : List ℕ) → InLineEnd line data_bytes come ≡ InLine other → ⊥
end_is_no_line line data_bytes come other e = cc

trailer_is_no_line : (line : ChunkLine) (come other : List ℕ) → InTrailer line come ≡ InLine other → ⊥
trailer_is_no_line line come other e = cc

same_come : (come other : List ℕ) → InLine come ≡ InLine other → come ≡ other
same_come come other e = cc

-- what came of a line without LF, at a byte that is none
in_garbage : (front : List ℕ) (byte : ℕ) (bound : ℕ) → HasNoLf front → byte ≢ line_feed → length front < SIZE_LINE_LIMIT → Goes front byte bound
in_garbage front byte bound none plain short =
    alone front byte bound (InLine front) refl none (λ long. long) wrong
    (λ line ends. absurd (no_line front byte none plain line ends))
  where
    wrong : IsWrongByte (InLine front) byte → ⊥
    wrong (inl full) = absurd (omega (arith, full, short))
    wrong (inr lf) = plain lf.0

    no_line : (front : List ℕ) (byte : ℕ) → HasNoLf front → byte ≢ line_feed → (line : ChunkLine) → EndsLine (InLine front) byte line → ⊥
    no_line front byte none plain line ends =
        let come = same_come front ends.come ends.in_line in
        let reads : ReadsChunkLine (front ++ byte ∷ []) line [] = subst (λ c. ReadsChunkLine (c ++ byte ∷ []) line []) (sym come) ends.reads in
        no_line_without_lf (front ++ byte ∷ []) line [] (lf_of_no_lf front byte none plain) reads

-- behind a whole line but its LF
at_its_end : (line : ChunkLine) (front : List ℕ) → IsChunkLine line → IsShortLine line → HasNoLf front
    → print_chunk_line line ≡ front ++ line_feed ∷ [] → Goes front line_feed (length (print_chunk_line line) + chunk_size line)
at_its_end line front is short none text =
    alone front line_feed (length (print_chunk_line line) + chunk_size line) (InLine front) refl none (λ long. long) wrong announces
  where
    long : length front + 1 ≡ length (print_chunk_line line)
    long = omega (arith, ap length text, length-append front (line_feed ∷ []))

    reads : ReadsChunkLine (front ++ line_feed ∷ []) line []
    reads = (is, sym text ∙ sym (append-nil (print_chunk_line line)))

    wrong : IsWrongByte (InLine front) line_feed → ⊥
    wrong (inl full) = absurd (omega (arith, full, long, short))
    wrong (inr lf) = lf.1 line reads

    announces : (other : ChunkLine) → EndsLine (InLine front) line_feed other
        → length front + 1 + chunk_size other ≤ length (print_chunk_line line) + chunk_size line
    announces other ends =
        let come = same_come front ends.come ends.in_line in
        let other_reads : ReadsChunkLine (front ++ line_feed ∷ []) other [] =
        subst (λ c. ReadsChunkLine (c ++ line_feed ∷ []) other []) (sym come) ends.reads in
        let same = chunk_line_unique (front ++ line_feed ∷ []) other line [] [] other_reads reads in
        omega (arith, long, ap chunk_size same.0)

in_line : (line : ChunkLine) → IsChunkLine line → IsShortLine line → AllGo (print_chunk_line line) (length (print_chunk_line line) + chunk_size line)
in_line line is short front byte behind text = by_place (line_front line front byte behind is text)
  where
    by_place : LineFront line front byte behind → Goes front byte (length (print_chunk_line line) + chunk_size line)
    by_place (inl before) =
        in_garbage front byte (length (print_chunk_line line) + chunk_size line) before.0 before.1
        (omega (arith, ap length text, length-append front (byte ∷ behind), short))
    by_place (inr last) =
        subst (λ b. Goes front b (length (print_chunk_line line) + chunk_size line)) (sym last.1)
        (at_its_end line front is short last.0 (text ∙ ap (λ b. front ++ b ∷ behind) last.1 ∙ ap (λ r. front ++ line_feed ∷ r) last.2))

-- ---- data and the line end behind it

in_data : (line : ChunkLine) (come : List ℕ) (byte bound : ℕ) → IsChunkLine line → length come < chunk_size line
    → Goes (print_chunk_line line ++ come) byte bound
in_data line come byte bound is few =
    alone (print_chunk_line line ++ come) byte bound (InData line come) refl (is, few) (λ long. long) (λ wrong. wrong)
    (λ other ends. absurd (data_is_no_line line come ends.come ends.in_line))

-- what may stand behind the data, as far as it came
abbrev EndsData : ChunkLine → List ℕ → List ℕ → Type 0
EndsData line data_bytes end =
    (come : List ℕ) (byte : ℕ) (behind : List ℕ) → end ≡ come ++ byte ∷ behind
    → IsBegunLineEnd come × (IsWrongByte (InLineEnd line data_bytes come) byte → ⊥)

cr_is_no_none : carriage_return ∷ [] ≡ [] → ⊥
cr_is_no_none e = cc

at_cr : (line : ChunkLine) (data_bytes come : List ℕ) (byte : ℕ) → come ≡ [] → byte ≡ carriage_return
    → IsBegunLineEnd come × (IsWrongByte (InLineEnd line data_bytes come) byte → ⊥)
at_cr line data_bytes come byte none is = (inl none, wrong)
  where
    wrong : IsWrongByte (InLineEnd line data_bytes come) byte → ⊥
    wrong (inl other) = other.1 is
    wrong (inr other) = cr_is_no_none (sym other.0 ∙ none)

at_lf : (line : ChunkLine) (data_bytes come : List ℕ) (byte : ℕ) → come ≡ carriage_return ∷ [] → byte ≡ line_feed
    → IsBegunLineEnd come × (IsWrongByte (InLineEnd line data_bytes come) byte → ⊥)
at_lf line data_bytes come byte cr is = (inr cr, wrong)
  where
    wrong : IsWrongByte (InLineEnd line data_bytes come) byte → ⊥
    wrong (inl other) = cr_is_no_none (sym cr ∙ other.0)
    wrong (inr other) = other.1 is

cr_ends : (line : ChunkLine) (data_bytes : List ℕ) → EndsData line data_bytes (carriage_return ∷ [])
cr_ends line data_bytes [] byte behind e = at_cr line data_bytes [] byte refl (sym (heads_of carriage_return byte [] behind e).0)
cr_ends line data_bytes (b ∷ come) byte behind e =
    absurd (nothing_left come byte behind (heads_of carriage_return b [] (come ++ byte ∷ behind) e).1)

crlf_ends : (line : ChunkLine) (data_bytes : List ℕ) → EndsData line data_bytes crlf_bytes
crlf_ends line data_bytes [] byte behind e = at_cr line data_bytes [] byte refl (sym (heads_of carriage_return byte (line_feed ∷ []) behind e).0)
crlf_ends line data_bytes (b ∷ []) byte behind e =
    let both = heads_of carriage_return b (line_feed ∷ []) (byte ∷ behind) e in
    at_lf line data_bytes (b ∷ []) byte (ap (λ c. c ∷ []) (sym both.0)) (sym (heads_of line_feed byte [] behind both.1).0)
crlf_ends line data_bytes (b ∷ c ∷ come) byte behind e =
    let both = heads_of carriage_return b (line_feed ∷ []) (c ∷ (come ++ byte ∷ behind)) e in
    absurd (nothing_left come byte behind (heads_of line_feed c [] (come ++ byte ∷ behind) both.1).1)

-- a line, its data, and what came of the line end
in_chunk_text : (line : ChunkLine) (data_bytes end : List ℕ) (bound : ℕ) → IsChunkLine line → IsShortLine line
    → IsChunk (record { line = line; data_bytes = data_bytes }) → EndsData line data_bytes end
    → length (print_chunk_line line) + chunk_size line ≤ bound → AllGo (print_chunk_line line ++ data_bytes ++ end) bound
in_chunk_text line data_bytes end bound is short chunk ends fits front byte behind text =
    by_line (split (print_chunk_line line) (data_bytes ++ end) front byte behind (sym (append_assoc (print_chunk_line line) data_bytes end) ∙ text))
  where
    by_data : (come : List ℕ) → front ≡ print_chunk_line line ++ come → Split data_bytes end come byte behind → Goes front byte bound
    by_data come is_front (inl past) =
        let at = ends past.0 byte behind past.2 in
        alone front byte bound (InLineEnd line data_bytes past.0)
        (is_front ∙ ap (λ c. print_chunk_line line ++ c) past.1 ∙ sym (append_assoc (print_chunk_line line) data_bytes past.0))
        (chunk, at.0) (λ long. long) at.1 (λ other line_ends. absurd (end_is_no_line line data_bytes past.0 line_ends.come line_ends.in_line))
    by_data come is_front (inr inside) =
        subst (λ f. Goes f byte bound) (sym is_front)
        (in_data line come byte bound is (omega (arith, ap length inside.1, length-append come (byte ∷ inside.0), chunk.size)))

    by_line : Split (print_chunk_line line) (data_bytes ++ end) front byte behind → Goes front byte bound
    by_line (inl past) = by_data past.0 past.1 (split data_bytes end past.0 byte behind past.2)
    by_line (inr inside) =
        goes_within front byte (length (print_chunk_line line) + chunk_size line) bound fits (in_line line is short front byte inside.0 inside.1)

-- ---- the trailer section

-- a trailer section within the limits, or what came of one: where it ends, it is whole
pub record IsTrailerText (text : List ℕ) : Type 0 where
  pub short : length text ≤ HEAD_LIMIT
  pub ends : (n : ℕ) → section_len text ≡ Some n → n ≡ length text
  pub lines : (n : ℕ) → section_len text ≡ Some n → trailer_lines text ≤ FIELD_LIMIT
  pub reads : (n : ℕ) → section_len text ≡ Some n → (fields : List Field) × (end : LineEnd) × ReadsSection text fields end []

none_of : (found : Option ℕ) → ((n : ℕ) → found ≡ Some n → ⊥) → found ≡ None
none_of None never = refl
none_of (Some n) never = absurd (never n refl)

-- a front of it that ends is all of it
whole_at : (text front : List ℕ) (byte : ℕ) (behind : List ℕ) → IsTrailerText text → text ≡ front ++ byte ∷ behind
    → EndsTrailer (front ++ byte ∷ []) → text ≡ front ++ byte ∷ []
whole_at text front byte behind trailer is ended =
    let regrouped : text ≡ (front ++ byte ∷ []) ++ behind = is ∙ sym (append_assoc front (byte ∷ []) behind) in
    let found : section_len text ≡ Some (length (front ++ byte ∷ [])) =
    ap section_len regrouped ∙ section_stays (front ++ byte ∷ []) behind (length (front ++ byte ∷ [])) ended in
    let all = trailer.ends (length (front ++ byte ∷ [])) found in
    let none : behind ≡ [] = without_length behind (omega (arith, all, ap length regrouped, length-append (front ++ byte ∷ []) behind)) in
    regrouped ∙ ap (λ r. (front ++ byte ∷ []) ++ r) none ∙ append-nil (front ++ byte ∷ [])
  where
    without_length : (s : List ℕ) → length s ≡ 0 → s ≡ []
    without_length [] e = refl
    without_length (b ∷ s) e = absurd (omega (arith, e))

begun_trailer : (text front : List ℕ) (byte : ℕ) (behind : List ℕ) → IsTrailerText text → text ≡ front ++ byte ∷ behind
    → section_len front ≡ None
begun_trailer text front byte behind trailer is =
    none_of (section_len front) (λ n found.
    let stays : section_len text ≡ Some n = ap section_len is ∙ section_stays front (byte ∷ behind) n found in
    let all = trailer.ends n stays in
    absurd (omega (arith, all, section_fits front n found, ap length is, length-append front (byte ∷ behind))))

pub in_trailer : (line : ChunkLine) (text : List ℕ) (bound : ℕ) → IsChunkLine line → IsShortLine line → chunk_size line ≡ 0 → IsTrailerText text
    → length (print_chunk_line line) ≤ bound → AllGo (print_chunk_line line ++ text) bound
in_trailer line text bound is short zero trailer fits front byte behind composed =
    by_line (split (print_chunk_line line) text front byte behind composed)
  where
    wrong : (come : List ℕ) → text ≡ come ++ byte ∷ behind → IsWrongByte (InTrailer line come) byte → ⊥
    wrong come at wrongs =
        let whole = whole_at text come byte behind trailer at wrongs.0 in
        let reads = trailer.reads (length (come ++ byte ∷ [])) (ap section_len whole ∙ wrongs.0) in
        wrongs.1 reads.0 reads.1 (subst (λ t. ReadsSection t reads.0 reads.1 []) whole reads.2)

    long : (come : List ℕ) → text ≡ come ++ byte ∷ behind → IsTrailerTooLong (InTrailer line come) byte → ⊥
    long come at (inl passes) =
        absurd (omega (arith, passes, trailer.short, ap length at, length-append come (byte ∷ behind), length-append come (byte ∷ [])))
    long come at (inr ended) =
        let whole = whole_at text come byte behind trailer at ended.0 in
        let lines = trailer.lines (length (come ++ byte ∷ [])) (ap section_len whole ∙ ended.0) in
        absurd (omega (arith, ended.1, lines, ap trailer_lines whole))

    by_line : Split (print_chunk_line line) text front byte behind → Goes front byte bound
    by_line (inl past) =
        alone front byte bound (InTrailer line past.0) past.1 (is, zero, begun_trailer text past.0 byte behind trailer past.2)
        (long past.0 past.2) (wrong past.0 past.2) (λ other ends. absurd (trailer_is_no_line line past.0 ends.come ends.in_line))
    by_line (inr inside) =
        goes_within front byte (length (print_chunk_line line) + chunk_size line) bound (omega (arith, fits, zero))
        (in_line line is short front byte inside.0 inside.1)

-- ---- whole chunks

in_chunk : (c : Chunk) → IsChunk c → IsShortLine c.line → AllGo (print_chunk c) (length (print_chunk c))
in_chunk c is short =
    in_chunk_text c.line c.data_bytes crlf_bytes (length (print_chunk c)) is.line short is (crlf_ends c.line c.data_bytes)
    (omega (
      arith,
      is.size,
      length-append (print_chunk_line c.line ++ c.data_bytes) crlf_bytes,
      length-append (print_chunk_line c.line) c.data_bytes,
    ))

behind_chunk : (c : Chunk) (front come : List ℕ) (byte bound : ℕ) → IsChunk c → front ≡ print_chunk c ++ come → Goes come byte bound
    → Goes front byte (length (print_chunk c) + bound)
behind_chunk c front come byte bound is at goes = record {
  chunks = c ∷ goes.chunks;
  begun = goes.begun;
  each = All-cons IsChunk c goes.chunks is goes.each;
  is = goes.is;
  composed = at ∙ ap (λ t. print_chunk c ++ t) goes.composed
      ∙ sym (append_assoc (print_chunk c) (flat_map print_chunk goes.chunks) (print_begun goes.begun));
  not_long = goes.not_long;
  not_wrong = goes.not_wrong;
  announces = λ line ends. omega (arith, goes.announces line ends, ap length at, length-append (print_chunk c) come);
}

pub chunks_go : (chunks : List Chunk) (tail : List ℕ) (bound : ℕ) → All IsChunk chunks → HasShortLines chunks → AllGo tail bound
    → AllGo (flat_map print_chunk chunks ++ tail) (length (flat_map print_chunk chunks) + bound)
chunks_go [] tail bound each short tail_goes front byte behind text =
    goes_within front byte bound (0 + bound) (omega arith) (tail_goes front byte behind text)
chunks_go (c ∷ chunks) tail bound each short tail_goes front byte behind text =
    by_chunk
    (chunks_go chunks tail bound (All-tail IsChunk c chunks each) (All-tail (λ (d : Chunk). IsShortLine d.line) c chunks short) tail_goes)
    (split (print_chunk c) (flat_map print_chunk chunks ++ tail) front byte behind
    (sym (append_assoc (print_chunk c) (flat_map print_chunk chunks) tail) ∙ text))
  where
    is : IsChunk c
    is = All-head IsChunk c chunks each

    long : length (print_chunk c ++ flat_map print_chunk chunks) ≡ length (print_chunk c) + length (flat_map print_chunk chunks)
    long = length-append (print_chunk c) (flat_map print_chunk chunks)

    by_chunk : AllGo (flat_map print_chunk chunks ++ tail) (length (flat_map print_chunk chunks) + bound)
        → Split (print_chunk c) (flat_map print_chunk chunks ++ tail) front byte behind
        → Goes front byte (length (print_chunk c ++ flat_map print_chunk chunks) + bound)
    by_chunk others (inl past) =
        goes_within front byte (length (print_chunk c) + (length (flat_map print_chunk chunks) + bound)) (length (print_chunk c ++ flat_map print_chunk chunks) + bound)
        (omega (arith, long))
        (behind_chunk c front past.0 byte (length (flat_map print_chunk chunks) + bound) is past.1
        (others past.0 byte behind past.2))
    by_chunk others (inr inside) =
        goes_within front byte (length (print_chunk c)) (length (print_chunk c ++ flat_map print_chunk chunks) + bound) (omega (arith, long))
        (in_chunk c is (All-head (λ (d : Chunk). IsShortLine d.line) c chunks short) front byte inside.0 inside.1)

-- ---- what is begun

pub begun_goes : (begun : Begun) → IsBegun begun → IsShortBegun begun → AllGo (print_begun begun) (announced_begun begun)
begun_goes (InLine come) is short front byte behind text =
    let parts = no_lf front byte behind (subst HasNoLf text is) in
    in_garbage front byte (length come) parts.0 parts.1 (omega (arith, short, ap length text, length-append front (byte ∷ behind)))
begun_goes (InData line come) is short front byte behind text = by_line (split (print_chunk_line line) come front byte behind text)
  where
    by_line : Split (print_chunk_line line) come front byte behind → Goes front byte (length (print_chunk_line line) + chunk_size line)
    by_line (inl past) =
        subst (λ f. Goes f byte (length (print_chunk_line line) + chunk_size line)) (sym past.1)
        (in_data line past.0 byte (length (print_chunk_line line) + chunk_size line) is.0
        (omega (arith, is.1, ap length past.2, length-append past.0 (byte ∷ behind))))
    by_line (inr inside) = in_line line is.0 short front byte inside.0 inside.1
begun_goes (InLineEnd line data_bytes come) is short front byte behind text =
    in_chunk_text line data_bytes come (length (print_begun (InLineEnd line data_bytes come))) is.0.line short is.0 (ends is.1)
    (omega (
      arith,
      is.0.size,
      length-append (print_chunk_line line ++ data_bytes) come,
      length-append (print_chunk_line line) data_bytes,
    )) front byte behind text
  where
    ends : IsBegunLineEnd come → EndsData line data_bytes come
    ends (inl none) = λ c other others e. absurd (nothing_left c other others (sym none ∙ e))
    ends (inr cr) = λ c other others e. cr_ends line data_bytes c other others (sym cr ∙ e)
begun_goes (InTrailer line come) is short front byte behind text =
    in_trailer line come (length (print_begun (InTrailer line come))) is.0 short.0 is.1 (never_ends come is.2 short.1)
    (omega (arith, length-append (print_chunk_line line) come)) front byte behind text
  where
    no_end : (n : ℕ) (found : Option ℕ) → found ≡ None → found ≡ Some n → ⊥
    no_end n found none some = let e : None ≡ Some n = sym none ∙ some in cc

    never_ends : (text : List ℕ) → section_len text ≡ None → length text ≤ HEAD_LIMIT → IsTrailerText text
    never_ends text none fits = record {
      short = fits;
      ends = λ n some. absurd (no_end n (section_len text) none some);
      lines = λ n some. absurd (no_end n (section_len text) none some);
      reads = λ n some. absurd (no_end n (section_len text) none some);
    }
