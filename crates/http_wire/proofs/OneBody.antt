-- A stream behind a head has one body, one fault, or goes on.
use Rattle.std.proofs.Common.{◌≡◌, ℕ, ◌+◌, ◌<◌, ◌≤◌, Bool, true, false, List, [], ◌∷◌, ◌++◌, length, Some, inl, inr, refl, sym, ap, subst, ◌∙◌, arith, append_assoc, append-nil, length-append}
use Rattle.std.specs.List.{flat_map}
use Rattle.httparse.specs.Grammar.{print_chunk_line, print_section}
use Rattle.capture.specs.Body.{IsCutWire, IsWithinLimits, announced, announced_begun}
use Rattle.capture.specs.BodyLaws.{CutBodiesSplitOneWay, NoBodyIsWholeAndCut, WholeBodiesSplitOneWay}
use Rattle.capture.specs.Chunks.{ChunkedBody, print_chunk, print_chunked, CutBody, IsCutBody, print_begun, print_cut}
use Rattle.capture.specs.First.{HoldsBody, RefusesBody, BeginsBody}
use Rattle.capture.specs.FirstChunks.{HoldsChunked, RefusesChunked, IsTrailerTooLong, IsWrongByte, IsOverLimit, IsChunkedFault, EndsLine}
use Rattle.capture.specs.Head.{section_len}
use Rattle.capture.specs.HeadLaws.{SectionsEnd}
use Rattle.capture.specs.declared.framing.Framing.{Framing}
use Rattle.capture.specs.declared.framing.Framing.TheVariants.{Empty, Length, Chunked, ToEnd}
use Rattle.capture.specs.declared.framing.MessageFault.{MessageFault}
use Rattle.capture.specs.declared.framing.MessageFault.TheVariants.{Malformed, HeadTooLong, BodyTooLong, CodingRefused}
use Rattle.capture.specs.declared.limits.TheConstants.{BODY_LIMIT}
use Rattle.http_wire.proofs.ChunkFronts.{Goes, IsTrailerText, begun_goes, chunks_go, goes_within, in_trailer}
use Rattle.http_wire.proofs.FrontParts.{begun_is_short}
use Rattle.http_wire.proofs.LineFronts.{Split, heads_of, split}

-- chunked bodies split in one way, whole or cut, and sections end where they do
pub record Laws : Type 0 where
  pub whole : WholeBodiesSplitOneWay
  pub cut : CutBodiesSplitOneWay
  pub apart : NoBodyIsWholeAndCut
  pub sections : SectionsEnd

-- ---- no front shows a fault

-- the byte behind a front at which it can stand shows none
no_fault : Laws → (c : CutBody) (byte bound : ℕ) (fault : MessageFault) → IsCutBody c → Goes (print_cut c) byte bound → bound ≤ BODY_LIMIT
    → length (print_cut c) < bound → IsChunkedFault c byte fault → ⊥
no_fault laws c byte bound fault valid goes fits inside due = by_fault fault due
  where
    same : goes.begun ≡ c.begun
    same = ap (λ (d : CutBody). d.begun) (laws.cut (record { chunks = goes.chunks; begun = goes.begun }) c
        (record { chunks = goes.each; begun = goes.is }) valid (sym goes.composed))

    over : IsOverLimit c byte → ⊥
    over (inl full) = absurd (omega (arith, full, fits, inside))
    over (inr line) =
        let ends : EndsLine goes.begun byte line.0 = subst (λ b. EndsLine b byte line.0) (sym same) line.1 in
        absurd (omega (arith, goes.announces line.0 ends, line.2, fits))

    long : IsTrailerTooLong c.begun byte → ⊥
    long passes = goes.not_long (subst (λ b. IsTrailerTooLong b byte) (sym same) passes)

    wrong : IsWrongByte c.begun byte → ⊥
    wrong is = goes.not_wrong (subst (λ b. IsWrongByte b byte) (sym same) is)

    by_fault : (f : MessageFault) → IsChunkedFault c byte f → ⊥
    by_fault HeadTooLong is = long is
    by_fault BodyTooLong is = over is.1
    by_fault Malformed is = wrong is.2
    by_fault CodingRefused is = is

-- ---- whole chunked bodies

trailer_of_whole : Laws → (stream : List ℕ) (used : ℕ) (holds : HoldsChunked stream used)
    → IsTrailerText (print_section holds.body.trailer holds.body.end)
trailer_of_whole laws stream used holds = record {
  short = holds.trailer.length_is;
  ends = λ n found.
      let e : Some (length section) ≡ Some n = sym at_end ∙ found in
      let same : length section ≡ n = cc in
      sym same;
  lines = λ n found. holds.trailer.lines;
  reads = λ n found. (holds.body.trailer, holds.body.end, (holds.valid.trailer, sym (append-nil section)));
}
  where
    section : List ℕ
    section = print_section holds.body.trailer holds.body.end

    at_end : section_len section ≡ Some (length section)
    at_end = ap section_len (sym (append-nil section)) ∙ laws.sections holds.body.trailer holds.body.end [] holds.valid.trailer

whole_goes : Laws → (stream : List ℕ) (used : ℕ) (holds : HoldsChunked stream used) (front : List ℕ) (byte : ℕ) (behind : List ℕ)
    → print_chunked holds.body ≡ front ++ byte ∷ behind → Goes front byte (length (print_chunked holds.body))
whole_goes laws stream used holds front byte behind text =
    let b = holds.body in
    let chunks : List ℕ = flat_map print_chunk b.chunks in
    let tail : List ℕ = print_chunk_line b.last ++ print_section b.trailer b.end in
    let regrouped : print_chunked b ≡ chunks ++ tail = append_assoc chunks (print_chunk_line b.last) (print_section b.trailer b.end) in
    let fits : length chunks + length tail ≤ length (print_chunked b) = omega (arith, ap length regrouped, length-append chunks tail) in
    let tail_goes = in_trailer b.last (print_section b.trailer b.end) (length tail) holds.valid.last holds.last holds.valid.zero
    (trailer_of_whole laws stream used holds) (omega (arith, length-append (print_chunk_line b.last) (print_section b.trailer b.end))) in
    goes_within front byte (length chunks + length tail) (length (print_chunked b)) fits
    (chunks_go b.chunks tail (length tail) holds.valid.chunks holds.lines tail_goes front byte behind (sym regrouped ∙ text))

cut_goes : (c : CutBody) → IsCutBody c → IsWithinLimits c → (front : List ℕ) (byte : ℕ) (behind : List ℕ) → print_cut c ≡ front ++ byte ∷ behind
    → Goes front byte (announced c)
cut_goes c valid within front byte behind text =
    chunks_go c.chunks (print_begun c.begun) (announced_begun c.begun) valid.chunks within.lines (begun_goes c.begun valid.begun within.begun)
    front byte behind text

come_is_announced : (c : CutBody) → IsCutBody c → length (print_cut c) ≤ announced c
come_is_announced c valid =
    omega (arith, length-append (flat_map print_chunk c.chunks) (print_begun c.begun), begun_is_short c.begun valid.begun)

-- ---- a chunked stream

one_used : Laws → (stream : List ℕ) (used other : ℕ) → HoldsChunked stream used → HoldsChunked stream other → used ≡ other
one_used laws stream used other first second =
    let same = laws.whole first.body second.body first.rest second.rest first.valid second.valid (sym first.composed ∙ second.composed) in
    first.used_is ∙ ap (λ (b : ChunkedBody). length (print_chunked b)) same.0 ∙ sym second.used_is

pub whole_or_cut : NoBodyIsWholeAndCut → (stream : List ℕ) (used : ℕ) → HoldsChunked stream used → IsCutWire Chunked stream → ⊥
whole_or_cut apart stream used holds cut =
    apart holds.body holds.rest cut.0 holds.valid cut.1 (sym holds.composed ∙ cut.3)

whole_or_refused : Laws → (stream : List ℕ) (used : ℕ) (fault : MessageFault) → HoldsChunked stream used → RefusesChunked stream fault → ⊥
whole_or_refused laws stream used fault holds refuses =
    by_place (split (print_chunked holds.body) holds.rest (print_cut refuses.cut) refuses.byte refuses.rest (sym holds.composed ∙ refuses.composed))
  where
    by_place : Split (print_chunked holds.body) holds.rest (print_cut refuses.cut) refuses.byte refuses.rest → ⊥
    by_place (inl past) = laws.apart holds.body past.0 refuses.cut holds.valid refuses.valid (sym past.1)
    by_place (inr inside) =
        no_fault laws refuses.cut refuses.byte (length (print_chunked holds.body)) fault refuses.valid
        (whole_goes laws stream used holds (print_cut refuses.cut) refuses.byte inside.0 inside.1) (omega (arith, holds.fits, holds.used_is))
        (omega (arith, ap length inside.1, length-append (print_cut refuses.cut) (refuses.byte ∷ inside.0))) refuses.due

-- a body within the limits that goes on behind a front shows no fault there
further_or_refused : Laws → (c d : CutBody) (byte : ℕ) (behind : List ℕ) (fault : MessageFault) → IsCutBody c → IsCutBody d → IsWithinLimits d
    → print_cut d ≡ print_cut c ++ byte ∷ behind → IsChunkedFault c byte fault → ⊥
further_or_refused laws c d byte behind fault valid other within text due =
    no_fault laws c byte (announced d) fault valid (cut_goes d other within (print_cut c) byte behind text) within.fits
    (omega (arith, ap length text, length-append (print_cut c) (byte ∷ behind), come_is_announced d other)) due

cut_or_refused : Laws → (stream : List ℕ) (fault : MessageFault) → IsCutWire Chunked stream → RefusesChunked stream fault → ⊥
cut_or_refused laws stream fault cut refuses =
    further_or_refused laws refuses.cut cut.0 refuses.byte refuses.rest fault refuses.valid cut.1 cut.2 (sym cut.3 ∙ refuses.composed) refuses.due

one_due : (c : CutBody) (byte : ℕ) (fault other : MessageFault) → IsChunkedFault c byte fault → IsChunkedFault c byte other → fault ≡ other
one_due c byte HeadTooLong HeadTooLong first second = refl
one_due c byte HeadTooLong BodyTooLong first second = absurd (second.0 first)
one_due c byte HeadTooLong Malformed first second = absurd (second.0 first)
one_due c byte HeadTooLong CodingRefused first second = absurd second
one_due c byte BodyTooLong HeadTooLong first second = absurd (first.0 second)
one_due c byte BodyTooLong BodyTooLong first second = refl
one_due c byte BodyTooLong Malformed first second = absurd (second.1 first.1)
one_due c byte BodyTooLong CodingRefused first second = absurd second
one_due c byte Malformed HeadTooLong first second = absurd (first.0 second)
one_due c byte Malformed BodyTooLong first second = absurd (first.1 second.1)
one_due c byte Malformed Malformed first second = refl
one_due c byte Malformed CodingRefused first second = absurd second
one_due c byte CodingRefused other first second = absurd first

-- faults at one front
at_one_front : Laws → (c d : CutBody) (byte at : ℕ) (fault other : MessageFault) → IsCutBody c → IsCutBody d → print_cut c ≡ print_cut d
    → byte ≡ at → IsChunkedFault c byte fault → IsChunkedFault d at other → fault ≡ other
at_one_front laws c d byte at fault other valid is same_text same_byte first second =
    let same = laws.cut c d valid is same_text in
    let moved : IsChunkedFault c at other = subst (λ e. IsChunkedFault e at other) (sym same) second in
    one_due c byte fault other first (subst (λ b. IsChunkedFault c b other) (sym same_byte) moved)

one_refused : Laws → (stream : List ℕ) (fault other : MessageFault) → RefusesChunked stream fault → RefusesChunked stream other → fault ≡ other
one_refused laws stream fault other first second =
    by_place (split (print_cut first.cut) (first.byte ∷ first.rest) (print_cut second.cut) second.byte second.rest
    (sym first.composed ∙ second.composed))
  where
    past_front : (come : List ℕ) → print_cut second.cut ≡ print_cut first.cut ++ come → first.byte ∷ first.rest ≡ come ++ second.byte ∷ second.rest
        → fault ≡ other
    past_front [] text bytes =
        at_one_front laws first.cut second.cut first.byte second.byte fault other first.valid second.valid
        (sym (text ∙ append-nil (print_cut first.cut))) (heads_of first.byte second.byte first.rest second.rest bytes).0 first.due second.due
    past_front (b ∷ come) text bytes =
        let same = heads_of first.byte b first.rest (come ++ second.byte ∷ second.rest) bytes in
        absurd (further_or_refused laws first.cut second.cut first.byte come fault first.valid second.valid second.within
        (text ∙ ap (λ c. print_cut first.cut ++ c ∷ come) (sym same.0)) first.due)

    by_place : Split (print_cut first.cut) (first.byte ∷ first.rest) (print_cut second.cut) second.byte second.rest → fault ≡ other
    by_place (inl past) = past_front past.0 past.1 past.2
    by_place (inr inside) =
        absurd (further_or_refused laws second.cut first.cut second.byte inside.0 other second.valid first.valid first.within inside.1 second.due)

-- ---- a body of any framing

pub holds_one : Laws → (framing : Framing) (ended : Bool) (stream : List ℕ) (used other : ℕ) → HoldsBody framing ended stream used
    → HoldsBody framing ended stream other → used ≡ other
holds_one laws Empty ended stream used other first second = first ∙ sym second
holds_one laws (Length n) ended stream used other first second = first.2 ∙ sym second.2
holds_one laws Chunked ended stream used other first second = one_used laws stream used other first second
holds_one laws ToEnd ended stream used other first second = first.2 ∙ sym second.2

pub holds_or_refuses : Laws → (framing : Framing) (ended : Bool) (stream : List ℕ) (used : ℕ) (fault : MessageFault)
    → HoldsBody framing ended stream used → RefusesBody framing stream fault → ⊥
holds_or_refuses laws Empty ended stream used fault holds refuses = refuses
holds_or_refuses laws (Length n) ended stream used fault holds refuses = refuses
holds_or_refuses laws Chunked ended stream used fault holds refuses = whole_or_refused laws stream used fault holds refuses
holds_or_refuses laws ToEnd ended stream used fault holds refuses = absurd (omega (arith, holds.1, refuses.0))

ended_or_not : (ended : Bool) → ended ≡ true → ended ≡ false → ⊥
ended_or_not ended is isnt = let e : true ≡ false = sym is ∙ isnt in cc

pub holds_or_begins : Laws → (framing : Framing) (ended : Bool) (stream : List ℕ) (used : ℕ) → HoldsBody framing ended stream used
    → BeginsBody framing ended stream → ⊥
holds_or_begins laws Empty ended stream used holds begins = begins
holds_or_begins laws (Length n) ended stream used holds begins = absurd (omega (arith, holds.1, begins.0))
holds_or_begins laws Chunked ended stream used holds begins = whole_or_cut laws.apart stream used holds begins
holds_or_begins laws ToEnd ended stream used holds begins = ended_or_not ended holds.0 begins.0

pub refuses_one : Laws → (framing : Framing) (stream : List ℕ) (fault other : MessageFault) → RefusesBody framing stream fault
    → RefusesBody framing stream other → fault ≡ other
refuses_one laws Empty stream fault other first second = absurd first
refuses_one laws (Length n) stream fault other first second = absurd first
refuses_one laws Chunked stream fault other first second = one_refused laws stream fault other first second
refuses_one laws ToEnd stream fault other first second = first.1 ∙ sym second.1

pub refuses_or_begins : Laws → (framing : Framing) (ended : Bool) (stream : List ℕ) (fault : MessageFault) → RefusesBody framing stream fault
    → BeginsBody framing ended stream → ⊥
refuses_or_begins laws Empty ended stream fault refuses begins = refuses
refuses_or_begins laws (Length n) ended stream fault refuses begins = refuses
refuses_or_begins laws Chunked ended stream fault refuses begins = cut_or_refused laws stream fault begins refuses
refuses_or_begins laws ToEnd ended stream fault refuses begins = absurd (omega (arith, begins.1, refuses.0))
