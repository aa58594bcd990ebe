-- How long a head is that stands at a stream's front, and a stream in which nothing is decided.
use Rattle.std.proofs.Common.{◌≡◌, ℕ, ◌+◌, ◌-◌, ◌≤◌, Bool, true, false, ◌&&◌, cond, eqb, leb, ltb, List, [], ◌∷◌, length, take, drop, Option, Some, None, inl, inr, refl, sym, ap, ◌∙◌, arith, length-append, length-take, length-drop}
use Rattle.std.specs.Prelude.{option_map, ⊤}
use Rattle.std.specs.List.{flat_map}
use Rattle.std.proofs.lemmas.Bool.{cond_both, leb-true, ltb-false}
use Rattle.httparse.specs.Grammar.{print_chunk_line}
use Rattle.capture.specs.Body.{announced_begun}
use Rattle.capture.specs.Chunks.{Begun, InLine, InData, InLineEnd, InTrailer, IsBegun, print_begun, print_chunk}
use Rattle.capture.specs.First.{Side, BeginsBody}
use Rattle.capture.specs.Head.{Front, line_ends_len, after_line_ends, head_len, head_end, field_lines, front_of, front_by, front_without_head, Head, TooLong, Nothing, More}
use Rattle.capture.specs.declared.framing.Framing.{Framing}
use Rattle.capture.specs.declared.framing.Framing.TheVariants.{Empty, Length, Chunked, ToEnd}
use Rattle.capture.specs.declared.limits.TheConstants.{HEAD_LIMIT, BODY_LIMIT, FIELD_LIMIT}
use Rattle.http_wire.specs.Reading.{IsUndecided}

pub line_ends_fit : (s : List ℕ) → line_ends_len s ≤ length s
line_ends_fit [] = omega arith
line_ends_fit (b ∷ []) = cond_both (eqb b 10) 1 0 (λ n. n ≤ 1) (λ _. omega arith) (λ _. omega arith)
line_ends_fit (b ∷ c ∷ s) =
    let one = line_ends_fit (c ∷ s) in
    let two = line_ends_fit s in
    let P : ℕ → Type 0 = λ n. n ≤ length (b ∷ c ∷ s) in
    cond_both (eqb b 10) (1 + line_ends_len (c ∷ s)) (cond (eqb b 13 && eqb c 10) (2 + line_ends_len s) 0) P
    (λ _. omega arith)
    (λ _. cond_both (eqb b 13 && eqb c 10) (2 + line_ends_len s) 0 P (λ _. omega arith) (λ _. omega arith))

first_holds : (a b : Bool) → (a && b) ≡ true → a ≡ true
first_holds true b e = refl
first_holds false b e = e

second_holds : (a b : Bool) → (a && b) ≡ true → b ≡ true
second_holds true b e = e
second_holds false b e = absurd cc

-- where a head within the limits ends
pub record HeadParts (stream : List ℕ) (skipped : ℕ) (text : List ℕ) : Type 0 where
  pub fits : skipped + length text ≤ length stream
  pub short : skipped + length text ≤ HEAD_LIMIT
  pub few : leb (field_lines text) FIELD_LIMIT ≡ true

no_head_without_end : (stream : List ℕ) (skipped : ℕ) (text : List ℕ) → front_without_head stream ≡ Head skipped text → ⊥
no_head_without_end stream skipped text =
    cond_both (ltb HEAD_LIMIT (length stream)) TooLong (cond (eqb (line_ends_len stream) (length stream)) Nothing More)
    (λ f. f ≡ Head skipped text → ⊥) (λ _ e. cc)
    (λ _. cond_both (eqb (line_ends_len stream) (length stream)) Nothing More (λ f. f ≡ Head skipped text → ⊥) (λ _ e. cc) (λ _ e. cc))

parts_of_same : (stream : List ℕ) (n skipped : ℕ) (text : List ℕ) → line_ends_len stream + n ≤ HEAD_LIMIT
    → leb (field_lines (drop (line_ends_len stream) (take (line_ends_len stream + n) stream))) FIELD_LIMIT ≡ true
    → line_ends_len stream ≡ skipped → drop (line_ends_len stream) (take (line_ends_len stream + n) stream) ≡ text
    → HeadParts stream skipped text
parts_of_same stream n skipped text short few is is_text =
    let end = line_ends_len stream + n in
    let long : length text ≡ length (take end stream) - line_ends_len stream =
    sym (ap length is_text) ∙ length-drop (line_ends_len stream) (take end stream) in
    record {
      fits = omega (arith, is, long, length-take end stream, line_ends_fit stream);
      short = omega (arith, is, long, length-take end stream, line_ends_fit stream, short);
      few = ap (λ t. leb (field_lines t) FIELD_LIMIT) (sym is_text) ∙ few;
    }

parts_by : (stream : List ℕ) (found : Option ℕ) (skipped : ℕ) (text : List ℕ)
    → front_by stream (option_map (λ n. line_ends_len stream + n) found) ≡ Head skipped text → HeadParts stream skipped text
parts_by stream None skipped text e = absurd (no_head_without_end stream skipped text e)
parts_by stream (Some n) skipped text e =
    let end = line_ends_len stream + n in
    let found = drop (line_ends_len stream) (take end stream) in
    cond_both (leb end HEAD_LIMIT && leb (field_lines found) FIELD_LIMIT) (Head (line_ends_len stream) found) TooLong
    (λ f. f ≡ Head skipped text → HeadParts stream skipped text)
    (λ within same.
    let is : line_ends_len stream ≡ skipped = cc in
    let is_text : found ≡ text = cc in
    parts_of_same stream n skipped text (leb-true end HEAD_LIMIT (first_holds (leb end HEAD_LIMIT) (leb (field_lines found) FIELD_LIMIT) within))
    (second_holds (leb end HEAD_LIMIT) (leb (field_lines found) FIELD_LIMIT) within) is is_text)
    (λ _ same. absurd (long_is_no_head skipped text same)) e
  where
    long_is_no_head : (k : ℕ) (t : List ℕ) → TooLong ≡ Head k t → ⊥
    long_is_no_head k t d = cc

pub parts_of_head : (stream : List ℕ) (skipped : ℕ) (text : List ℕ) → front_of stream ≡ Head skipped text → HeadParts stream skipped text
parts_of_head stream skipped text e = parts_by stream (head_len (after_line_ends stream)) skipped text e

-- ---- nothing is decided

-- a front without a head that is no fault
abbrev pub IsOpenFront : Front → Type 0
IsOpenFront (Head skipped text) = ⊥
IsOpenFront TooLong = ⊥
IsOpenFront Nothing = ⊤
IsOpenFront More = ⊤

open_by : (stream : List ℕ) (found : Option ℕ) → IsOpenFront (front_by stream found) → length stream ≤ HEAD_LIMIT
open_by stream None =
    cond_both (ltb HEAD_LIMIT (length stream)) TooLong (cond (eqb (line_ends_len stream) (length stream)) Nothing More)
    (λ f. IsOpenFront f → length stream ≤ HEAD_LIMIT) (λ _ no. absurd no)
    (λ short _. ltb-false HEAD_LIMIT (length stream) short)
open_by stream (Some end) =
    let text = drop (line_ends_len stream) (take end stream) in
    cond_both (leb end HEAD_LIMIT && leb (field_lines text) FIELD_LIMIT) (Head (line_ends_len stream) text) TooLong
    (λ f. IsOpenFront f → length stream ≤ HEAD_LIMIT) (λ _ no. absurd no) (λ _ no. absurd no)

nothing_is_short : (stream : List ℕ) → front_of stream ≡ Nothing → length stream ≤ HEAD_LIMIT
nothing_is_short stream e = open_by stream (head_end stream) (rw e tt)

more_is_short : (stream : List ℕ) → front_of stream ≡ More → length stream ≤ HEAD_LIMIT
more_is_short stream e = open_by stream (head_end stream) (rw e tt)

pub begun_is_short : (begun : Begun) → IsBegun begun → length (print_begun begun) ≤ announced_begun begun
begun_is_short (InLine come) valid = omega arith
begun_is_short (InData line come) valid = omega (arith, valid.1, length-append (print_chunk_line line) come)
begun_is_short (InLineEnd line data_bytes come) valid = omega arith
begun_is_short (InTrailer line come) valid = omega arith

pub body_is_short : (framing : Framing) (rest : List ℕ) → BeginsBody framing false rest → length rest ≤ BODY_LIMIT
body_is_short Empty rest body = absurd body
body_is_short (Length n) rest body = omega (arith, body.0, body.1)
body_is_short Chunked rest body =
    let c = body.0 in
    omega (
      arith,
      ap length body.3,
      length-append (flat_map print_chunk c.chunks) (print_begun c.begun),
      begun_is_short c.begun body.1.begun,
      body.2.fits,
    )
body_is_short ToEnd rest body = body.1

behind_is_short : (stream : List ℕ) (end skipped : ℕ) (text rest : List ℕ) → HeadParts stream skipped text → end ≡ skipped + length text
    → rest ≡ drop end stream → length rest ≤ BODY_LIMIT → length stream ≤ HEAD_LIMIT + BODY_LIMIT
behind_is_short stream end skipped text rest parts is behind short =
    omega (arith, parts.fits, parts.short, is, ap length behind, length-drop end stream, short)

pub undecided_is_short : (side : Side) (stream : List ℕ) → IsUndecided side false stream → length stream ≤ HEAD_LIMIT + BODY_LIMIT
undecided_is_short side stream (inl nothing) = omega (arith, nothing_is_short stream nothing.0)
undecided_is_short side stream (inr (inl (inl nothing))) = omega (arith, nothing_is_short stream nothing.0)
undecided_is_short side stream (inr (inl (inr more))) = omega (arith, more_is_short stream more)
undecided_is_short side stream (inr (inr body)) =
    behind_is_short stream body.end body.head.skipped body.head.text body.rest
    (parts_of_head stream body.head.skipped body.head.text body.head.front) body.head.end_is body.head.rest_is
    (body_is_short body.framing body.rest body.body)
