-- A response that was cut has its head at the front of the stream, and more of its body is to come.
use Rattle.std.proofs.Common.{◌≡◌, ℕ, ◌+◌, ◌≤◌, Bool, true, false, ◌&&◌, cond, eqb, ltb, leb, List, [], ◌∷◌, ◌++◌, length, take, drop, Option, Some, None, refl, sym, ap, subst, ◌∙◌, arith, append-nil, length-drop, length-take-le}
use Rattle.std.specs.Prelude.{option_map}
use Rattle.std.proofs.lemmas.Bool.{leb-true, le-leb}
use Rattle.std.proofs.lemmas.Option.{same_Some}
use Rattle.std.proofs.Math.Seq.{drop-append_seam, take-length}
use Rattle.std.proofs.lemmas.List.{take-append-le, take-append-drop, drop-append-le}
use Rattle.httparse.specs.Grammar.{ResponseHead, print_response}
use Rattle.capture.specs.Body.{IsCutWire}
use Rattle.capture.specs.CutLaws.{CutResponsesNeedBody, EndedBodiesAreCut}
use Rattle.capture.specs.First.{BeginsBody}
use Rattle.capture.specs.Head.{begins_with_lf, empty_line_len, head_len, after_line_ends, head_end, line_ends_len, front_of, front_by, front_of_head, front_without_head, field_lines}
use Rattle.capture.specs.Head as head
use Rattle.capture.specs.Message.{BeginsWithResponse, IsResponseHeadText, IsShortHead}
use Rattle.capture.specs.declared.framing.Framing.{Framing}
use Rattle.capture.specs.declared.framing.Framing.TheVariants.{Empty, Length, Chunked, ToEnd}
use Rattle.capture.specs.declared.limits.TheConstants.{HEAD_LIMIT, FIELD_LIMIT}
use Rattle.capture.proofs.HeadLaws.{response_heads_end, response_starts_plain}

-- the head is a response's, and the rest stands behind it
head_first : (text rest : List ℕ) (h : ResponseHead) → IsResponseHeadText text h → BeginsWithResponse (text ++ rest) h rest
head_first text rest h is = record {
  reads = (is.reads.0, ap (λ t. t ++ rest) (is.reads.1 ∙ append-nil (print_response h)));
  at_once = is.at_once;
  status = is.status;
  no_switch = is.no_switch;
}

head_ends_at : (text rest : List ℕ) (h : ResponseHead) → IsResponseHeadText text h → head_end (text ++ rest) ≡ Some (length text)
head_ends_at text rest h is =
    response_heads_end (text ++ rest) h rest (head_first text rest h is)
    ∙ ap (λ t. Some (length t)) (sym (is.reads.1 ∙ append-nil (print_response h)))

text_ends : (text : List ℕ) (h : ResponseHead) → IsResponseHeadText text h → head_end text ≡ Some (length text)
text_ends text h is = ap head_end (sym (append-nil text)) ∙ head_ends_at text [] h is

-- a front by what is skipped, and by the text up to the head's end
abbrev front_at : ℕ → ℕ → List ℕ → head.Front
front_at end skipped text =
    cond (leb end HEAD_LIMIT && leb (field_lines (drop skipped text)) FIELD_LIMIT) (head.Head skipped (drop skipped text)) head.TooLong

same_front : (stream : List ℕ) (end : ℕ) → head_end stream ≡ Some end → line_ends_len stream ≡ 0
    → front_of stream ≡ front_at end 0 (take end stream)
same_front stream end ends none =
    ap (front_by stream) ends ∙ ap (λ skipped. front_at end skipped (take end stream)) none

take_front : (text rest : List ℕ) → take (length text) (text ++ rest) ≡ take (length text) text
take_front text rest = take-append-le (length text) text rest (omega arith)

-- the head stands at the front, whatever follows
pub head_at_front : (text rest : List ℕ) (h : ResponseHead) → IsResponseHeadText text h → IsShortHead text → front_of (text ++ rest) ≡ head.Head 0 text
head_at_front text rest h is short =
    let here = head_first text rest h is in
    same_front (text ++ rest) (length text) (head_ends_at text rest h is) (response_starts_plain (text ++ rest) h rest here)
    ∙ ap (front_at (length text) 0) (take_front text rest)
    ∙ sym (same_front text (length text) (text_ends text h is) (response_starts_plain text h [] is)) ∙ short

begins_body : (framing : Framing) (ended : Bool) (wire : List ℕ) → IsCutWire framing wire → BeginsBody framing ended wire
begins_body Empty ended wire cut = absurd cut
begins_body (Length n) ended wire cut = cut
begins_body Chunked ended wire cut = cut
begins_body ToEnd ended wire cut = absurd cut

pub cut_needs_body : CutResponsesNeedBody
cut_needs_body answers_head ended text wire h framing is = record {
  framing = framing;
  end = length text;
  rest = wire;
  head = record {
    skipped = 0;
    text = text;
    front = head_at_front text wire h is.head is.short;
    tells = (h, is.head, is.framed);
    end_is = omega arith;
    rest_is = sym (drop-append_seam text wire);
  };
  body = begins_body framing ended wire is.body;
}

-- ---- the other way round

same_head : (s t : ℕ) (x y : List ℕ) → head.Head s x ≡ head.Head t y → (s ≡ t) × (x ≡ y)
same_head s t x y e = (cc, cc)

not_too_long : (skipped : ℕ) (text : List ℕ) → head.TooLong ≡ head.Head skipped text → ⊥
not_too_long skipped text e = cc

-- where a head within the limits stands
record IsPlaced (stream : List ℕ) (skipped : ℕ) (text : List ℕ) : Type 0 where
  end : ℕ
  ends : head_end stream ≡ Some end
  skipped_is : skipped ≡ line_ends_len stream
  text_is : text ≡ drop skipped (take end stream)
  short : end ≤ HEAD_LIMIT
  few : field_lines text ≤ FIELD_LIMIT

placed_if : (stream : List ℕ) (skipped end : ℕ) (text : List ℕ) (short few : Bool) → head_end stream ≡ Some end
    → leb end HEAD_LIMIT ≡ short → leb (field_lines (drop (line_ends_len stream) (take end stream))) FIELD_LIMIT ≡ few
    → cond (short && few) (head.Head (line_ends_len stream) (drop (line_ends_len stream) (take end stream))) head.TooLong ≡ head.Head skipped text
    → IsPlaced stream skipped text
placed_if stream skipped end text true true ends short few e =
    let same = same_head (line_ends_len stream) skipped (drop (line_ends_len stream) (take end stream)) text e in record {
      end = end;
      ends = ends;
      skipped_is = sym same.0;
      text_is = sym same.1 ∙ ap (λ n. drop n (take end stream)) same.0;
      short = leb-true end HEAD_LIMIT short;
      few = subst (λ t. field_lines t ≤ FIELD_LIMIT) same.1 (leb-true _ FIELD_LIMIT few);
    }
placed_if stream skipped end text true false ends short few e = absurd (not_too_long skipped text e)
placed_if stream skipped end text false few ends short many e = absurd (not_too_long skipped text e)

not_without : (stream : List ℕ) (skipped : ℕ) (text : List ℕ) (long blank : Bool)
    → cond long head.TooLong (cond blank head.Nothing head.More) ≡ head.Head skipped text → ⊥
not_without stream skipped text true blank e = not_too_long skipped text e
not_without stream skipped text false true e = cc
not_without stream skipped text false false e = cc

placed_by : (stream : List ℕ) (skipped : ℕ) (text : List ℕ) (end : Option ℕ) → head_end stream ≡ end → front_by stream end ≡ head.Head skipped text
    → IsPlaced stream skipped text
placed_by stream skipped text None ends e =
    absurd (not_without stream skipped text (ltb HEAD_LIMIT (length stream)) (eqb (line_ends_len stream) (length stream)) e)
placed_by stream skipped text (Some end) ends e =
    placed_if stream skipped end text (leb end HEAD_LIMIT)
    (leb (field_lines (drop (line_ends_len stream) (take end stream))) FIELD_LIMIT) ends refl refl e

-- ---- where a head ends, within the stream

either_le : (b : Bool) (x y n : ℕ) → x ≤ n → y ≤ n → cond b x y ≤ n
either_le true x y n h i = h
either_le false x y n h i = i

cr_within : (is_cr : Bool) (s : List ℕ) → cond (is_cr && begins_with_lf s) 2 0 ≤ length s + 1
cr_within true [] = omega arith
cr_within false [] = omega arith
cr_within is_cr (c ∷ s) = either_le (is_cr && begins_with_lf (c ∷ s)) 2 0 (length (c ∷ s) + 1) (omega arith) (omega arith)

empty_line_within : (s : List ℕ) → empty_line_len s ≤ length s
empty_line_within [] = omega arith
empty_line_within (b ∷ s) =
    let behind = cr_within (eqb b 13) s in
    either_le (eqb b 10) 1 (cond (eqb b 13 && begins_with_lf s) 2 0) (length (b ∷ s)) (omega arith) (omega (arith, behind))

head_len_step : (ends : Bool) (s : List ℕ) (inner : Option ℕ) (n : ℕ) → ((m : ℕ) → inner ≡ Some m → m ≤ length s)
    → cond ends (Some (1 + empty_line_len s)) (option_map (λ k. 1 + k) inner) ≡ Some n → n ≤ length s + 1
head_len_step true s inner n behind e = omega (arith, same_Some (1 + empty_line_len s) n e, empty_line_within s)
head_len_step false s None n behind e = cc
head_len_step false s (Some m) n behind e = omega (arith, same_Some (1 + m) n e, behind m refl)

head_len_within : (s : List ℕ) (n : ℕ) → head_len s ≡ Some n → n ≤ length s
head_len_within [] n e = cc
head_len_within (b ∷ s) n e =
    omega (arith, head_len_step (eqb b 10 && ltb 0 (empty_line_len s)) s (head_len s) n (head_len_within s) e)

line_ends_within : (s : List ℕ) → line_ends_len s ≤ length s
line_ends_within [] = omega arith
line_ends_within (b ∷ []) = either_le (eqb b 10) 1 0 1 (omega arith) (omega arith)
line_ends_within (b ∷ c ∷ s) =
    let one = line_ends_within (c ∷ s) in
    let two = line_ends_within s in
    either_le (eqb b 10) (1 + line_ends_len (c ∷ s)) (cond (eqb b 13 && eqb c 10) (2 + line_ends_len s) 0) (length (b ∷ c ∷ s))
    (omega (arith, one))
    (either_le (eqb b 13 && eqb c 10) (2 + line_ends_len s) 0 (length (b ∷ c ∷ s)) (omega (arith, two)) (omega arith))

head_end_step : (s : List ℕ) (inner : Option ℕ) (n : ℕ) → ((m : ℕ) → inner ≡ Some m → m ≤ length (after_line_ends s))
    → option_map (λ k. line_ends_len s + k) inner ≡ Some n → (line_ends_len s ≤ n) × (n ≤ length s)
head_end_step s None n behind e = cc
head_end_step s (Some m) n behind e =
    let same = same_Some (line_ends_len s + m) n e in (
      omega (arith, same),
      omega (arith, same, behind m refl, length-drop (line_ends_len s) s, line_ends_within s),
    )

head_end_within : (s : List ℕ) (n : ℕ) → head_end s ≡ Some n → (line_ends_len s ≤ n) × (n ≤ length s)
head_end_within s n e = head_end_step s (head_len (after_line_ends s)) n (head_len_within (after_line_ends s)) e

-- ---- what a stream holds that ended inside a body

cut_body : (framing : Framing) (rest : List ℕ) → BeginsBody framing true rest → IsCutWire framing rest
cut_body Empty rest begins = absurd begins
cut_body (Length n) rest begins = begins
cut_body Chunked rest begins = begins
cut_body ToEnd rest begins = absurd (true_not_false begins.0)
  where
    true_not_false : true ≡ false → ⊥
    true_not_false e = cc

within_limits : (text : List ℕ) → length text ≤ HEAD_LIMIT → field_lines text ≤ FIELD_LIMIT → front_at (length text) 0 text ≡ head.Head 0 text
within_limits text fits few = rw (le-leb (length text) HEAD_LIMIT fits, le-leb (field_lines text) FIELD_LIMIT few) refl

short_head : (stream : List ℕ) (skipped : ℕ) (text : List ℕ) (h : ResponseHead) → IsPlaced stream skipped text → IsResponseHeadText text h
    → IsShortHead text
short_head stream skipped text h place is =
    let within = head_end_within stream place.end place.ends in
    let fits : length text ≤ HEAD_LIMIT =
    omega (arith, ap length place.text_is, length-drop skipped (take place.end stream), length-take-le place.end stream within.1, place.short) in
    same_front text (length text) (text_ends text h is) (response_starts_plain text h [] is)
    ∙ ap (front_at (length text) 0) (take-length text) ∙ within_limits text fits place.few

-- the head and the rest are the stream behind what is skipped
composed_of : (stream : List ℕ) (skipped end : ℕ) (text rest : List ℕ) → IsPlaced stream skipped text → end ≡ skipped + length text
    → rest ≡ drop end stream → drop skipped stream ≡ text ++ rest
composed_of stream skipped end text rest place end_is rest_is =
    let within = head_end_within stream place.end place.ends in
    let front_len = length-take-le place.end stream within.1 in
    let same : place.end ≡ end =
    omega (arith, end_is, ap length place.text_is, length-drop skipped (take place.end stream), front_len, within.0, place.skipped_is) in
    ap (drop skipped) (sym (take-append-drop place.end stream))
    ∙ drop-append-le skipped (take place.end stream) (drop place.end stream) (omega (arith, front_len, within.0, place.skipped_is))
    ∙ ap (λ t. t ++ drop place.end stream) (sym place.text_is)
    ∙ ap (λ r. text ++ r) (ap (λ n. drop n stream) same ∙ sym rest_is)

pub ended_is_cut : EndedBodiesAreCut
ended_is_cut answers_head stream begins =
    let head_is = begins.head in
    let h = head_is.tells.0 in
    let place = placed_by stream head_is.skipped head_is.text (head_end stream) refl head_is.front in record {
      skipped = head_is.skipped;
      head_text = head_is.text;
      wire = begins.rest;
      parsed = h;
      framing = begins.framing;
      cut = record {
        head = head_is.tells.1;
        short = short_head stream head_is.skipped head_is.text h place head_is.tells.1;
        framed = head_is.tells.2;
        body = cut_body begins.framing begins.rest begins.body;
      };
      composed = composed_of stream head_is.skipped begins.end head_is.text begins.rest place head_is.end_is head_is.rest_is;
    }
