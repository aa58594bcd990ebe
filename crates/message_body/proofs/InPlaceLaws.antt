-- A chunk's data behind the data before them, in the memory of the wire.
use Rattle.std.proofs.Common.{◌≡◌, ℕ, ◌+◌, ◌-◌, ◌≤◌, true, List, ◌++◌, length, take, drop, sym, ap, subst, ◌∙◌, arith, length-drop, append_assoc, append-nil, inl, inr}
use Rattle.std.specs.List.{copy_within}
use Rattle.std.proofs.lemmas.List.{drop-drop}
use Rattle.std.proofs.lemmas.List.Edits.{take-paste, drop-paste}
use Rattle.httparse.specs.Spans.{span_bytes}
use Rattle.httparse.specs.declared.spans.Span.{Span}
use Rattle.capture.specs.Head.{section_len}
use Rattle.capture.specs.Payload.{IsCutJoined}
use Rattle.capture.specs.declared.framing.Framing.TheVariants.{Chunked}
use Rattle.capture.proofs.PayloadLaws.{one_payload}
use Rattle.http_head.specs.Sections.{IsSection}
use Rattle.message_body.specs.Slices.{IsLeft}
use Rattle.message_body.specs.steps.Decoding.{IsGathered, IsTrailerSeen}
use Rattle.message_body.specs.steps.Splits.{HasNoBody, HasNoCut, HoldsChunk, HoldsCut, HoldsLast}
use Rattle.message_body.specs.declared.decode.TrailerSeen.TheVariants.{Wrong}
use Rattle.message_body.specs.declared.in_place.Gathered.TheVariants.{Last}
use Rattle.message_body.proofs.DecodeLaws.{Decodes, cut_at_end, cut_at_last, cut_is_no_body, decodes_further, neither_at_last, whole_at_last}
use Rattle.message_body.proofs.SliceLaws.{goes_on_behind, none_left_at_last}

same_len : (at start end : ℕ) → start ≤ end → (at + end) - (at + start) ≡ end - start
same_len at start end ordered = omega (arith, ordered)

enough : (bytes : List ℕ) (at start end : ℕ) → start ≤ end → at + end ≤ length bytes → (at + end) - (at + start) ≤ length (drop (at + start) bytes)
enough bytes at start end ordered fits = omega (arith, ordered, fits, length-drop (at + start) bytes)

pub moved_front : (bytes : List ℕ) (len at : ℕ) (span : Span) → len ≤ at → span.start ≤ span.end → at + span.end ≤ length bytes
    → take (len + (span.end - span.start)) (copy_within bytes (at + span.start) (at + span.end) len) ≡ take len bytes ++ span_bytes (drop at bytes) span
moved_front bytes len at span before ordered fits =
    let moved : List ℕ = drop (at + span.start) bytes in
    let n : ℕ = (at + span.end) - (at + span.start) in
    let same = same_len at span.start span.end ordered in
    ap (λ k. take (len + k) (copy_within bytes (at + span.start) (at + span.end) len)) (sym same)
    ∙ take-paste bytes len moved n (omega (arith, before, ordered, fits)) (enough bytes at span.start span.end ordered fits)
    ∙ ap (λ k. take len bytes ++ take k moved) same
    ∙ ap (λ s. take len bytes ++ take (span.end - span.start) s) (sym (drop-drop span.start at bytes))

pub moved_behind : (bytes : List ℕ) (len at : ℕ) (span : Span) → len ≤ at → span.start ≤ span.end → at + span.end ≤ length bytes
    → drop (at + span.end) (copy_within bytes (at + span.start) (at + span.end) len) ≡ drop (at + span.end) bytes
moved_behind bytes len at span before ordered fits =
    let moved : List ℕ = drop (at + span.start) bytes in
    let n : ℕ = (at + span.end) - (at + span.start) in
    let all : List ℕ = copy_within bytes (at + span.start) (at + span.end) len in
    let m : ℕ = (at + span.end) - (len + n) in
    let e : at + span.end ≡ (len + n) + m = omega (arith, before, ordered, same_len at span.start span.end ordered) in
    ap (λ k. drop k all) e ∙ sym (drop-drop m (len + n) all)
    ∙ ap (drop m) (drop-paste bytes len moved n (omega (arith, before, ordered, fits)) (enough bytes at span.start span.end ordered fits))
    ∙ drop-drop m (len + n) bytes ∙ ap (λ k. drop k bytes) (sym e)

-- What a payload is behind the data before, and its rest's data.
pub record LeftBehind (payload before rest : List ℕ) : Type 0 where
  pub behind : List ℕ
  pub splits : payload ≡ before ++ behind
  pub is : IsLeft true rest behind

-- Each payload of the wire begins with these data, and the rest has the others.
abbrev pub Leaves : List ℕ → List ℕ → List ℕ → Type 0
Leaves wire before rest = (payload : List ℕ) → IsLeft true wire payload → LeftBehind payload before rest

leaves_further : (wire before rest : List ℕ) (d : Span) → Leaves wire before rest → HoldsChunk rest d
    → Leaves wire (before ++ span_bytes rest d) (drop (d.end + 2) rest)
leaves_further wire before rest d leaves holds = λ payload is.
    let so_far = leaves payload is in
    let goes = goes_on_behind rest d so_far.behind holds so_far.is in
    record {
      behind = goes.rest;
      splits = so_far.splits ∙ ap (λ s. before ++ s) goes.splits ∙ sym (append_assoc before (span_bytes rest d) goes.rest);
      is = goes.is;
    }

-- What was moved to the front, and what is left.
pub record GoesOn (wire bytes : List ℕ) (len at : ℕ) : Type 0 where
  pub decodes : Decodes wire (take len bytes) (drop at bytes)
  pub leaves : Leaves wire (take len bytes) (drop at bytes)
  pub before : len ≤ at
  pub within : at ≤ length bytes

-- a chunk's data were moved
pub chunk_goes_on : (wire bytes moved rest : List ℕ) (len at : ℕ) (span : Span) → GoesOn wire bytes len at → rest ≡ drop at bytes → HoldsChunk rest span
    → take (len + (span.end - span.start)) moved ≡ take len bytes ++ span_bytes (drop at bytes) span
    → drop (at + span.end) moved ≡ drop (at + span.end) bytes → length moved ≡ length bytes
    → GoesOn wire moved (len + (span.end - span.start)) (at + (span.end + 2))
chunk_goes_on wire bytes moved rest len at span goes rest_is holds front behind long =
    let there : HoldsChunk (drop at bytes) span = subst (λ r. HoldsChunk r span) rest_is holds in
    let e : at + (span.end + 2) ≡ (at + span.end) + 2 = omega arith in
    let left : drop (span.end + 2) (drop at bytes) ≡ drop (at + (span.end + 2)) moved =
    drop-drop (span.end + 2) at bytes ∙ ap (λ k. drop k bytes) e ∙ sym (drop-drop 2 (at + span.end) bytes)
    ∙ ap (drop 2) (sym behind) ∙ drop-drop 2 (at + span.end) moved ∙ ap (λ k. drop k moved) (sym e) in
    record {
      decodes = subst (λ r. Decodes wire (take (len + (span.end - span.start)) moved) r) left
          (subst (λ p. Decodes wire p (drop (span.end + 2) (drop at bytes))) (sym front)
          (decodes_further wire (take len bytes) (drop at bytes) span goes.decodes there));
      leaves = subst (λ r. Leaves wire (take (len + (span.end - span.start)) moved) r) left
          (subst (λ p. Leaves wire p (drop (span.end + 2) (drop at bytes))) (sym front)
          (leaves_further wire (take len bytes) (drop at bytes) span goes.leaves there));
      before = omega (arith, goes.before);
      within = omega (arith, goes.within, there.fits, length-drop at bytes, long);
    }

-- the last data, of a body that was cut, were moved
pub cut_is_gathered : (wire bytes moved rest : List ℕ) (len at : ℕ) (span : Span) → GoesOn wire bytes len at → rest ≡ drop at bytes → HoldsCut rest span
    → take (len + (span.end - span.start)) moved ≡ take len bytes ++ span_bytes (drop at bytes) span
    → IsCutJoined wire (take (len + (span.end - span.start)) moved)
cut_is_gathered wire bytes moved rest len at span goes rest_is holds front =
    subst (IsCutJoined wire) (sym front)
    (cut_at_end wire (take len bytes) (drop at bytes) span goes.decodes (subst (λ r. HoldsCut r span) rest_is holds))

-- a span of what is left lies in the whole
pub span_fits : (bytes rest : List ℕ) (at end : ℕ) → rest ≡ drop at bytes → at ≤ length bytes → end ≤ length rest → at + end ≤ length bytes
span_fits bytes rest at end is within fits = omega (arith, within, fits, ap length is, length-drop at bytes)

-- the line of size 0 stands in front
pub last_is_gathered : (wire bytes rest : List ℕ) (len at start : ℕ) → GoesOn wire bytes len at → rest ≡ drop at bytes → HoldsLast rest start
    → IsGathered wire bytes (Last len (at + start))
last_is_gathered wire bytes rest len at start goes rest_is holds =
    let there : HoldsLast (drop at bytes) start = subst (λ r. HoldsLast r start) rest_is holds in
    let behind : drop start (drop at bytes) ≡ drop (at + start) bytes = drop-drop start at bytes in (
      record {
        known = λ payload is.
            let left = goes.leaves payload is in
            sym (append-nil (take len bytes)) ∙ ap (λ s. take len bytes ++ s) (sym (none_left_at_last (drop at bytes) start left.behind there left.is)) ∙ sym left.splits;
        whole = λ is. whole_at_last wire (take len bytes) (drop at bytes) start goes.decodes there (subst IsSection (sym behind) is);
        open_yet = λ none. cut_at_last wire (take len bytes) (drop at bytes) start goes.decodes there (ap section_len behind ∙ none);
        neither = λ seen.
            let is = subst (λ s. IsTrailerSeen s Wrong) (sym behind) seen in
            neither_at_last wire (take len bytes) (drop at bytes) start goes.decodes there is.0 is.1;
      },
      omega (arith, goes.within, there.fits, length-drop at bytes),
    )

-- nothing of a chunked body stands in front
pub nothing_is_gathered : (wire bytes rest : List ℕ) (len at : ℕ) → GoesOn wire bytes len at → rest ≡ drop at bytes → HasNoBody rest → HasNoCut rest
    → HasNoBody wire × HasNoCut wire
nothing_is_gathered wire bytes rest len at goes rest_is no_body no_cut =
    (goes.decodes.no_body (subst HasNoBody rest_is no_body), goes.decodes.no_cut (subst HasNoCut rest_is no_cut))

-- ---- a wire that is known

pub known_cut : (wire payload come : List ℕ) → IsLeft true wire payload → IsCutJoined wire come → come ≡ payload
known_cut wire payload come (inl is) cut = absurd (cut_is_no_body wire come cut (is.0, is.1, is.2))
known_cut wire payload come (inr is) cut = one_payload true Chunked wire come payload cut is
