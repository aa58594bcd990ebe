-- What a byte of the trailer section makes of a body, read from the text in which it stands.
use Rattle.std.proofs.Common.{◌≡◌, ◌≢◌, ℕ, ◌+◌, ◌-◌, ◌<◌, ◌≤◌, true, false, List, [], ◌∷◌, ◌++◌, length, take, drop, get_or, refl, sym, ap, subst, ◌∙◌, arith}
use Rattle.std.specs.Prelude.{IsTrue, ◌↔◌}
use Rattle.std.proofs.lemmas.Bool.{false≢true}
use Rattle.capture.specs.FirstChunks.{HoldsChunked, RefusesChunked}
use Rattle.capture.specs.Head.{line_count, trailer_lines}
use Rattle.capture.specs.declared.framing.MessageFault.TheVariants.{Malformed, HeadTooLong, BodyTooLong}
use Rattle.capture.specs.declared.limits.TheConstants.{BODY_LIMIT, FIELD_LIMIT, HEAD_LIMIT}
use Rattle.body_reader.specs.steps.ChunkPlaces.{InTrailerAt}
use Rattle.http_head.specs.Sections.{IsSection}
use Rattle.body_reader.specs.steps.TrailerPlaces.{next_place}
use Rattle.body_reader.specs.declared.trailer.TrailerPlace.{TrailerPlace}
use Rattle.body_reader.specs.declared.trailer.TrailerPlace.TheVariants.{Ended}
use Rattle.body_reader.proofs.ChunkTrailerLaws.{IsShortStill, trailer_fits, trailer_too_long, many_lines, trailer_over, end_over, no_section, trailer_goes_on, body_ends}
use Rattle.body_reader.proofs.LineSteps.{at_byte, grown, len_at}

-- a byte of the section, which goes on or ends with it
pub record TrailerByte (text : List ℕ) (at start : ℕ) (place : TrailerPlace) : Type 0 where
  pub inside : at < length text
  pub stands : InTrailerAt start place (take at text)

pub starts_before : (text : List ℕ) (at start : ℕ) (place : TrailerPlace) → TrailerByte text at start place → start ≤ at
starts_before text at start place byte = omega (arith, byte.stands.start_is, len_at text at byte.inside)

pub too_long_at : (text : List ℕ) (at start : ℕ) (place : TrailerPlace) → TrailerByte text at start place
    → HEAD_LIMIT < at + 1 - start → RefusesChunked (take (at + 1) text) HeadTooLong
too_long_at text at start place byte long =
    at_byte (λ t. RefusesChunked t HeadTooLong) text at (get_or text at 0) byte.inside refl
    (trailer_too_long start place (take at text) (get_or text at 0) byte.stands (omega (arith, long, len_at text at byte.inside)))

room_at : (text : List ℕ) (at start : ℕ) (place : TrailerPlace) → TrailerByte text at start place → at ≢ BODY_LIMIT
    → length (take at text) < BODY_LIMIT
room_at text at start place byte other =
    let len = len_at text at byte.inside in
    omega (arith, len, other, trailer_fits start place (take at text) byte.stands)

short_at : (text : List ℕ) (at start : ℕ) (place : TrailerPlace) → TrailerByte text at start place
    → at + 1 - start ≤ HEAD_LIMIT → length (take at text) + 1 ≤ start + HEAD_LIMIT
short_at text at start place byte short =
    omega (arith, short, starts_before text at start place byte, len_at text at byte.inside)

pub over_at : (text : List ℕ) (at start : ℕ) (place : TrailerPlace) → TrailerByte text at start place
    → at + 1 - start ≤ HEAD_LIMIT → next_place place (get_or text at 0) ≢ Ended → at ≡ BODY_LIMIT → RefusesChunked (take (at + 1) text) BodyTooLong
over_at text at start place byte short going full =
    at_byte (λ t. RefusesChunked t BodyTooLong) text at (get_or text at 0) byte.inside refl
    (trailer_over start place (take at text) (get_or text at 0) byte.stands (short_at text at start place byte short) going
    (len_at text at byte.inside ∙ full))

pub goes_on_at : (text : List ℕ) (at start : ℕ) (place : TrailerPlace) → TrailerByte text at start place
    → at + 1 - start ≤ HEAD_LIMIT → next_place place (get_or text at 0) ≢ Ended → at ≢ BODY_LIMIT
    → InTrailerAt start (next_place place (get_or text at 0)) (take (at + 1) text)
goes_on_at text at start place byte short going other =
    at_byte (InTrailerAt start (next_place place (get_or text at 0))) text at (get_or text at 0) byte.inside refl
    (trailer_goes_on start place (take at text) (get_or text at 0) byte.stands (short_at text at start place byte short) going
    (room_at text at start place byte other))

-- ---- the byte that ends the section

-- the section with its last byte, as it stands in the text
pub record SectionEnd (text : List ℕ) (at start : ℕ) (place : TrailerPlace) (section : List ℕ) : Type 0 where
  pub byte : TrailerByte text at start place
  pub ends : next_place place (get_or text at 0) ≡ Ended
  pub short : at + 1 ≤ start + HEAD_LIMIT
  pub section_is : section ≡ drop start (take (at + 1) text)

section_text : (text : List ℕ) (at start : ℕ) (place : TrailerPlace) (section : List ℕ) → SectionEnd text at start place section
    → section ≡ drop start (take at text ++ get_or text at 0 ∷ [])
section_text text at start place section end = end.section_is ∙ ap (drop start) (grown text at end.byte.inside)

pub many_lines_at : (text : List ℕ) (at start : ℕ) (place : TrailerPlace) (section : List ℕ) → SectionEnd text at start place section
    → FIELD_LIMIT + 1 < line_count section → RefusesChunked (take (at + 1) text) HeadTooLong
many_lines_at text at start place section end many =
    let more : FIELD_LIMIT < trailer_lines section = omega (arith, many) in
    at_byte (λ t. RefusesChunked t HeadTooLong) text at (get_or text at 0) end.byte.inside refl
    (many_lines start place (take at text) (get_or text at 0) end.byte.stands end.ends
    (subst (λ t. FIELD_LIMIT < trailer_lines t) (section_text text at start place section end) more))

still_short : (text : List ℕ) (at start : ℕ) (place : TrailerPlace) (section : List ℕ) → SectionEnd text at start place section
    → line_count section ≤ FIELD_LIMIT + 1 → IsShortStill start (take at text) (get_or text at 0)
still_short text at start place section end few =
    let less : trailer_lines section ≤ FIELD_LIMIT = omega (arith, few) in
    record {
      length_is = omega (arith, end.short, len_at text at end.byte.inside);
      lines = subst (λ t. trailer_lines t ≤ FIELD_LIMIT) (section_text text at start place section end) less;
    }

pub end_over_at : (text : List ℕ) (at start : ℕ) (place : TrailerPlace) (section : List ℕ) → SectionEnd text at start place section
    → line_count section ≤ FIELD_LIMIT + 1 → at ≡ BODY_LIMIT → RefusesChunked (take (at + 1) text) BodyTooLong
end_over_at text at start place section end few full =
    at_byte (λ t. RefusesChunked t BodyTooLong) text at (get_or text at 0) end.byte.inside refl
    (end_over start place (take at text) (get_or text at 0) end.byte.stands (still_short text at start place section end few)
    (len_at text at end.byte.inside ∙ full))

pub body_ends_at : (text : List ℕ) (at start : ℕ) (place : TrailerPlace) (section : List ℕ) → SectionEnd text at start place section
    → line_count section ≤ FIELD_LIMIT + 1 → at ≢ BODY_LIMIT → IsSection section
    → HoldsChunked (take (at + 1) text) (length (take (at + 1) text))
body_ends_at text at start place section end few other is =
    at_byte (λ t. HoldsChunked t (length t)) text at (get_or text at 0) end.byte.inside refl
    (body_ends start place (take at text) (get_or text at 0) end.byte.stands (still_short text at start place section end few)
    (room_at text at start place end.byte other) (subst IsSection (section_text text at start place section end) is))

pub no_section_at : (text : List ℕ) (at start : ℕ) (place : TrailerPlace) (section : List ℕ) → SectionEnd text at start place section
    → line_count section ≤ FIELD_LIMIT + 1 → at ≢ BODY_LIMIT → (IsSection section → ⊥) → RefusesChunked (take (at + 1) text) Malformed
no_section_at text at start place section end few other none =
    at_byte (λ t. RefusesChunked t Malformed) text at (get_or text at 0) end.byte.inside refl
    (no_section start place (take at text) (get_or text at 0) end.byte.stands (still_short text at start place section end few)
    end.ends (room_at text at start place end.byte other)
    (λ is. none (subst IsSection (sym (section_text text at start place section end)) is)))

-- a test that tells whether a section is there
pub told_section : (section : List ℕ) (b : _) → IsTrue b ↔ IsSection section → b ≡ true → IsSection section
told_section section b told e = told.0 e

pub told_none : (section : List ℕ) (b : _) → IsTrue b ↔ IsSection section → b ≡ false → IsSection section → ⊥
told_none section b told e is = false≢true (sym e ∙ told.1 is)
