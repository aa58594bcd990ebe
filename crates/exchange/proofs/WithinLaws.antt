-- The wire of a response that was read is within the limit.
use Rattle.std.proofs.Common.{◌≡◌, ℕ, ◌≤◌, Bool, true, false, List, length, refl, sym, ap, subst, ◌∙◌, arith, length-append, length-drop}
use Rattle.capture.specs.Body.{IsCutWire, IsWire}
use Rattle.capture.specs.First.{Responses, Message, IsFirst, HoldsBody}
use Rattle.capture.specs.declared.framing.Framing.{Framing}
use Rattle.capture.specs.declared.framing.Framing.TheVariants.{Empty, Length, Chunked, ToEnd}
use Rattle.capture.specs.declared.limits.TheConstants.{BODY_LIMIT}
use Rattle.http_head.specs.declared.head.Received.{Received}
use Rattle.http_wire.specs.HeldBodies.{closed_standing}
use Rattle.http_wire.specs.Messages.{IsResponse}
use Rattle.http_wire.specs.Reading.{Standing, Stands}
use Rattle.http_wire.proofs.OneHead.{one_head}
use Rattle.http_wire.proofs.FrontParts.{body_is_short, parts_of_head}
use Rattle.http_wire.proofs.OneHead.{one_skipped}

pub whole_body_is_short : (framing : Framing) (ended : Bool) (rest : List ℕ) (used : ℕ) → HoldsBody framing ended rest used → used ≤ BODY_LIMIT
whole_body_is_short Empty ended rest used holds = omega (arith, holds)
whole_body_is_short (Length n) ended rest used holds = omega (arith, holds.0, holds.2)
whole_body_is_short Chunked ended rest used holds = holds.fits
whole_body_is_short ToEnd ended rest used holds = omega (arith, holds.1, holds.2)

cut_body_is_short : (framing : Framing) (wire : List ℕ) → IsCutWire framing wire → length wire ≤ BODY_LIMIT
cut_body_is_short Empty wire cut = absurd cut
cut_body_is_short (Length n) wire cut = body_is_short (Length n) wire cut
cut_body_is_short Chunked wire cut = body_is_short Chunked wire cut
cut_body_is_short ToEnd wire cut = absurd cut

pub whole_within : (answers_head other ended : Bool) (stream : List ℕ) (received : Received) → IsResponse answers_head stream received
    → IsFirst (Responses other) ended stream (Message (length stream)) → length received.wire ≤ BODY_LIMIT
whole_within answers_head other ended stream received response first =
    let head = first.head in
    let text = one_head stream head.skipped response.skipped head.text received.head.text head.front response.front in
    let skipped = one_skipped head.skipped response.skipped head.text received.head.text (sym head.front ∙ response.front) in
    let parts = parts_of_head stream response.skipped received.head.text response.front in
    omega (
      arith,
      first.used_is,
      head.end_is,
      skipped,
      ap length text,
      ap length response.composed,
      length-append received.head.text received.wire,
      length-drop response.skipped stream,
      parts.fits,
      whole_body_is_short first.framing ended first.rest first.body_len first.body,
    )

pub ended_within : (answers_head other : Bool) (stream : List ℕ) (standing : Standing) (received : Received)
    → IsResponse answers_head stream received → Stands (Responses other) stream standing → standing ≡ closed_standing received.cut
    → length received.wire ≤ BODY_LIMIT
ended_within answers_head other stream standing received response stands is = by_cut received.cut refl
  where
    standing_is : (cut : Bool) → received.cut ≡ cut → Stands (Responses other) stream (closed_standing cut)
    standing_is cut told = subst (Stands (Responses other) stream) (is ∙ ap closed_standing told) stands

    by_cut : (cut : Bool) → received.cut ≡ cut → length received.wire ≤ BODY_LIMIT
    by_cut false told = whole_within answers_head other true stream received response (standing_is false told)
    by_cut true told =
        cut_body_is_short received.framing received.wire (subst (λ c. IsWire c received.framing received.wire) told response.wire_is)
