-- A whole response has a payload.
use Rattle.std.proofs.Common.{rules, List, ℕ, false, sym, subst}
use Rattle.capture.proofs.PayloadLaws.{body_has_payload}
use Rattle.capture.specs.Body.{IsWire}
use Rattle.capture.specs.Payload.{IsPayload}
use Rattle.replica.proofs.asking.given_in.Goals as goal

pub returns-then-status-eq-OK : goal.returns-then-status-eq-OK
returns-then-status-eq-OK c =
    let framing = c.args.received.framing in
    let wire = c.args.received.wire in
    let has = body_has_payload framing wire (subst (λ cut. IsWire cut framing wire) c.if-cut.false c.requires.1.wire_is) in (
      c.if-cut.false,
      search rules,
      subst (λ (p : List ℕ). IsPayload false framing wire p) (sym (c.payload_in_place.ensures false has.0 has.1)) has.1,
    )
