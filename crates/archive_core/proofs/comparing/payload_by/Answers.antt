use Rattle.std.proofs.Common.{List, ℕ, subst}
use Rattle.capture.specs.Payload.{IsPayload}
use Rattle.archive_core.proofs.comparing.payload_by.Goals as goal

pub returns-in-Ok : goal.returns-in-Ok
returns-in-Ok c =
    c.requires.framed.gives c.in-Ok.payload
    (subst (λ (w : List ℕ). IsPayload c.args.taken.now.cut c.args.framing w c.in-Ok.payload) c.as_slice.ensures c.in-Ok.ensures.payload)
