use Rattle.std.proofs.Common.{subst}
use Rattle.std.specs.Prelude.{false}
use Rattle.capture.specs.Payload.{IsPayload}
use Rattle.message_body.proofs.payload.payload_of.Goals as goal

pub returns-in-Chunked-clause-malformed : goal.returns-in-Chunked-clause-malformed
returns-in-Chunked-clause-malformed c = λ fault payload is.
    let joined = subst (λ f. IsPayload false f c.args.wire.now payload) c.in-Chunked.is is in
    c.joined.ensures.malformed fault (joined.0, joined.1, joined.2)
