use Rattle.std.proofs.Common.{Err, ap, arith}
use Rattle.whole_request.proofs.WholeLaws.{untold, bodiless}
use Rattle.whole_request.proofs.MethodLaws.{method_of, same_err}
use Rattle.whole_request.proofs.method.framed_method.Goals as goal

pub returns-in-Err-request_framing_of-clause-malformed :
    goal.returns-in-Err-request_framing_of-clause-malformed
returns-in-Err-request_framing_of-clause-malformed c = λ is h framing reads told body.
    untold c.args.front.now c.args.wire.now c.in-Ok.head c.in-Err-request_framing_of.field-0 h framing c.in-Ok.ensures.ok
    c.in-Err-request_framing_of.ensures (omega arith) reads told body

pub returns-in-Err-check_body-clause-malformed :
    goal.returns-in-Err-check_body-clause-malformed
returns-in-Err-check_body-clause-malformed c = λ is h framing reads told body.
    bodiless c.args.front.now c.args.wire.now c.in-Ok.head c.in-Ok-request_framing_of.framing h framing c.in-Ok.ensures.ok
    c.in-Ok-request_framing_of.ensures (c.in-Err-check_body.ensures.malformed (ap (λ e. Err e) (same_err _ _ is)))
    reads told body

pub returns-in-Ok-check_body-clause-ok : goal.returns-in-Ok-check_body-clause-ok
returns-in-Ok-check_body-clause-ok c =
    method_of c.args.front.now c.args.wire.now c.in-Ok.head c.in-Ok-request_framing_of.framing c.in-Ok.ensures.ok c.in-Ok-request_framing_of.ensures c.in-Ok-check_body.ensures.body
