use Rattle.std.proofs.Common.{Err, ap, arith}
use Rattle.whole_request.proofs.Exits.{at_malformed}
use Rattle.whole_request.proofs.WholeLaws.{untold, bodiless}
use Rattle.whole_request.proofs.reading.read_parts.Goals as goal

pub returns-in_err-head-clause-malformed : goal.returns-in_err-head-clause-malformed
returns-in_err-head-clause-malformed c = λ is h framing reads told body.
    at_malformed _ _ c.from_residual.result c.from_residual.ensures.1
    (λ fault. c.in_err-head.ensures.malformed (ap (λ e. Err e) fault) h reads) is

pub returns-in-Err-clause-malformed : goal.returns-in-Err-clause-malformed
returns-in-Err-clause-malformed c = λ is h framing reads told body.
    untold c.args.front.now c.args.wire.now c.in_ok-head.head c.in-Err.field-0 h framing c.in_ok-head.ensures.ok
    c.in-Err.ensures (omega arith) reads told body

pub returns-in_err-payload-clause-malformed : goal.returns-in_err-payload-clause-malformed
returns-in_err-payload-clause-malformed c = λ is h framing reads told body.
    at_malformed _ _ c.from_residual-in_err-payload.result c.from_residual-in_err-payload.ensures.1
    (λ fault. bodiless c.args.front.now c.args.wire.now c.in_ok-head.head c.in-Ok.framing h framing c.in_ok-head.ensures.ok
    c.in-Ok.ensures (c.in_err-payload.ensures.malformed (ap (λ e. Err e) fault)) reads told body) is
