use Rattle.std.proofs.lemmas.Result.{IfErr-weaker, IfOk-weaker}
use Rattle.warc_text.specs.Lines.{concurrent_line}
use Rattle.record_opening.specs.Stops.{Differs}
use Rattle.record_opening.proofs.Exits.{at_exit}
use Rattle.record_opening.proofs.StartLaws.{at_concurrent, before_concurrent, behind_concurrent, concurrent_stands}
use Rattle.record_opening.proofs.opening_parts.strip_concurrent_line.Goals as goal

pub returns-in_err-given-clause-err : goal.returns-in_err-given-clause-err
returns-in_err-given-clause-err c =
    at_exit (λ s. Differs s c.args.bytes.now (concurrent_line c.args.id.now)) _ c.from_residual.result c.from_residual.ensures.1
    (before_concurrent c.args.id.now c.args.bytes.now _ c.in_err-given.ensures.err)

pub returns-in_err-end-clause-err : goal.returns-in_err-end-clause-err
returns-in_err-end-clause-err c =
    at_exit (λ s. Differs s c.args.bytes.now (concurrent_line c.args.id.now)) _ c.from_residual-in_err-end.result c.from_residual-in_err-end.ensures.1
    (at_concurrent c.args.id.now c.args.bytes.now _ c.in_ok-given.given.now c.in_ok-given.ensures.ok c.in_err-end.ensures.err)

pub returns-clause-ok : goal.returns-clause-ok
returns-clause-ok c =
    IfOk-weaker c.strip-2.result _ _ (λ rest e. concurrent_stands c.args.id.now c.args.bytes.now c.in_ok-given.given.now c.in_ok-end.end.now rest.now c.in_ok-given.ensures.ok
    c.in_ok-end.ensures.ok e) c.strip-2.ensures.ok

pub returns-clause-err : goal.returns-clause-err
returns-clause-err c =
    IfErr-weaker c.strip-2.result _ _ (λ stop d. behind_concurrent c.args.id.now c.args.bytes.now stop c.in_ok-given.given.now c.in_ok-end.end.now c.in_ok-given.ensures.ok
    c.in_ok-end.ensures.ok d) c.strip-2.ensures.err
