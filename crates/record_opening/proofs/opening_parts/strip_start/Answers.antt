use Rattle.std.proofs.lemmas.Result.{IfErr-weaker, IfOk-weaker}
use Rattle.record_opening.specs.steps.OpeningFronts.{start_text}
use Rattle.record_opening.specs.Stops.{Differs}
use Rattle.record_opening.proofs.Exits.{at_exit}
use Rattle.record_opening.proofs.StartLaws.{at_id, at_type, before_id, before_type, behind_id, start_stands}
use Rattle.record_opening.proofs.opening_parts.strip_start.Goals as goal

pub returns-in_err-typed-clause-err : goal.returns-in_err-typed-clause-err
returns-in_err-typed-clause-err c =
    at_exit (λ s. Differs s c.args.bytes.now (start_text c.args.word.now c.args.id.now)) _ c.from_residual.result c.from_residual.ensures.1
    (before_type c.args.word.now c.args.id.now c.args.bytes.now _ c.in_err-typed.ensures.err)

pub returns-in_err-named-clause-err : goal.returns-in_err-named-clause-err
returns-in_err-named-clause-err c =
    at_exit (λ s. Differs s c.args.bytes.now (start_text c.args.word.now c.args.id.now)) _ c.from_residual-in_err-named.result c.from_residual-in_err-named.ensures.1
    (at_type c.args.word.now c.args.id.now c.args.bytes.now _ c.in_ok-typed.typed.now c.in_ok-typed.ensures.ok c.in_err-named.ensures.err)

pub returns-in_err-given-clause-err : goal.returns-in_err-given-clause-err
returns-in_err-given-clause-err c =
    at_exit (λ s. Differs s c.args.bytes.now (start_text c.args.word.now c.args.id.now)) _ c.from_residual-in_err-given.result c.from_residual-in_err-given.ensures.1
    (before_id c.args.word.now c.args.id.now c.args.bytes.now _ c.in_ok-typed.typed.now c.in_ok-named.named.now c.in_ok-typed.ensures.ok c.in_ok-named.ensures.ok
    c.in_err-given.ensures.err)

pub returns-in_err-end-clause-err : goal.returns-in_err-end-clause-err
returns-in_err-end-clause-err c =
    at_exit (λ s. Differs s c.args.bytes.now (start_text c.args.word.now c.args.id.now)) _ c.from_residual-in_err-end.result c.from_residual-in_err-end.ensures.1
    (at_id c.args.word.now c.args.id.now c.args.bytes.now _ c.in_ok-typed.typed.now c.in_ok-named.named.now c.in_ok-given.given.now c.in_ok-typed.ensures.ok
    c.in_ok-named.ensures.ok c.in_ok-given.ensures.ok c.in_err-end.ensures.err)

pub returns-clause-ok : goal.returns-clause-ok
returns-clause-ok c =
    IfOk-weaker c.strip-4.result _ _ (λ rest e. start_stands c.args.word.now c.args.id.now c.args.bytes.now c.in_ok-typed.typed.now c.in_ok-named.named.now
    c.in_ok-given.given.now c.in_ok-end.end.now rest.now c.in_ok-typed.ensures.ok c.in_ok-named.ensures.ok c.in_ok-given.ensures.ok c.in_ok-end.ensures.ok e)
    c.strip-4.ensures.ok

pub returns-clause-err : goal.returns-clause-err
returns-clause-err c =
    IfErr-weaker c.strip-4.result _ _ (λ stop d. behind_id c.args.word.now c.args.id.now c.args.bytes.now stop c.in_ok-typed.typed.now c.in_ok-named.named.now
    c.in_ok-given.given.now c.in_ok-end.end.now c.in_ok-typed.ensures.ok c.in_ok-named.ensures.ok c.in_ok-given.ensures.ok c.in_ok-end.ensures.ok d)
    c.strip-4.ensures.err
