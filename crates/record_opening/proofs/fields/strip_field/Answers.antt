use Rattle.std.proofs.Common.{sym, subst}
use Rattle.std.proofs.lemmas.Result.{err_from_is_err_and, IfOk-weaker, IfErr-weaker}
use Rattle.httparse.specs.Ascii.{crlf_bytes}
use Rattle.record_opening.specs.steps.OpeningFronts.{marked}
use Rattle.record_opening.specs.Stops.{Differs}
use Rattle.record_opening.proofs.Pieces.{three, first_of_three, second_of_three, third_of_three}
use Rattle.record_opening.proofs.fields.strip_field.Goals as goal

pub returns-in_err-given-clause-err : goal.returns-in_err-given-clause-err
unfolding marked
returns-in_err-given-clause-err c =
    let exit = err_from_is_err_and c.from_residual.result c.from_residual.ensures.1 in
    rw exit.1 (first_of_three exit.0 c.args.mark.now c.args.value.now crlf_bytes c.args.bytes.now
    (subst (λ s. Differs s c.args.bytes.now c.args.mark.now) (sym exit.2) c.in_err-given.ensures.err))

pub returns-in_err-end-clause-err : goal.returns-in_err-end-clause-err
unfolding marked
returns-in_err-end-clause-err c =
    let exit = err_from_is_err_and c.from_residual-in_err-end.result c.from_residual-in_err-end.ensures.1 in
    rw exit.1 (second_of_three exit.0 c.args.mark.now c.args.value.now crlf_bytes c.args.bytes.now c.in_ok-given.given.now
    c.in_ok-given.ensures.ok
    (subst (λ s. Differs s c.in_ok-given.given.now c.args.value.now) (sym exit.2) c.in_err-end.ensures.err))

pub returns-clause-ok : goal.returns-clause-ok
unfolding marked
returns-clause-ok c =
    IfOk-weaker c.strip-3.result _ _ (λ rest e. three c.args.mark.now c.args.value.now crlf_bytes c.args.bytes.now
    c.in_ok-given.given.now c.in_ok-end.end.now rest.now c.in_ok-given.ensures.ok c.in_ok-end.ensures.ok e) c.strip-3.ensures.ok

pub returns-clause-err : goal.returns-clause-err
unfolding marked
returns-clause-err c =
    IfErr-weaker c.strip-3.result _ _ (λ stop d. third_of_three stop c.args.mark.now c.args.value.now crlf_bytes c.args.bytes.now
    c.in_ok-given.given.now c.in_ok-end.end.now c.in_ok-given.ensures.ok c.in_ok-end.ensures.ok d) c.strip-3.ensures.err
