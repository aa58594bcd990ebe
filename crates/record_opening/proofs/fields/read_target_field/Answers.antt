use Rattle.std.proofs.Common.{[], ◌++◌, append_assoc, inl, inr, sym, subst}
use Rattle.std.proofs.lemmas.Result.{err_from_is_err_and, IfOk-weaker, IfErr-weaker}
use Rattle.httparse.specs.Ascii.{crlf_bytes}
use Rattle.record_opening.specs.OpenValues.{IsPartOfTarget}
use Rattle.record_opening.specs.Openings.{IsTarget}
use Rattle.record_opening.specs.steps.OpeningFronts.{marked}
use Rattle.record_opening.specs.Stops.{Differs}
use Rattle.record_opening.proofs.Pieces.{before_value, behind_mark}
use Rattle.record_opening.proofs.Refusals.{at_mark, none_at, none_same}
use Rattle.record_opening.proofs.Samples.{some_target, some_target_is}
use Rattle.record_opening.proofs.fields.read_target_field.Goals as goal

pub returns-in_err-given-clause-err : goal.returns-in_err-given-clause-err
unfolding marked
returns-in_err-given-clause-err c =
    let exit = err_from_is_err_and c.from_residual.result c.from_residual.ensures.1 in
    let mark = c.args.mark.now in
    rw exit.1 (before_value IsTarget (λ uri. uri) exit.0 mark crlf_bytes c.args.bytes.now some_target some_target_is
    (subst (λ s. Differs s c.args.bytes.now mark) (sym exit.2) c.in_err-given.ensures.err))

pub returns-clause-ok : goal.returns-clause-ok
unfolding marked
returns-clause-ok c =
    IfOk-weaker c.read_target.result _ _ (λ read e. (
      e.0,
      behind_mark c.args.mark.now read.0.now crlf_bytes c.args.bytes.now
          c.in_ok-given.given.now read.2.now c.in_ok-given.ensures.ok e.1,
    )) c.read_target.ensures.ok

pub returns-clause-err : goal.returns-clause-err
unfolding marked
returns-clause-err c =
    let mark = c.args.mark.now in
    IfErr-weaker c.read_target.result _ _ (λ stop none.
    none_same IsTarget (λ uri. mark ++ (uri ++ crlf_bytes)) (λ uri. mark ++ uri ++ crlf_bytes) stop c.args.bytes.now
    (λ uri. sym (append_assoc mark uri crlf_bytes))
    (none_at IsTarget (λ uri. uri ++ crlf_bytes) IsPartOfTarget stop c.args.bytes.now mark c.in_ok-given.given.now (λ part. at_mark [] mark c.in_ok-given.given.now (inr (inl (c.requires, part))))
    c.in_ok-given.ensures.ok none))
    c.read_target.ensures.err
