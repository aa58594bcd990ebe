use Rattle.std.proofs.Common.{◌≡◌, false, refl, sym, ap, subst, ◌∙◌}
use Rattle.std.proofs.lemmas.Bool.{false≢true}
use Rattle.std.proofs.lemmas.Result.{err_from_is_err_and}
use Rattle.httparse.specs.Ascii.{crlf_bytes}
use Rattle.capture.specs.Target.{IsAcceptedAs, is_accepted_uri}
use Rattle.record_opening.specs.OpenValues.{IsPartOfTarget}
use Rattle.record_opening.specs.Openings.{IsTarget}
use Rattle.record_opening.specs.Stops.{Differs}
use Rattle.record_opening.proofs.LineValues.{other_end, other_line}
use Rattle.record_opening.proofs.Targets.{accepted_target, target_is_one_line}
use Rattle.record_opening.proofs.fields.read_target.Goals as goal

pub returns-in-None-clause-err : goal.returns-in-None-clause-err
returns-in-None-clause-err c =
    let refused : is_accepted_uri c.in-Some.uri.now ≡ false = rw c.in-None.is at c.in_ok-accepted.ensures.value in
    other_line IsTarget (λ uri. uri) IsPartOfTarget target_is_one_line c.args.bytes.now c.in-Some.uri.now c.in-Some.behind.now c.in-Some.ensures.some
    (λ uri is e. false≢true (sym refused ∙ ap is_accepted_uri e ∙ is))

pub returns-in_err-rest-in-Some-accepted-clause-err : goal.returns-in_err-rest-in-Some-accepted-clause-err
returns-in_err-rest-in-Some-accepted-clause-err c =
    let exit = err_from_is_err_and c.from_residual-in_err-rest-in-Some-accepted.result c.from_residual-in_err-rest-in-Some-accepted.ensures.1 in
    let target : IsAcceptedAs c.in-Some.uri.now c.in-Some-accepted.url = rw c.in-Some-accepted.is at c.in_ok-accepted.ensures.value in
    rw exit.1 (other_end IsTarget (λ uri. uri) IsPartOfTarget target_is_one_line c.args.bytes.now exit.0 c.in-Some.uri.now c.in-Some.behind.now c.in-Some.uri.now
    (accepted_target c.in-Some.uri.now c.in-Some-accepted.url target) refl c.in-Some.ensures.some
    (subst (λ s. Differs s c.in-Some.behind.now crlf_bytes) (sym exit.2) c.in_err-rest-in-Some-accepted.ensures.err))
