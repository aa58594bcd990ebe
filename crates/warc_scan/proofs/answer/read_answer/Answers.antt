use Rattle.std.proofs.Common.{Err, ap, subst, refl}
use Rattle.capture.specs.Captures.{kept_wire}
use Rattle.record_opening.proofs.Exits.{at_wrong_exit}
use Rattle.warc_scan.specs.steps.Responses.{IsAnswerOf}
use Rattle.warc_scan.proofs.AnswerParts.{has_head, read_of}
use Rattle.warc_scan.proofs.answer.read_answer.Goals as goal

pub returns-in_err-parts-clause-wrong : goal.returns-in_err-parts-clause-wrong
returns-in_err-parts-clause-wrong c =
    at_wrong_exit _ _ c.from_residual.result c.from_residual.ensures.1 (λ is head kept a.
    let has = has_head c.args.method.now c.args.block.now c.args.opening.now head kept a in
    c.in_err-parts.ensures.wrong (ap (λ e. Err e) is) head (kept_wire kept) has.parsed has.composed has.final)

pub returns-in_err-told-clause-wrong : goal.returns-in_err-told-clause-wrong
returns-in_err-told-clause-wrong c =
    at_wrong_exit _ _ c.from_residual-in_err-told.result c.from_residual-in_err-told.ensures.1 (λ is head kept a.
    c.in_err-told.ensures.wrong (ap (λ e. Err e) is) head kept
    (subst (λ b. IsAnswerOf c.args.method.now b c.args.opening.now head kept) c.in_ok-parts.ensures.ok.0 a))

pub returns-clause-ok : goal.returns-clause-ok
returns-clause-ok c =
    read_of c.args.method.now c.args.block.now c.args.opening.now c.in_ok-parts.parts c.in_ok-told.told _ c.in_ok-parts.ensures.ok.0 c.in_ok-parts.ensures.ok.1 c.in_ok-told.ensures.ok refl
