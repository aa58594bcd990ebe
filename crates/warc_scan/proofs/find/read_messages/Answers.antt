use Rattle.std.proofs.Common.{Err, refl, sym, ap, subst, ◌∙◌}
use Rattle.warc_text.proofs.EqualLaws.{one_method}
use Rattle.record_opening.proofs.Exits.{at_wrong_exit}
use Rattle.warc_scan.specs.steps.Responses.{IsAnswerOf}
use Rattle.warc_scan.proofs.find.read_messages.Goals as goal

pub returns-in_err-answer-clause-wrong : goal.returns-in_err-answer-clause-wrong
returns-in_err-answer-clause-wrong c =
    at_wrong_exit _ _ c.from_residual.result c.from_residual.ensures.1 (λ is method head kept request answer.
    let one = one_method c.in-Ok.method method c.args.found.now.request.now c.args.found.now.request.now refl c.in-Ok.ensures.ok request in
    c.in_err-answer.ensures.wrong (ap (λ e. Err e) is) head kept
    (subst (λ m. IsAnswerOf m c.args.found.now.answer.now c.args.found.now.opening head kept)
    (sym (c.as_slice.ensures.value ∙ one)) answer))
