use Rattle.std.proofs.Common.{◌≡◌, ◌++◌, take, sym, ap, subst, ◌∙◌}
use Rattle.std.specs.Prelude.{IfOk}
use Rattle.std.proofs.lemmas.List.{take-append-drop}
use Rattle.capture.specs.Body.{IsBody}
use Rattle.capture.specs.Message.{IsRequestHeadText}
use Rattle.capture.specs.WellFormed.{IsRequestOf}
use Rattle.capture.proofs.HeadLaws.{request_heads_end}
use Rattle.http_head.proofs.FrontLaws.{end_fits}
use Rattle.whole_request.proofs.WholeLaws.{split_request, endless}
use Rattle.whole_request.proofs.method.request_method_in.Goals as goal

pub returns-in-Some-clause-ok : goal.returns-in-Some-clause-ok
returns-in-Some-clause-ok c =
    let text = c.args.text.now in
    let front = c.split_at.result.0.now in
    let wire = c.split_at.result.1.now in
    let all : front ++ wire ≡ text =
    ap (λ f. f ++ wire) c.split_at.ensures.front ∙ ap (λ w. take c.in-Some.end text ++ w) c.split_at.ensures.back
    ∙ take-append-drop c.in-Some.end text in
    subst (λ t. IfOk c.method_before.result (λ method. IsRequestOf method t)) all c.method_before.ensures.ok

pub returns-in-Some-clause-malformed : goal.returns-in-Some-clause-malformed
returns-in-Some-clause-malformed c = λ is h framing wire whole.
    let split = split_request request_heads_end c.args.text.now c.in-Some.end h framing wire
    c.in-Some.ensures whole in
    c.method_before.ensures.malformed is h framing (subst (λ f. IsRequestHeadText f h) (sym c.split_at.ensures.front) split.0)
    whole.framed (subst (IsBody framing) (split.1 ∙ sym c.split_at.ensures.back) whole.body)

pub returns-in-None-clause-malformed : goal.returns-in-None-clause-malformed
returns-in-None-clause-malformed c = λ is h framing wire whole.
    endless request_heads_end c.args.text.now h framing wire c.in-None.ensures whole

pub split_at-requires : goal.split_at-requires
split_at-requires c = end_fits c.args.text.now c.in-Some.end (sym c.in-Some.ensures)
