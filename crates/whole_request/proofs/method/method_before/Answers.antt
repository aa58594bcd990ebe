use Rattle.std.proofs.Common.{sym, ◌∙◌}
use Rattle.whole_request.proofs.MethodLaws.{bare_method_of, body_is_empty, no_bytes, some_bytes}
use Rattle.whole_request.proofs.method.method_before.Goals as goal

pub returns-then-is_empty-clause-ok : goal.returns-then-is_empty-clause-ok
returns-then-is_empty-clause-ok c =
    bare_method_of c.args.front.now c.args.wire.now c.in-Ok.outline c.in-Ok.ensures.ok c.if-outline.false
    (no_bytes c.args.wire.now (sym c.is_empty.ensures ∙ c.if-is_empty.true))

pub returns-else-is_empty-clause-malformed : goal.returns-else-is_empty-clause-malformed
returns-else-is_empty-clause-malformed c = λ is h framing reads told body.
    some_bytes c.args.wire.now (sym c.is_empty.ensures ∙ c.if-is_empty.false)
    (body_is_empty c.args.front.now c.args.wire.now c.in-Ok.outline h framing c.in-Ok.ensures.ok c.if-outline.false reads told body)
