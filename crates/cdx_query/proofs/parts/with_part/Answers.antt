use Rattle.std.proofs.Common.{◌∙◌, sym}
use Rattle.cdx_query.proofs.GivenParts.{given_part}
use Rattle.cdx_query.proofs.parts.with_part.Goals as goal

pub returns-then-starts_with : goal.returns-then-starts_with
returns-then-starts_with c = λ giving is.
    given_part c.args.name.now c.args.part.now giving c.once_more.result (sym c.starts_with.ensures.value ∙ c.if-starts_with.true) (c.once_more.ensures giving is)
