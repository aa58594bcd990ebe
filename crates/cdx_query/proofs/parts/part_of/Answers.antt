use Rattle.std.proofs.Common.{List, ℕ, sym, subst}
use Rattle.cdx_query.specs.Given.{IsGiven}
use Rattle.cdx_query.specs.Values.{gives}
use Rattle.cdx_query.proofs.GivenParts.{given_more}
use Rattle.cdx_query.proofs.parts.part_of.Goals as goal

pub loop-part-preserved : goal.loop-part-preserved
loop-part-preserved c =
    subst (λ (giving : List (List ℕ)). IsGiven giving c.with_part-given.result)
    (sym (given_more (gives c.args.name.now) c.args.parts.now c.loop-part.part-index _ c.loop-part-test.true))
    (c.with_part-given.ensures _ c.loop-part.invariant)
