use Rattle.std.proofs.Common.{refl, arith, ◌∙◌}
use Rattle.time_text.specs.Texts.{InRange}
use Rattle.time_text.proofs.HttpLemmas.{written}
use Rattle.time_text.proofs.http.write_http.Goals as goal

pub returns : goal.returns
returns c =
    let fits : InRange c.args.date = omega (arith, c.in-Ok.ensures.succeeds.0 refl) in
    (fits, c.to_bytes.ensures ∙ written c.in-Ok.date c.args.date fits c.in-Ok.ensures.value)
