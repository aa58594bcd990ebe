use Rattle.std.proofs.Common.{◌∙◌, rules, tests}
use Rattle.std.proofs.lemmas.Iterator.{YieldsList-from_slice}
use Rattle.std.proofs.lemmas.Iterator.Search.{any_from_yields_List}
use Rattle.http_head.specs.Heads.{named_value}
use Rattle.session.specs.steps.Heads.{lists_close}
use Rattle.session.proofs.HeadLaws.{any_named}
use Rattle.session.proofs.heads.asks_to_close.Goals as goal

pub returns : goal.returns
returns c =
    any_from_yields_List (λ f. lists_close (named_value f)) _ _ _ c.any.ensures.ran (YieldsList-from_slice c.args.fields.now cc) (λ x b q k. search (rules, tests))
    ∙ any_named lists_close c.args.fields.now
