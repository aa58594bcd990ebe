use Rattle.std.proofs.Common.{◌∙◌, rules, tests}
use Rattle.std.proofs.lemmas.Iterator.{YieldsList-from_slice}
use Rattle.std.proofs.lemmas.Iterator.Search.{any_from_yields_List}
use Rattle.http_head.specs.Heads.{named_value}
use Rattle.http_head.specs.declared.head.Field.{Field}
use Rattle.replay_answer.specs.Bodies.{tells_coding}
use Rattle.replay_answer.proofs.FieldLemmas.{any_coding}
use Rattle.replay_answer.proofs.body.has_coding.Goals as goal

pub returns : goal.returns
returns c =
    any_from_yields_List (λ (f : Field). tells_coding (named_value f)) _ _ _ c.any.ensures.ran (YieldsList-from_slice c.args.fields.now cc) (λ x b q k. search (rules, tests))
    ∙ any_coding c.args.fields.now
