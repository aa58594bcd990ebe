use Rattle.std.proofs.Common.{◌++◌, ◌∙◌, ap}
use Rattle.std.specs.Prelude.{filter}
use Rattle.cdx_query.specs.Answers.{answer_text}
use Rattle.cdx_query.specs.Picking.{meets}
use Rattle.cdx_query.proofs.Starts.{are_met}
use Rattle.cdx_query.proofs.put.answer.Goals as goal

pub returns-clause-shown : goal.returns-clause-shown
returns-clause-shown c = λ shown start are.
    let query = c.args.query.now in
    let met = filter (meets query) c.args.entries.now in (
      met,
      are_met query shown c.args.entries.now start are,
      c.of.ensures ∙ c.in_ok-put_answer.ensures ∙ ap (λ t. t ++ answer_text query met) c.in_ok-out.ensures.items,
    )
