use Rattle.record_opening.proofs.LineSplits.{line_found, without_return}
use Rattle.record_opening.proofs.fields.split_line.Goals as goal

pub returns-in-Some-clause-some : goal.returns-in-Some-clause-some
returns-in-Some-clause-some c =
    line_found c.args.bytes.now c.split_at.result.0.now c.split_at.result.1.now c.in-Some.end c.split_at.ensures.front c.split_at.ensures.back
    c.in-Some.ensures.0 c.in-Some.ensures.1

pub returns-in-None-clause-none : goal.returns-in-None-clause-none
returns-in-None-clause-none c = without_return c.args.bytes.now c.in-None.ensures
