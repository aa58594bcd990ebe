use Rattle.std.proofs.Common.{take, arith}
use Rattle.body_reader.proofs.LineSteps.{len_at}
use Rattle.body_reader.proofs.PlaceLaws.{line_starts, line_fits, line_is_short}
use Rattle.body_reader.proofs.RunLaws.{none_in_text, size_line_run}
use Rattle.body_reader.proofs.runs.skip_size_line.Goals as goal

pub overflow_add-start : goal.overflow_add-start
overflow_add-start c =
    let len = len_at c.args.text.now c.args.at c.requires.inside in
    let low = line_starts c.args.start (take c.args.at c.args.text.now) c.requires.stands in omega arith

pub split_at-requires-2 : goal.split_at-requires-2
split_at-requires-2 c =
    let len = len_at c.args.text.now c.args.at c.requires.inside in
    let fits = line_fits c.args.start (take c.args.at c.args.text.now) c.requires.stands in
    let short = line_is_short c.args.start (take c.args.at c.args.text.now) c.requires.stands in omega arith

pub returns-clause-stands : goal.returns-clause-stands
returns-clause-stands c =
    size_line_run c.args.text.now c.args.at c.args.start c.run_len.result c.requires.stands
    (none_in_text c.args.text.now c.split_at.result.0.now c.split_at-2.result.1.now c.min-most.result c.args.at c.run_len.result
    c.split_at.ensures.front c.split_at-2.ensures.back c.run_len.ensures.fits c.run_len.ensures.none (omega arith) (omega arith))
    (omega arith) (omega arith) (omega arith)
