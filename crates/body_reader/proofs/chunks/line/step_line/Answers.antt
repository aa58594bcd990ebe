use Rattle.std.proofs.Common.{take, arith}
use Rattle.body_reader.proofs.PlaceLaws.{line_starts, line_fits, line_is_short}
use Rattle.body_reader.proofs.LineSteps.{len_at, line_over_at, line_too_long_at, line_goes_on_at}
use Rattle.body_reader.proofs.chunks.line.step_line.Goals as goal

pub returns-then-at-eq-BODY_LIMIT : goal.returns-then-at-eq-BODY_LIMIT
returns-then-at-eq-BODY_LIMIT c =
    line_over_at c.args.text.now c.args.at c.args.start c.requires.inside c.requires.stands c.if-at-eq-BODY_LIMIT.true

pub overflow_sub-come : goal.overflow_sub-come
overflow_sub-come c =
    omega (
      arith,
      line_starts c.args.start (take c.args.at c.args.text.now) c.requires.stands,
      len_at c.args.text.now c.args.at c.requires.inside,
    )

pub returns-then-come-eq-SIZE_LINE_LIMIT : goal.returns-then-come-eq-SIZE_LINE_LIMIT
returns-then-come-eq-SIZE_LINE_LIMIT c =
    let len = len_at c.args.text.now c.args.at c.requires.inside in
    let low = line_starts c.args.start (take c.args.at c.args.text.now) c.requires.stands in
    let fits = line_fits c.args.start (take c.args.at c.args.text.now) c.requires.stands in
    line_too_long_at c.args.text.now c.args.at c.args.start c.requires.inside c.requires.stands (omega arith) (omega arith)

pub returns-then-text-at-ne10 : goal.returns-then-text-at-ne10
returns-then-text-at-ne10 c =
    let len = len_at c.args.text.now c.args.at c.requires.inside in
    let low = line_starts c.args.start (take c.args.at c.args.text.now) c.requires.stands in
    let fits = line_fits c.args.start (take c.args.at c.args.text.now) c.requires.stands in
    let short = line_is_short c.args.start (take c.args.at c.args.text.now) c.requires.stands in
    line_goes_on_at c.args.text.now c.args.at c.args.start c.requires.inside c.requires.stands (omega arith) (omega arith)
    c.if-text-at-ne10.true

pub judge_line-requires : goal.judge_line-requires
judge_line-requires c =
    let len = len_at c.args.text.now c.args.at c.requires.inside in
    let low = line_starts c.args.start (take c.args.at c.args.text.now) c.requires.stands in
    let fits = line_fits c.args.start (take c.args.at c.args.text.now) c.requires.stands in
    let short = line_is_short c.args.start (take c.args.at c.args.text.now) c.requires.stands in
    record {
      inside = c.requires.inside;
      stands = c.requires.stands;
      ends = c.if-text-at-ne10.false;
      room = omega arith;
      short = omega arith;
    }
