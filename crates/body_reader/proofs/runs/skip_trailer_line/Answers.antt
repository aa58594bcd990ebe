use Rattle.std.proofs.Common.{take, arith}
use Rattle.body_reader.specs.declared.trailer.TrailerPlace.TheVariants.{InLine}
use Rattle.body_reader.proofs.ChunkTrailerLaws.{trailer_fits}
use Rattle.body_reader.proofs.LineSteps.{len_at}
use Rattle.body_reader.proofs.RunLaws.{none_in_text, trailer_line_run}
use Rattle.body_reader.proofs.runs.skip_trailer_line.Goals as goal

pub overflow_add-start : goal.overflow_add-start
overflow_add-start c =
    let len = len_at c.args.text.now c.args.at c.requires.inside in
    let place = c.requires.stands.start_is in omega arith

pub split_at-requires-2 : goal.split_at-requires-2
split_at-requires-2 c =
    let len = len_at c.args.text.now c.args.at c.requires.inside in
    let place = c.requires.stands.start_is in
    let fits = trailer_fits c.args.start InLine (take c.args.at c.args.text.now) c.requires.stands in
    let short = c.requires.stands.cut.within.begun.1 in omega arith

pub returns-clause-stands : goal.returns-clause-stands
returns-clause-stands c =
    trailer_line_run c.args.text.now c.args.at c.args.start c.run_len.result c.requires.stands
    (none_in_text c.args.text.now c.split_at.result.0.now c.split_at-2.result.1.now c.min-most.result c.args.at c.run_len.result
    c.split_at.ensures.front c.split_at-2.ensures.back c.run_len.ensures.fits c.run_len.ensures.none (omega arith) (omega arith))
    (omega arith) (omega arith) (omega arith)
