use Rattle.body_reader.proofs.ChunkEndSteps.{over_at, no_cr_at, cr_at}
use Rattle.body_reader.proofs.chunks.end.step_line_end.Goals as goal

pub returns-then-at-eq-BODY_LIMIT : goal.returns-then-at-eq-BODY_LIMIT
returns-then-at-eq-BODY_LIMIT c = over_at c.args.text.now c.args.at _ c.requires.inside c.requires.stands c.if-at-eq-BODY_LIMIT.true

pub returns-then-text-at-ne13 : goal.returns-then-text-at-ne13
returns-then-text-at-ne13 c =
    no_cr_at c.args.text.now c.args.at c.requires.inside c.requires.stands c.if-at-eq-BODY_LIMIT.false c.if-text-at-ne13.true

pub returns : goal.returns
returns c =
    cr_at c.args.text.now c.args.at c.requires.inside c.requires.stands c.if-at-eq-BODY_LIMIT.false c.if-text-at-ne13.false
