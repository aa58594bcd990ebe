use Rattle.body_reader.proofs.ChunkEndSteps.{over_at, no_lf_at, lf_at}
use Rattle.body_reader.proofs.chunks.end.step_line_end_cr.Goals as goal

pub returns-then-at-eq-BODY_LIMIT : goal.returns-then-at-eq-BODY_LIMIT
returns-then-at-eq-BODY_LIMIT c = over_at c.args.text.now c.args.at _ c.requires.inside c.requires.stands c.if-at-eq-BODY_LIMIT.true

pub returns-then-text-at-ne10 : goal.returns-then-text-at-ne10
returns-then-text-at-ne10 c =
    no_lf_at c.args.text.now c.args.at c.requires.inside c.requires.stands c.if-at-eq-BODY_LIMIT.false c.if-text-at-ne10.true

pub returns : goal.returns
returns c =
    lf_at c.args.text.now c.args.at c.requires.inside c.requires.stands c.if-at-eq-BODY_LIMIT.false c.if-text-at-ne10.false
