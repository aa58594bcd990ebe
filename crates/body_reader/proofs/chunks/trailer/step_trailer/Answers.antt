use Rattle.std.proofs.Common.{take, subst, sym, ◌+◌, ◌∙◌}
use Rattle.body_reader.specs.steps.ChunkPlaces.{InTrailerAt}
use Rattle.body_reader.proofs.ChunkTrailerSteps.{TrailerByte, too_long_at, over_at, goes_on_at}
use Rattle.body_reader.proofs.chunks.trailer.step_trailer.Goals as goal

pub returns-then-come-gt-HEAD_LIMIT : goal.returns-then-come-gt-HEAD_LIMIT
returns-then-come-gt-HEAD_LIMIT c =
    let byte : TrailerByte c.args.text.now c.args.at c.args.start c.args.place = record { inside = c.requires.inside; stands = c.requires.stands } in
    too_long_at c.args.text.now c.args.at c.args.start c.args.place byte c.if-come-gt-HEAD_LIMIT.true

pub returns-then-at-eq-BODY_LIMIT : goal.returns-then-at-eq-BODY_LIMIT
returns-then-at-eq-BODY_LIMIT c =
    let byte : TrailerByte c.args.text.now c.args.at c.args.start c.args.place = record { inside = c.requires.inside; stands = c.requires.stands } in
    over_at c.args.text.now c.args.at c.args.start c.args.place byte c.if-come-gt-HEAD_LIMIT.false (λ e. c.in_default.not-Ended (c.after-next.ensures ∙ e))
    c.if-at-eq-BODY_LIMIT.true

pub returns : goal.returns
returns c =
    let byte : TrailerByte c.args.text.now c.args.at c.args.start c.args.place = record { inside = c.requires.inside; stands = c.requires.stands } in
    subst (λ p. InTrailerAt c.args.start p (take (c.args.at + 1) c.args.text.now)) (sym c.after-next.ensures)
    (goes_on_at c.args.text.now c.args.at c.args.start c.args.place byte c.if-come-gt-HEAD_LIMIT.false (λ e. c.in_default.not-Ended (c.after-next.ensures ∙ e))
    c.if-at-eq-BODY_LIMIT.false)
