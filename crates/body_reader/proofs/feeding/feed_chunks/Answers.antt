use Rattle.std.proofs.Common.{◌∙◌, arith, rules}
use Rattle.body_reader.proofs.FeedLaws.{taken_to, cut_before}
use Rattle.body_reader.proofs.feeding.feed_chunks.Goals as goal

pub returns-in-Ok-clause-takes : goal.returns-in-Ok-clause-takes
returns-in-Ok-clause-takes c =
    taken_to c.args.wire.now.items c.args.piece.now c.extend_from_slice.new.self.items c.truncate.new.self.items c.len-from.result
    c.in-Ok.step.at (c.len-from.ensures ∙ search rules) c.in-Ok.ensures.low c.in_ok-extend_from_slice.ensures.items c.truncate.ensures.items

pub returns-in-Ok-clause-soonest : goal.returns-in-Ok-clause-soonest
returns-in-Ok-clause-soonest c = λ ended some.
    cut_before c.args.wire.now.items c.args.piece.now c.as_slice.result.now c.len-from.result c.in-Ok.step.at
    (c.len-from.ensures ∙ search rules) (omega (arith, some)) (c.as_slice.ensures.value ∙ c.in_ok-extend_from_slice.ensures.items)
    (c.in-Ok.ensures.soonest ended (omega (arith, some)))
