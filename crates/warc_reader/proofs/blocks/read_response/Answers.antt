use Rattle.std.proofs.Common.{ap, subst, ◌∙◌}
use Rattle.http_wire.specs.ResponseReading.{ResponseReading}
use Rattle.warc_reader.specs.Blocks.{IsOther, answered}
use Rattle.warc_reader.proofs.BlockLaws.{none_by_other, other_result}
use Rattle.warc_reader.proofs.blocks.read_response.Goals as goal

pub returns-clause-none : goal.returns-clause-none
returns-clause-none c = λ is.
    none_by_other c.decisions_are_one.ensures.firsts c.ended_bodies_are_cut.ensures.needs_body
    (answered c.args.method.now c.args.truncated c.args.block.now)
    (subst (λ answers_head. IsOther answers_head c.args.block.now) (ap (λ (r : ResponseReading). r.answers_head) c.new-reader.ensures ∙ c.eq.ensures)
    (c.in-Err.ensures.none (other_result c.in-Err.fault is)))
