use Rattle.std.proofs.Common.{◌++◌, subst, sym, ap, ◌∙◌}
use Rattle.http_wire.specs.ResponseReading.{ResponseReading}
use Rattle.warc_reader.specs.Blocks.{IsOther}
use Rattle.warc_reader.proofs.BlockLaws.{other_by_fault, same_fault}
use Rattle.warc_reader.proofs.blocks.feed_block.Goals as goal

pub returns-in-Err-clause-none : goal.returns-in-Err-clause-none
returns-in-Err-clause-none c = λ is.
    subst (λ t. IsOther c.args.reader.now.answers_head (t ++ c.args.block.now)) (ap (λ (r : ResponseReading). r.stream) c.requires)
    (other_by_fault c.decisions_stay.ensures.refusals c.args.reader.now.answers_head c.args.reader.now.stream c.args.block.now c.feed.new.self.stream
    c.in-Err.fault c.in-Err.ensures.takes_some c.in-Err.ensures.refuses
    (c.in-Err.ensures.goes_on (ap (λ (r : ResponseReading). r.standing) c.requires)) (sym c.block_fault.ensures ∙ same_fault c.block_fault.result is))
