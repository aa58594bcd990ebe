use Rattle.std.proofs.Common.{ap, length, sym, ◌∙◌, arith}
use Rattle.warc_reader.specs.Blocks.{answered}
use Rattle.warc_reader.proofs.BlockLaws.{block_holds, none_by_mark, none_by_place, none_by_status}
use Rattle.warc_reader.proofs.blocks.keep.Goals as goal

pub returns-then-received-lt-LEAST_FINAL-clause-none : goal.returns-then-received-lt-LEAST_FINAL-clause-none
returns-then-received-lt-LEAST_FINAL-clause-none c = λ is.
    none_by_status c.heads_end_at_the_first_empty_line.ensures.responses (answered c.args.method.now c.args.truncated c.args.block.now) c.args.received
    c.requires.message c.if-received-lt-LEAST_FINAL.true

pub returns-then-as_slice-block-clause-none : goal.returns-then-as_slice-block-clause-none
returns-then-as_slice-block-clause-none c = λ is.
    none_by_place c.heads_end_at_the_first_empty_line.ensures.responses (answered c.args.method.now c.args.truncated c.args.block.now) c.args.received
    c.requires.message
    (λ e. c.if-as_slice-block.true (omega (arith, ap length c.as_slice.ensures, ap length c.as_slice-2.ensures, e)))

pub returns-then-is_unmarked-clause-none : goal.returns-then-is_unmarked-clause-none
returns-then-is_unmarked-clause-none c = λ is.
    none_by_mark c.decisions_are_one.ensures.firsts c.ended_bodies_are_cut.ensures.needs_body
    (answered c.args.method.now c.args.truncated c.args.block.now) c.args.received.cut c.requires.stands
    (sym c.is_unmarked.ensures ∙ c.if-is_unmarked.true)

pub returns-clause-ok : goal.returns-clause-ok
returns-clause-ok c =
    block_holds c.responses_can_be_stored.ensures (answered c.args.method.now c.args.truncated c.args.block.now) c.args.received
    c.requires.message c.requires.stands c.if-received-lt-LEAST_FINAL.false
    (omega (arith, ap length c.as_slice.ensures, ap length c.as_slice-2.ensures, c.if-as_slice-block.false))
    (sym c.is_unmarked.ensures ∙ c.if-is_unmarked.false)
