use Rattle.std.proofs.Common.{inl, inr, sym, ◌∙◌}
use Rattle.warc_reader.proofs.BlockLaws.{no_fault, other_by_fault, other_by_rest, same_fault, whole_before}
use Rattle.warc_reader.proofs.blocks.feed_body.Goals as goal

pub returns-in-Err-clause-none : goal.returns-in-Err-clause-none
returns-in-Err-clause-none c = λ is.
    elim c.requires.standing [
      | inl still ↦
          other_by_fault c.decisions_stay.ensures.refusals c.args.reader.now.answers_head c.args.reader.now.stream c.args.rest.now
          c.feed.new.self.stream c.in-Err.fault c.in-Err.ensures.takes_some c.in-Err.ensures.refuses (c.in-Err.ensures.goes_on still)
          (sym c.block_fault.ensures ∙ same_fault c.block_fault.result is)
      | inr whole ↦ absurd (no_fault _ c.in-Err.fault (c.in-Err.ensures.again (inl whole)).0)
    ]

pub returns-then-fed-rest-clause-none : goal.returns-then-fed-rest-clause-none
returns-then-fed-rest-clause-none c = λ is.
    elim c.requires.standing [
      | inl still ↦
          other_by_rest c.decisions_stay.ensures.messages c.args.reader.now.answers_head c.args.reader.now.stream c.args.rest.now
          c.feed.new.self.stream c.in-Ok.fed.used c.if-fed-rest.true c.in-Ok.ensures.takes.stream_is
          (c.in-Ok.ensures.whole still (rw c.in-Whole.is at (c.in-Ok.ensures.leaves still)))
      | inr whole ↦
          whole_before c.decisions_stay.ensures.messages c.args.reader.now.answers_head c.args.reader.now.stream c.args.rest.now
          c.in-Ok.fed.used c.if-fed-rest.true (c.requires.whole whole)
    ]
