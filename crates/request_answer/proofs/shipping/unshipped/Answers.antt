-- There is nothing as yet, or a refusal.
use Rattle.request_answer.proofs.VisitLaws.{match_false, match_true}
use Rattle.request_answer.proofs.shipping.unshipped.Goals as goal

pub returns-then-is_next-clause-declines : goal.returns-then-is_next-clause-declines
returns-then-is_next-clause-declines c = match_true _ _ c.is_next.result _ c.is_next.ensures c.if-is_next.true c.nothing.ensures.text

pub returns-clause-declines : goal.returns-clause-declines
returns-clause-declines c =
    match_false _ _ c.is_next.result _ c.is_next.ensures c.if-is_next.false (rw c.why_unbrought.ensures at c.declined.ensures.declines)
