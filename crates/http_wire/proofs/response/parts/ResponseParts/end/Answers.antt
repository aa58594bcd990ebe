use Rattle.std.proofs.Common.{false, true, inl, inr, ap}
use Rattle.http_head.proofs.FrontLaws.{heads_stay}
use Rattle.http_wire.specs.HeldBodies.{held_standing}
use Rattle.http_wire.proofs.HeldLaws.{closed_ends}
use Rattle.http_wire.proofs.ResponseLaws.{open_parts, closed_agrees, same_parts, front_parts, ended_front}
use Rattle.http_wire.proofs.response.parts.ResponseParts.end.Goals as goal

pub returns-in-Before-clause-agrees : goal.returns-in-Before-clause-agrees
returns-in-Before-clause-agrees c =
    let front = front_parts c.args.answers_head c.args.self.now c.in-Before.ensures.value c.requires in
    ended_front c.args.answers_head _ front.0 front.1 c.replace.ensures.after

pub returns-then-ends_whole-clause-agrees : goal.returns-then-ends_whole-clause-agrees
returns-then-ends_whole-clause-agrees c =
    closed_agrees c.args.answers_head heads_stay c.args.self.now c.in-Open.body c.close_body-whole.result false
    (open_parts c.args.answers_head c.args.self.now c.in-Open.body c.in-Open.ensures.value c.requires) c.close_body-whole.ensures
    (c.ends_whole.ensures.whole c.if-ends_whole.true)

pub returns-then-ends_whole-clause-ended : goal.returns-then-ends_whole-clause-ended
returns-then-ends_whole-clause-ended c = λ _. inl (ap held_standing c.close_body-whole.ensures)

pub returns-else-ends_whole-clause-agrees : goal.returns-else-ends_whole-clause-agrees
returns-else-ends_whole-clause-agrees c =
    closed_agrees c.args.answers_head heads_stay c.args.self.now c.in-Open.body c.close_body-cut.result true
    (open_parts c.args.answers_head c.args.self.now c.in-Open.body c.in-Open.ensures.value c.requires) c.close_body-cut.ensures
    (c.ends_whole.ensures.cut c.if-ends_whole.false)

pub returns-else-ends_whole-clause-ended : goal.returns-else-ends_whole-clause-ended
returns-else-ends_whole-clause-ended c = λ _. inr (ap held_standing c.close_body-cut.ensures)

pub returns-in-Closed-clause-agrees : goal.returns-in-Closed-clause-agrees
returns-in-Closed-clause-agrees c = same_parts c.args.answers_head c.args.self.now _ c.in-Closed.ensures.value c.requires

pub returns-in-Closed-clause-ended : goal.returns-in-Closed-clause-ended
returns-in-Closed-clause-ended c = λ _. closed_ends c.in-Closed.closed.cut
