use Rattle.std.proofs.Common.{false}
use Rattle.http_head.proofs.FrontLaws.{heads_stay}
use Rattle.http_wire.proofs.RequestLaws.{open_parts, closed_agrees, closed_between, cut_agrees, closed_parts, closed_cut, closed_whole, same_parts}
use Rattle.http_wire.proofs.request.parts.RequestParts.end.Goals as goal

pub returns-then-ends_whole-clause-agrees : goal.returns-then-ends_whole-clause-agrees
returns-then-ends_whole-clause-agrees c =
    closed_agrees heads_stay c.args.self.now c.in-Open.body c.close_body.result false
    (open_parts c.args.self.now c.in-Open.body c.in-Open.ensures.value c.requires) c.close_body.ensures
    (c.ends_whole.ensures.whole c.if-ends_whole.true)

pub returns-then-ends_whole-clause-between : goal.returns-then-ends_whole-clause-between
returns-then-ends_whole-clause-between c = λ _.
    closed_between heads_stay c.args.self.now c.in-Open.body c.close_body.result
    (open_parts c.args.self.now c.in-Open.body c.in-Open.ensures.value c.requires) c.close_body.ensures
    (c.ends_whole.ensures.whole c.if-ends_whole.true)

pub returns-else-ends_whole-clause-agrees : goal.returns-else-ends_whole-clause-agrees
returns-else-ends_whole-clause-agrees c =
    cut_agrees heads_stay c.args.self.now c.in-Open.body
    (open_parts c.args.self.now c.in-Open.body c.in-Open.ensures.value c.requires)
    (c.ends_whole.ensures.cut c.if-ends_whole.false)

pub returns-then-cut-clause-agrees : goal.returns-then-cut-clause-agrees
returns-then-cut-clause-agrees c =
    closed_cut heads_stay c.args.self.now c.in-Closed.closed
    (closed_parts c.args.self.now c.in-Closed.closed c.in-Closed.ensures.value c.requires) c.if-cut.true

pub returns-else-cut-clause-agrees : goal.returns-else-cut-clause-agrees
returns-else-cut-clause-agrees c = same_parts c.args.self.now _ c.in-Closed.ensures.value c.requires

pub returns-else-cut-clause-between : goal.returns-else-cut-clause-between
returns-else-cut-clause-between c = λ _.
    closed_whole heads_stay c.args.self.now c.in-Closed.closed
    (closed_parts c.args.self.now c.in-Closed.closed c.in-Closed.ensures.value c.requires) c.if-cut.false
