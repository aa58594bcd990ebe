use Rattle.http_head.proofs.FrontLaws.{heads_stay}
use Rattle.http_wire.proofs.RequestLaws.{open_parts, body_agrees, body_takes, body_takes_some, body_reaches, body_whole, body_heads, same_parts}
use Rattle.http_wire.proofs.request.parts.RequestParts.feed.Goals as goal

pub returns-in-Open-clause-agrees : goal.returns-in-Open-clause-agrees
returns-in-Open-clause-agrees c =
    body_agrees heads_stay c.args.self.now c.in-Open.body c.feed_body-step.result.came
    c.feed_body-step.result.held (open_parts c.args.self.now c.in-Open.body c.in-Open.ensures.value c.requires)
    c.feed_body-step.ensures.holds

pub returns-in-Open-clause-takes : goal.returns-in-Open-clause-takes
returns-in-Open-clause-takes c =
    body_takes heads_stay c.args.self.now c.in-Open.body c.args.piece.now c.feed_body-step.result.came
    c.feed_body-step.result.held (open_parts c.args.self.now c.in-Open.body c.in-Open.ensures.value c.requires)
    c.feed_body-step.ensures.takes

pub returns-in-Open-clause-takes_some : goal.returns-in-Open-clause-takes_some
returns-in-Open-clause-takes_some c =
    body_takes_some heads_stay c.args.self.now c.in-Open.body c.args.piece.now c.feed_body-step.result.came
    c.feed_body-step.result.held (open_parts c.args.self.now c.in-Open.body c.in-Open.ensures.value c.requires)
    c.feed_body-step.ensures.takes_some

pub returns-in-Open-clause-reaches : goal.returns-in-Open-clause-reaches
returns-in-Open-clause-reaches c = λ _.
    body_reaches heads_stay c.args.self.now c.in-Open.body c.feed_body-step.result.came
    c.feed_body-step.result.held (open_parts c.args.self.now c.in-Open.body c.in-Open.ensures.value c.requires)
    c.feed_body-step.ensures.holds

pub returns-in-Open-clause-heads : goal.returns-in-Open-clause-heads
returns-in-Open-clause-heads c = λ _.
    body_heads heads_stay c.args.self.now c.in-Open.body c.feed_body-step.result.came
    c.feed_body-step.result.held (open_parts c.args.self.now c.in-Open.body c.in-Open.ensures.value c.requires)
    c.feed_body-step.ensures.holds

pub returns-in-Closed-clause-agrees : goal.returns-in-Closed-clause-agrees
returns-in-Closed-clause-agrees c = same_parts c.args.self.now _ c.in-Closed.ensures.value c.requires

pub returns-in-Open-clause-whole : goal.returns-in-Open-clause-whole
returns-in-Open-clause-whole c = λ _.
    body_whole heads_stay c.args.self.now c.in-Open.body c.feed_body-step.result.came
    c.feed_body-step.result.held (open_parts c.args.self.now c.in-Open.body c.in-Open.ensures.value c.requires)
    c.feed_body-step.ensures.holds
