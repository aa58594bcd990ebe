-- The head was written and then the body, or a write of one of them failed.
use Rattle.std.proofs.Common.{ℕ, subst}
use Rattle.capture.specs.Faults.{CountsFaults}
use Rattle.outside.specs.Gate.{heard_of}
use Rattle.request_answer.proofs.WireLaws.{breaks_first, said_both}
use Rattle.request_answer.proofs.saying.say_both.Goals as goal

pub returns-in-Ok-clause-says : goal.returns-in-Ok-clause-says
returns-in-Ok-clause-says g c t =
    said_both c.args.head.now c.args.body.now (heard_of (g.L.Link.traffic c.args.client.now) (g.L.Link.faults c.args.client.now))
    (heard_of (g.L.Link.traffic c.say.new.client) (g.L.Link.faults c.say.new.client))
    (heard_of (g.L.Link.traffic c.say-in-Ok.new.client) (g.L.Link.faults c.say-in-Ok.new.client)) c.say-in-Ok.result
    (c.in-Ok.ensures.says t) (c.say-in-Ok.ensures.says t)

pub returns-in-Err-clause-says : goal.returns-in-Err-clause-says
returns-in-Err-clause-says g c t =
    breaks_first c.args.head.now c.args.body.now (heard_of (g.L.Link.traffic c.args.client.now) (g.L.Link.faults c.args.client.now))
    (heard_of (g.L.Link.traffic c.say.new.client) (g.L.Link.faults c.say.new.client)) (c.in-Err.ensures.says t)

pub returns-in-Ok-clause-counts : goal.returns-in-Ok-clause-counts
returns-in-Ok-clause-counts g c =
    subst (λ (n : ℕ). CountsFaults n (g.L.Link.faults c.say-in-Ok.new.client) c.say-in-Ok.result) c.in-Ok.ensures.counts.steady c.say-in-Ok.ensures.counts
