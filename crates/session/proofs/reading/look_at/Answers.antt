-- A head that goes nowhere.
use Rattle.outside.specs.Gate.{heard_of}
use Rattle.session.proofs.ReadLaws.{aim_ends}
use Rattle.session.proofs.reading.look_at.Goals as goal

pub returns-in-Err-clause-looks : goal.returns-in-Err-clause-looks
returns-in-Err-clause-looks g c t =
    aim_ends c.args.site.now c.args.head.now c.in-Err.fault c.asks_for_head.result
    (heard_of (g.L.Link.traffic c.args.client.now) (g.L.Link.faults c.args.client.now))
    (heard_of (g.L.Link.traffic c.refuse_aim.new.client) (g.L.Link.faults c.refuse_aim.new.client)) c.refuse_aim.result
    c.in-Err.ensures.aim c.asks_for_head.ensures (c.refuse_aim.ensures.ends t)
