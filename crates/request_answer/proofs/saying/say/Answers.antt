-- A write of the text failed.
use Rattle.request_answer.proofs.WireLaws.{breaks}
use Rattle.request_answer.proofs.saying.say.Goals as goal

pub returns-in-Err-clause-says : goal.returns-in-Err-clause-says
returns-in-Err-clause-says g c t =
    breaks c.args.text.now (g.L.Link.traffic c.args.client.now) (g.L.Link.traffic c.write_all.new.link)
    (g.L.Link.faults c.args.client.now) (g.L.Link.faults c.write_all.new.link)
    (c.in-Err.ensures.breaks_off t) (c.in-Err.ensures.takes_front t) c.in-Err.ensures.counts.rose
