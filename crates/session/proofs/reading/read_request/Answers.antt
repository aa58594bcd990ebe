-- The word that a request is awaited changes nothing of what the client's link tells.
use Rattle.outside.specs.Gate.{heard_of}
use Rattle.session.proofs.ReadLaws.{reads_of_same}
use Rattle.session.proofs.reading.read_request.Goals as goal

pub returns-clause-reads : goal.returns-clause-reads
returns-clause-reads g c t =
    reads_of_same c.args.site.now c.args.window.now (g.L.Link.traffic c.args.client.now) (g.L.Link.traffic c.await_request.new.client)
    (g.L.Link.faults c.args.client.now) (g.L.Link.faults c.await_request.new.client)
    (record { heard = heard_of (g.L.Link.traffic c.read_next.new.client) (g.L.Link.faults c.read_next.new.client); pending = c.read_next.new.window })
    c.read_next.result (c.await_request.ensures.same_traffic t) c.await_request.ensures.same_faults (c.read_next.ensures.reads t)

pub returns-clause-broke : goal.returns-clause-broke
returns-clause-broke g c = rw c.await_request.ensures.same_faults at c.read_next.ensures.broke
