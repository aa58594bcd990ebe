-- A head may have come with the fault.
use Rattle.std.proofs.Common.{[]}
use Rattle.outside.specs.Gate.{heard_of}
use Rattle.session.proofs.ReadLaws.{faulty_taken, faulty_written, looked_ends, owes_held, owes_none}
use Rattle.session.proofs.reading.turn_back.Goals as goal

pub returns-in-None-clause-ends : goal.returns-in-None-clause-ends
returns-in-None-clause-ends g c t from h =
    c.turn_away.ensures.ends t c.args.site.now from [] (owes_none c.args.site.now c.args.reader.now.head c.in-None.ensures.none) h

pub returns-in-Err-clause-ends : goal.returns-in-Err-clause-ends
returns-in-Err-clause-ends g c t from h =
    let taken = faulty_taken from c.args.reader.now.stream (heard_of (g.L.Link.traffic c.args.client.now) (g.L.Link.faults c.args.client.now)) h in
    looked_ends c.args.site.now from c.args.reader.now.stream taken.0 c.in-Some.head.now
    (heard_of (g.L.Link.traffic c.args.client.now) (g.L.Link.faults c.args.client.now)) (heard_of (g.L.Link.traffic c.look_at.new.client) (g.L.Link.faults c.look_at.new.client)) c.in-Err.end
    c.in-Some.ensures.begins taken.1 (c.in-Err.ensures.looks t)

pub returns-clause-ends : goal.returns-clause-ends
returns-clause-ends g c t from h =
    let looks = c.in-Ok.ensures.looks t in
    c.turn_away-2.ensures.ends t c.args.site.now from _
    (owes_held c.args.site.now c.args.reader.now.head c.in-Some.head.now c.in-Ok.aim c.in-Some.ensures.some looks.0)
    (faulty_written from c.args.reader.now.stream _ (heard_of (g.L.Link.traffic c.args.client.now) (g.L.Link.faults c.args.client.now)) (heard_of (g.L.Link.traffic c.look_at.new.client) (g.L.Link.faults c.look_at.new.client)) h looks.1)
