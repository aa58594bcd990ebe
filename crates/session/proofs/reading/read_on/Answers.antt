-- The head was looked at, and the body read.
use Rattle.outside.specs.Gate.{heard_of}
use Rattle.session.proofs.ReadLaws.{looked, looked_ends, well_asked}
use Rattle.session.proofs.reading.read_on.Goals as goal

pub returns-in-Err-clause-reads : goal.returns-in-Err-clause-reads
returns-in-Err-clause-reads g c t from taken =
    looked_ends c.args.site.now from c.args.reader.now.stream c.args.window.now c.in-Some.head.now
    (heard_of (g.L.Link.traffic c.args.client.now) (g.L.Link.faults c.args.client.now)) (heard_of (g.L.Link.traffic c.look_at.new.client) (g.L.Link.faults c.look_at.new.client)) c.in-Err.end
    c.in-Some.ensures.begins taken (c.in-Err.ensures.looks t)

pub returns-in-Err-read_body-clause-reads : goal.returns-in-Err-read_body-clause-reads
returns-in-Err-read_body-clause-reads g c t from taken =
    let looks = c.in-Ok.ensures.looks t in
    c.in-Err-read_body.ensures.reads t c.args.site.now from c.in-Some.head.now c.in-Ok.aim c.in-Some.ensures.some
    (looked c.args.site.now from c.args.reader.now.stream c.args.window.now c.in-Some.head.now c.in-Ok.aim
    (heard_of (g.L.Link.traffic c.args.client.now) (g.L.Link.faults c.args.client.now)) (heard_of (g.L.Link.traffic c.look_at.new.client) (g.L.Link.faults c.look_at.new.client))
    c.in-Some.ensures.begins taken looks.0 looks.1)

pub returns-in-Ok-read_body-clause-well : goal.returns-in-Ok-read_body-clause-well
returns-in-Ok-read_body-clause-well g c =
    well_asked c.args.site.now _ c.in-Some.head.now (c.in-Ok-read_body.ensures.behind c.in-Some.head.now c.in-Some.ensures.some)
    c.in-Ok.ensures.aimed c.in-Ok.ensures.short
