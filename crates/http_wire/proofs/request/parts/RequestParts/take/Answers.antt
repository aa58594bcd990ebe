use Rattle.std.proofs.Common.{sym, ◌∙◌}
use Rattle.http_head.proofs.FrontLaws.{heads_stay}
use Rattle.http_wire.proofs.RequestLaws.{closed_parts, closed_has_head, whole_request}
use Rattle.http_wire.proofs.request.parts.RequestParts.take.Goals as goal

pub unreachable-requires : goal.unreachable-requires
unreachable-requires c =
    closed_has_head heads_stay c.args.self.now c.in-Closed.closed
    (closed_parts c.args.self.now c.in-Closed.closed c.in-Closed.ensures.value c.requires.agrees)
    (sym c.take.ensures.value ∙ c.in-None.is)

pub returns-in-Some-clause-ok : goal.returns-in-Some-clause-ok
returns-in-Some-clause-ok c =
    whole_request heads_stay c.args.self.now c.in-Closed.closed c.in-Some.head c.in-Ok.payload
    c.in-Closed.ensures.value c.requires.agrees c.requires.whole (sym c.in-Some.is ∙ c.take.ensures.value) c.in-Ok.ensures.ok
