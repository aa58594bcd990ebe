use Rattle.std.proofs.Common.{sym, ◌∙◌}
use Rattle.http_head.proofs.FrontLaws.{heads_stay}
use Rattle.message_body.proofs.HeldLaws.{held_is_body}
use Rattle.http_wire.proofs.ResponseLaws.{closed_parts, closed_has_head, whole_response}
use Rattle.http_wire.proofs.response.parts.ResponseParts.take.Goals as goal

pub unreachable-requires : goal.unreachable-requires
unreachable-requires c =
    closed_has_head c.args.answers_head heads_stay c.args.self.now c.in-Closed.closed
    (closed_parts c.args.answers_head c.args.self.now c.in-Closed.closed c.in-Closed.ensures.value c.requires.agrees)
    (sym c.take.ensures.value ∙ c.in-None.is)

pub returns-clause-message : goal.returns-clause-message
returns-clause-message c =
    whole_response c.args.answers_head heads_stay held_is_body c.args.self.now
    c.in-Closed.closed c.in-Some.head c.in-Closed.ensures.value c.requires.agrees (sym c.in-Some.is ∙ c.take.ensures.value)
