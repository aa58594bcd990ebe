use Rattle.std.proofs.Common.{None, sym, ap, subst}
use Rattle.capture.specs.First.{Responses}
use Rattle.http_head.proofs.FrontLaws.{heads_stay}
use Rattle.http_wire.specs.HeldBodies.{standing_of}
use Rattle.http_wire.specs.Parts.{response_bytes}
use Rattle.http_wire.specs.Reading.{Stands}
use Rattle.http_wire.proofs.HeldLaws.{agrees_stand}
use Rattle.http_wire.proofs.response.reader.ResponseReader.end.Goals as goal

pub returns-then-end-clause-stands : goal.returns-then-end-clause-stands
returns-then-end-clause-stands c =
    let now = c.end.new.self in
    subst (λ ah. Stands (Responses ah) (response_bytes now) (standing_of c.self.inside.fault now.held)) (ap (λ r. r.answers_head) c.self.view_is)
    (subst (λ f. Stands (Responses c.self.inside.answers_head) (response_bytes now) (standing_of f now.held)) (sym c.in-None.is)
    (agrees_stand heads_stay (Responses c.self.inside.answers_head) now.front now.held None c.if-end.ensures.agrees.body))
