use Rattle.std.proofs.Common.{None, refl, sym, subst}
use Rattle.capture.specs.First.{Requests}
use Rattle.http_head.proofs.FrontLaws.{heads_stay}
use Rattle.http_wire.specs.HeldBodies.{standing_of}
use Rattle.http_wire.specs.Parts.{request_bytes}
use Rattle.http_wire.specs.Reading.{Stands}
use Rattle.http_wire.proofs.HeldLaws.{agrees_stand}
use Rattle.http_wire.proofs.StandingLaws.{takes_nothing}
use Rattle.http_wire.proofs.request.reader.RequestReader.feed.Goals as goal

pub returns-in-Ok-clause-stands : goal.returns-in-Ok-clause-stands
returns-in-Ok-clause-stands c =
    let now = c.feed.new.self in
    subst (λ f. Stands Requests (request_bytes now) (standing_of f now.held)) (sym c.in-None.is)
    (agrees_stand heads_stay Requests now.front now.held None c.in-Ok.ensures.agrees.body)

pub returns-in-Some-clause-takes_some : goal.returns-in-Some-clause-takes_some
returns-in-Some-clause-takes_some c =
    (0, takes_nothing Requests c.args.self.now.stream c.args.piece.now c.args.self.now.stream refl)
