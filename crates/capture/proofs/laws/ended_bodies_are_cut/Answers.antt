-- The head stands at the front, and the body is to go on.
use Rattle.capture.proofs.CutResponseLaws.{cut_needs_body, ended_is_cut}
use Rattle.capture.proofs.laws.ended_bodies_are_cut.Goals as goal

pub returns-clause-needs_body : goal.returns-clause-needs_body
returns-clause-needs_body c = cut_needs_body

pub returns-clause-holds_cut : goal.returns-clause-holds_cut
returns-clause-holds_cut c = ended_is_cut
