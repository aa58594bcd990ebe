use Rattle.message_body.proofs.HeldLaws.{held_is_body}
use Rattle.message_body.proofs.laws.held_bodies_are_bodies.Goals as goal

pub returns : goal.returns
returns c = held_is_body
