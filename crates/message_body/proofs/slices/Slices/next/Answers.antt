use Rattle.std.proofs.Common.{Bool, subst}
use Rattle.message_body.specs.Slices.{IsLeft}
use Rattle.message_body.proofs.slices.Slices.next.Goals as goal

pub returns-then-self-clause-front : goal.returns-then-self-clause-front
returns-then-self-clause-front c left is =
    c.next_chunk.ensures.front left (subst (λ (b : Bool). IsLeft b c.args.self.now.rest.now left) c.if-self.true is)
