use Rattle.message_body.proofs.NumberLaws.{same_answer}
use Rattle.message_body.proofs.number.Number.is_same.Goals as goal

pub returns : goal.returns
returns c =
    same_answer c.eq.result c.self.inside.digits.now c.other.inside.digits.now c.args.self.now c.args.other.now c.eq.ensures
    c.self.view_is c.other.view_is c.self.invariant c.other.invariant
