use Rattle.std.proofs.Common.{Bool, sym, subst}
use Rattle.message_body.specs.Slices.{IsLeft}
use Rattle.message_body.proofs.SliceLaws.{left_of_payload}
use Rattle.message_body.proofs.slices.Slices.of.Goals as goal

pub returns : goal.returns
returns c cut payload is =
    subst (λ (b : Bool). IsLeft b c.args.wire.now payload) (sym c.is_chunked.ensures) (left_of_payload cut c.args.framing c.args.wire.now payload is)
