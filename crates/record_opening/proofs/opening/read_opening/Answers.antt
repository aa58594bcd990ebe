use Rattle.record_opening.specs.Openings.{IsOpening, opening_text}
use Rattle.record_opening.specs.Stops.{NoneStands}
use Rattle.record_opening.proofs.Exits.{at_exit}
use Rattle.record_opening.proofs.opening.read_opening.Goals as goal

pub returns-in_err-kind-clause-err : goal.returns-in_err-kind-clause-err
returns-in_err-kind-clause-err c =
    at_exit (λ s. NoneStands IsOpening (opening_text c.args.id.now) s c.args.bytes.now) _ c.from_residual.result c.from_residual.ensures.1
    (c.in_err-kind.ensures.err c.args.id.now)
