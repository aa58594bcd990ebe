use Rattle.std.proofs.Common.{ℕ, List, Err, ap}
use Rattle.record_opening.specs.Stops.{Refuses}
use Rattle.record_opening.proofs.Exits.{at_exit}
use Rattle.warc_scan.specs.declared.group.Group.{Group}
use Rattle.warc_scan.specs.steps.Founds.{AsksByStop}
use Rattle.warc_scan.specs.Groups.{IsGroup}
use Rattle.warc_scan.proofs.ReadLaws.{asked_by, found_is, refused_by}
use Rattle.warc_scan.proofs.find.read_group.Goals as goal

pub read_messages-requires : goal.read_messages-requires
read_messages-requires c = found_is c.args.namespace.now c.args.number c.args.bytes.now c.in-Ok.found c.in-Ok.ensures.ok

pub returns-in_err-method-clause-err : goal.returns-in_err-method-clause-err
returns-in_err-method-clause-err c =
    at_exit (λ s. (text : List ℕ) (group : Group) → IsGroup c.args.namespace.now c.args.number text group → Refuses s c.args.bytes.now text)
    _ c.from_residual.result c.from_residual.ensures.1
    (refused_by c.args.namespace.now c.args.number c.args.bytes.now c.in-Ok.found c.in-Ok.ensures.ok _ c.in_err-method.ensures.stops
    (λ is. c.in_err-method.ensures.wrong (ap Err is)))

pub returns-in_err-method-clause-asks : goal.returns-in_err-method-clause-asks
returns-in_err-method-clause-asks c =
    at_exit (AsksByStop c.args.namespace.now c.args.number c.args.bytes.now) _ c.from_residual.result c.from_residual.ensures.1
    (asked_by c.args.namespace.now c.args.number c.args.bytes.now _ c.in_err-method.ensures.stops)
