use Rattle.std.proofs.Common.{sym, subst}
use Rattle.record_opening.specs.FirstOpenings.{AsksForOpening, TellsNoOpening}
use Rattle.record_opening.proofs.FirstLaws.{asks_none, begun_asks, begun_tells, tells_none}
use Rattle.warc_scan.proofs.GroupOpenings.{group_opening}
use Rattle.warc_scan.proofs.scan_opening.next_opening.Goals as goal

pub returns-in-Begun-clause-none : goal.returns-in-Begun-clause-none
returns-in-Begun-clause-none c = begun_tells c.args.namespace.now c.args.number c.args.bytes.now c.args.more c.in-Begun.ensures.0 c.in-Begun.ensures.1

pub returns-in-Begun-clause-asks : goal.returns-in-Begun-clause-asks
returns-in-Begun-clause-asks c = begun_asks c.args.namespace.now c.args.number c.args.bytes.now c.in-Begun.ensures.1

pub returns-in-Ok-clause-group : goal.returns-in-Ok-clause-group
returns-in-Ok-clause-group c = group_opening c.args.namespace.now c.args.number c.args.bytes.now c.in-Ok.first c.in-Ok.ensures.ok

pub returns-in-Err-clause-none : goal.returns-in-Err-clause-none
returns-in-Err-clause-none c =
    subst (TellsNoOpening c.args.namespace.now c.args.number c.args.more c.args.bytes.now) (sym c.by.ensures)
    (tells_none c.args.namespace.now c.args.number c.args.bytes.now c.in-Err.stop c.args.more c.in-Committed.ensures.1 c.in-Err.ensures.err)

pub returns-in-Err-clause-asks : goal.returns-in-Err-clause-asks
returns-in-Err-clause-asks c =
    subst (AsksForOpening c.args.namespace.now c.args.number c.args.bytes.now) (sym c.by.ensures)
    (asks_none c.args.namespace.now c.args.number c.args.bytes.now c.in-Err.stop c.args.more c.in-Err.ensures.err)
