use Rattle.std.proofs.Common.{sym, subst}
use Rattle.warc_scan.specs.Asking.{AsksForGroup}
use Rattle.warc_scan.specs.Answers.{TellsGroup}
use Rattle.warc_scan.proofs.StepLaws.{step_asks, step_tells}
use Rattle.warc_scan.proofs.scan_group.next_group.Goals as goal

pub returns-in-Err-clause-tells : goal.returns-in-Err-clause-tells
returns-in-Err-clause-tells c =
    subst (TellsGroup c.args.namespace.now c.args.number c.args.more c.args.bytes.now) (sym c.no_group.ensures)
    (step_tells c.args.namespace.now c.args.number c.args.bytes.now c.args.more c.in-Err.why c.in-Err.ensures.none)

pub returns-in-Err-clause-asks : goal.returns-in-Err-clause-asks
returns-in-Err-clause-asks c =
    subst (AsksForGroup c.args.namespace.now c.args.number c.args.bytes.now) (sym c.no_group.ensures)
    (step_asks c.args.namespace.now c.args.number c.args.bytes.now c.in-Err.why c.in-Err.ensures.asks)
