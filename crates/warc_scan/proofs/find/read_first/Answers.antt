use Rattle.std.proofs.Common.{sym, subst}
use Rattle.warc_text.proofs.GroupLaws.{groups_are_committed}
use Rattle.warc_scan.specs.Asking.{AsksForMore}
use Rattle.warc_scan.specs.Answers.{TellsNoGroup}
use Rattle.warc_scan.proofs.StepLaws.{asks_none, begun_asks, needs_second_byte, tells_none}
use Rattle.warc_scan.proofs.find.read_first.Goals as goal

pub returns-in-Begun-clause-tells : goal.returns-in-Begun-clause-tells
returns-in-Begun-clause-tells c =
    needs_second_byte c.args.namespace.now c.args.number c.args.bytes.now c.args.more c.in-Begun.ensures.0 groups_are_committed c.in-Begun.ensures.1

pub returns-in-Begun-clause-asks : goal.returns-in-Begun-clause-asks
returns-in-Begun-clause-asks c = begun_asks c.args.namespace.now c.args.number c.args.bytes.now c.in-Begun.ensures.1

pub returns-in-Err-clause-tells : goal.returns-in-Err-clause-tells
returns-in-Err-clause-tells c =
    subst (TellsNoGroup c.args.namespace.now c.args.number c.args.more c.args.bytes.now) (sym c.by.ensures)
    (tells_none c.args.namespace.now c.args.number c.args.bytes.now c.in-Err.stop c.args.more c.in-Committed.ensures.1 c.in-Err.ensures.err c.in-Err.ensures.asks)

pub returns-in-Err-clause-asks : goal.returns-in-Err-clause-asks
returns-in-Err-clause-asks c =
    subst (AsksForMore c.args.namespace.now c.args.number c.args.bytes.now) (sym c.by.ensures)
    (asks_none c.args.namespace.now c.args.number c.args.bytes.now c.in-Err.stop c.args.more c.in-Err.ensures.asks)
