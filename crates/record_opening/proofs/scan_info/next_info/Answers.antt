use Rattle.record_opening.proofs.InfoSteps.{begun_asks, begun_tells}
use Rattle.record_opening.proofs.scan_info.next_info.Goals as goal

pub returns-in-Begun-clause-tells : goal.returns-in-Begun-clause-tells
returns-in-Begun-clause-tells c =
    begun_tells c.args.volume c.args.bytes.now c.args.more c.info_len.result c.in-Begun.ensures.0 c.in-Begun.ensures.1 c.info_len.ensures.value

pub returns-in-Begun-clause-asks : goal.returns-in-Begun-clause-asks
returns-in-Begun-clause-asks c = begun_asks c.args.volume c.args.bytes.now c.info_len.result c.in-Begun.ensures.1 c.info_len.ensures.value
