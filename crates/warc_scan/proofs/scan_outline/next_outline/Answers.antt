use Rattle.warc_scan.proofs.ReadLaws.{found_group, found_is}
use Rattle.warc_scan.proofs.scan_outline.next_outline.Goals as goal

pub outline_of-requires-clause-found : goal.outline_of-requires-clause-found
outline_of-requires-clause-found c = found_is c.args.namespace.now c.args.number c.args.bytes.now c.in-Ok.read.found c.in-Ok.ensures.ok.found

pub returns-clause-ok : goal.returns-clause-ok
returns-clause-ok c =
    let made = c.in_ok-outline_of.ensures in
    (made.0, found_group c.args.namespace.now c.args.number c.args.bytes.now c.in-Ok.read.found c.in-Ok.ensures.ok.found made.0 made.1, made.2)
