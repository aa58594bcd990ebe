use Rattle.warc_scan.proofs.ReadLaws.{found_group, found_is}
use Rattle.warc_scan.proofs.scan_group.next_headed_group.Goals as goal

pub copy_parts-requires : goal.copy_parts-requires
copy_parts-requires c = found_is c.args.namespace.now c.args.number c.args.bytes.now c.in-Ok.read.found c.in-Ok.ensures.ok.found

pub group_of-requires-clause-found : goal.group_of-requires-clause-found
group_of-requires-clause-found c = found_is c.args.namespace.now c.args.number c.args.bytes.now c.in-Ok.read.found c.in-Ok.ensures.ok.found

pub returns-clause-ok : goal.returns-clause-ok
returns-clause-ok c =
    found_group c.args.namespace.now c.args.number c.args.bytes.now c.in-Ok.read.found c.in-Ok.ensures.ok.found c.group_of.result.group c.group_of.ensures.group
