use Rattle.std.proofs.Common.{length}
use Rattle.warc_reader.proofs.FileLaws.{none_if, read_nothing, read_whole}
use Rattle.warc_reader.proofs.files.note_requests.Goals as goal

pub loop-rest-init : goal.loop-rest-init
loop-rest-init c = read_nothing c.args.file.now c.new-requests.result c.new-requests.ensures

pub returns-clause-knows : goal.returns-clause-knows
returns-clause-knows c =
    read_whole c.args.file.now c.loop-rest.rest.now c.loop-rest.requests c.loop-rest.invariant
    (none_if (length c.loop-rest.rest.now) c.is_empty.result c.is_empty.ensures c.loop-rest-test.false)
