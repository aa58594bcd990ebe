use Rattle.warc_reader.proofs.FileLaws.{reads_from_start}
use Rattle.warc_reader.proofs.captures.CaptureReader.new.Goals as goal

pub invariant_of-result : goal.invariant_of-result
invariant_of-result c = reads_from_start c.args.file.now c.in_ok-requests.requests c.in_ok-requests.ensures.knows

pub returns-clause-is_file : goal.returns-clause-is_file
returns-clause-is_file c = (c.in_ok-requests.ensures.knows.records, c.in_ok-requests.ensures.knows.is_file)
