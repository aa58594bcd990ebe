use Rattle.warc_reader.proofs.OneReading.{not_refused, one_file, one_record, one_refusal}
use Rattle.warc_reader.proofs.laws.records_are_read_in_one_way.Goals as goal

pub returns-clause-records : goal.returns-clause-records
returns-clause-records c = one_record

pub returns-clause-files : goal.returns-clause-files
returns-clause-files c = one_file

pub returns-clause-apart : goal.returns-clause-apart
returns-clause-apart c = not_refused

pub returns-clause-places : goal.returns-clause-places
returns-clause-places c = one_refusal
