use Rattle.warc_reader.proofs.RecordLaws.{too_many}
use Rattle.warc_reader.proofs.records.read_fields.Goals as goal

pub returns-then-as_slice-gt-FIELD_LIMIT-clause-not_a_record :
    goal.returns-then-as_slice-gt-FIELD_LIMIT-clause-not_a_record
returns-then-as_slice-gt-FIELD_LIMIT-clause-not_a_record c = λ is fields end reads few.
    too_many c.args.section.now c.in-Ok.fields c.as_slice.result.now c.in-Ok.ensures.ok c.as_slice.ensures c.if-as_slice-gt-FIELD_LIMIT.true
    fields end reads few
