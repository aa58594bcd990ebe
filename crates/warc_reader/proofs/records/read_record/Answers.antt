use Rattle.warc_reader.specs.Records.{HoldsBehindVersion, HoldsRecord}
use Rattle.warc_reader.proofs.RecordLaws.{if_ok, no_record, no_version, record_holds}
use Rattle.warc_reader.proofs.records.read_record.Goals as goal

pub returns-in-Some-clause-ok : goal.returns-in-Some-clause-ok
returns-in-Some-clause-ok c =
    if_ok (HoldsBehindVersion c.in-Some.rest.now) (HoldsRecord c.args.text.now)
    (λ parts. record_holds c.args.text.now c.in-Some.rest.now parts c.in-Some.ensures.some)
    c.read_behind_version.result c.read_behind_version.ensures.ok

pub returns-in-Some-clause-not_a_record : goal.returns-in-Some-clause-not_a_record
returns-in-Some-clause-not_a_record c = λ is.
    no_record c.args.text.now c.in-Some.rest.now c.in-Some.ensures.some (c.read_behind_version.ensures.not_a_record is)

pub returns-in-None-clause-not_a_record : goal.returns-in-None-clause-not_a_record
returns-in-None-clause-not_a_record c = λ is. no_version c.args.text.now c.in-None.ensures.none
