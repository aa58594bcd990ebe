use Rattle.std.proofs.Common.{map}
use Rattle.http_head.specs.Heads.{named_value}
use Rattle.warc_reader.specs.Files.{asked_with}
use Rattle.warc_reader.proofs.AskLaws.{asked_there, begins_there, found_at, found_nowhere, within_file}
use Rattle.warc_reader.proofs.RecordLaws.{if_ok}
use Rattle.warc_reader.proofs.asking.asked_for.Goals as goal

pub asked_at-requires-clause-within : goal.asked_at-requires-clause-within
asked_at-requires-clause-within c =
    within_file c.args.file.now _ c.in-Some.at
    (found_at c.args.file.now c.args.requests.now (map named_value c.args.fields.now) c.in-Some.at c.requires c.in-Some.ensures c.requires.records c.requires.is_file)

pub asked_at-requires-clause-begins : goal.asked_at-requires-clause-begins
asked_at-requires-clause-begins c =
    begins_there c.args.file.now _ c.in-Some.at
    (found_at c.args.file.now c.args.requests.now (map named_value c.args.fields.now) c.in-Some.at c.requires c.in-Some.ensures c.requires.records c.requires.is_file)

pub returns-in-Some : goal.returns-in-Some
returns-in-Some c =
    if_ok _ _
    (λ ask of records is. asked_there c.args.file.now _ c.in-Some.at c.args.uri.now (asked_with ask)
    (found_at c.args.file.now c.args.requests.now (map named_value c.args.fields.now) c.in-Some.at c.requires c.in-Some.ensures records is) of)
    c.asked_at.result c.asked_at.ensures

pub returns-in-None : goal.returns-in-None
returns-in-None c =
    if_ok _ _
    (λ ask is_made records is. found_nowhere c.args.file.now c.args.requests.now (map named_value c.args.fields.now) c.args.uri.now (asked_with ask)
    c.requires c.in-None.ensures is_made records is)
    c.make_ask.result c.make_ask.ensures
