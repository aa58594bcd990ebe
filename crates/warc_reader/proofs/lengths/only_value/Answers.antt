use Rattle.std.proofs.Common.{map, sym, ◌∙◌}
use Rattle.capture.specs.Fields.{lowered, values_of}
use Rattle.http_head.specs.Heads.{named_value}
use Rattle.warc_reader.proofs.ValueLaws.{none_is_not_one, one_value}
use Rattle.warc_reader.proofs.lengths.only_value.Goals as goal

pub returns-clause-some : goal.returns-clause-some
returns-clause-some c =
    one_value (values_of (lowered c.args.name.now) (map named_value c.args.fields.now)) c.first_value.result c.first_value.ensures
    (sym c.count_named.ensures ∙ c.if-count_named-ne1.false)

pub returns-clause-none : goal.returns-clause-none
returns-clause-none c =
    none_is_not_one (values_of (lowered c.args.name.now) (map named_value c.args.fields.now)) c.first_value.result c.first_value.ensures
