use Rattle.std.proofs.Common.{map, sym}
use Rattle.http_head.specs.Heads.{named_value}
use Rattle.warc_reader.proofs.OutcomeLaws.{if_none, not_dated}
use Rattle.warc_reader.proofs.outcomes.date_of.Goals as goal

pub returns-in-Some-clause-none : goal.returns-in-Some-clause-none
returns-in-Some-clause-none c =
    if_none _ _ (λ none. not_dated (map named_value c.args.fields.now) c.in-Some.text.now (sym c.in-Some.ensures) none)
    c.read_date.result c.read_date.ensures.none
