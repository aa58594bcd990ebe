use Rattle.std.proofs.Common.{sym, subst}
use Rattle.http_head.specs.steps.HeadSpans.{HasAsciiNames}
use Rattle.http_head.proofs.SectionLaws.{holds_fields, section_names_are_ascii}
use Rattle.http_head.proofs.section.copy_section.Goals as goal

pub copy_fields-requires-clause-names : goal.copy_fields-requires-clause-names
copy_fields-requires-clause-names c =
    subst (HasAsciiNames c.args.text.now) (sym c.split_at.ensures.front)
    (section_names_are_ascii c.args.text.now c.args.headers.now c.args.count c.requires.spans)

pub returns : goal.returns
returns c =
    holds_fields c.args.text.now c.args.headers.now c.split_at.result.0.now c.args.count c.copy_fields.result c.requires.spans
    c.split_at.ensures.front c.copy_fields.ensures
