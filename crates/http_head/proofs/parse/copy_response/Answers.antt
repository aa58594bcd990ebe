use Rattle.std.proofs.Common.{sym, subst}
use Rattle.http_head.specs.steps.HeadSpans.{HasAsciiNames}
use Rattle.http_head.proofs.ParseLaws.{response_names_are_ascii}
use Rattle.http_head.proofs.parse.copy_response.Goals as goal

pub copy_fields-requires-clause-names : goal.copy_fields-requires-clause-names
copy_fields-requires-clause-names c =
    subst (HasAsciiNames c.args.text.now) (sym c.split_at.ensures.front)
    (response_names_are_ascii c.args.text.now c.args.headers.now c.args.spans c.requires.spans)
