-- The address is a URL, another text, or no text.
use Rattle.std.proofs.Common.{◌≡◌, None, Ok, Err, rules}
use Rattle.url.specs.Parser.{parse_url}
use Rattle.html_rewrite.proofs.LinkLemmas.{page_url-no_text, page_url-parsed, page_url-refused}
use Rattle.html_rewrite.proofs.link.page_url.Goals as goal

pub returns-in_default : goal.returns-in_default
returns-in_default c = page_url-no_text c.args.base.now c.in_default.ensures.cases.0

pub returns-in-Ok-parse : goal.returns-in-Ok-parse
returns-in-Ok-parse c =
    let parsed : parse_url None c.args.base.now ≡ Ok c.in-Ok-parse.url = search rules in
    page_url-parsed c.args.base.now c.in-Ok-parse.url c.in-Ok.ensures.cases.1 parsed

pub returns-in-Err : goal.returns-in-Err
returns-in-Err c =
    let refused : parse_url None c.args.base.now ≡ Err c.in-Err.field-0 = search rules in
    page_url-refused c.args.base.now c.in-Err.field-0 c.in-Ok.ensures.cases.1 refused
