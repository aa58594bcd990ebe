use Rattle.std.proofs.Common.{Some, ap, sym, ◌∙◌}
use Rattle.json.specs.Print.{escape}
use Rattle.cdxj_line.proofs.Escapes.{plain_is_ascii, plain_text}
use Rattle.cdxj_line.proofs.Strings.{plain_is_told}
use Rattle.cdxj_line.proofs.json_string.read_escaped.Goals as goal

pub plain_text-requires : goal.plain_text-requires
plain_text-requires c = plain_is_ascii c.args.raw.now (sym c.is_plain.ensures ∙ c.if-is_plain.true)

pub returns-then-is_plain-clause-some : goal.returns-then-is_plain-clause-some
returns-then-is_plain-clause-some c =
    sym (plain_text c.args.raw.now (sym c.is_plain.ensures ∙ c.if-is_plain.true)) ∙ ap escape (sym c.in_ok-plain_text.ensures)

pub returns-then-is_plain-clause-found : goal.returns-then-is_plain-clause-found
returns-then-is_plain-clause-found c = λ text ascii is.
    ap Some (c.in_ok-plain_text.ensures ∙ plain_is_told c.args.raw.now text (sym c.is_plain.ensures ∙ c.if-is_plain.true) is)
