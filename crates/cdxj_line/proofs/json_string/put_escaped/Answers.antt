use Rattle.std.proofs.Common.{◌++◌, ◌∙◌, ap, sym}
use Rattle.std.proofs.lemmas.Result.{on_ok_weaker}
use Rattle.cdxj_line.proofs.Escapes.{plain_text}
use Rattle.cdxj_line.proofs.json_string.put_escaped.Goals as goal

pub returns-then-is_plain : goal.returns-then-is_plain
returns-then-is_plain c =
    on_ok_weaker c.put_all.result (λ put. put ∙ ap (λ text. c.args.out.now.items ++ text) (sym (plain_text c.args.text.now (sym c.is_plain.ensures ∙ c.if-is_plain.true)))) c.put_all.ensures
