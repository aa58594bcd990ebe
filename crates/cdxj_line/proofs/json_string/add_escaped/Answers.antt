use Rattle.std.proofs.Common.{◌+◌, ◌∙◌, ap, sym, length}
use Rattle.cdxj_line.specs.Lengths.{capped}
use Rattle.cdxj_line.proofs.Escapes.{plain_text}
use Rattle.cdxj_line.proofs.LineLengths.{more}
use Rattle.cdxj_line.proofs.json_string.add_escaped.Goals as goal

pub returns-then-is_plain : goal.returns-then-is_plain
returns-then-is_plain c = λ n e.
    more n c.args.len (length c.args.text.now) c.saturating_add.result e c.saturating_add.ensures
    ∙ ap (λ text. capped (n + length text)) (sym (plain_text c.args.text.now (sym c.is_plain.ensures ∙ c.if-is_plain.true)))
