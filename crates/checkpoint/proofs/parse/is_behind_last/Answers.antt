use Rattle.std.proofs.Common.{sym, ◌∙◌, length, ◌-◌}
use Rattle.checkpoint.proofs.Behind.{behind_last, has_last}
use Rattle.checkpoint.proofs.parse.is_behind_last.Goals as goal

pub returns-in-Some : goal.returns-in-Some
returns-in-Some c =
    c.comes_before.ensures
    ∙ sym (behind_last c.args.before.now c.in-Some.last.now c.args.line.now (length c.args.before.now - 1)
    (has_last c.args.before.now c.in-Some.last.now (sym c.in-Some.ensures.value)) (sym c.in-Some.ensures.value))
