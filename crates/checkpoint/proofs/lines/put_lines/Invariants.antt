use Rattle.std.proofs.Common.{◌≡◌, ◌++◌, drop}
use Rattle.checkpoint.specs.Checkpoints.{lines_text}
use Rattle.checkpoint.proofs.lines.put_lines.Given as goal

-- what is written, and what is to come
abbrev pub invariant-loop-line : goal.invariant-loop-line
invariant-loop-line l =
    l.out.items ++ lines_text (drop l.line-index l.lines) ≡ l.initial.out.items ++ lines_text l.lines
