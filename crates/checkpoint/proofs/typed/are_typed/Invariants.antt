use Rattle.std.proofs.Common.{ℕ, ◌<◌, get_or}
use Rattle.cdxj_line.specs.Lines.{HasTypes}
use Rattle.cdxj_line.specs.declared.line.Line.{Line}
use Rattle.checkpoint.proofs.typed.are_typed.Given as goal

-- those so far are
abbrev pub invariant-loop-line : goal.invariant-loop-line
invariant-loop-line l = (k : ℕ) (d : Line) → k < l.line-index → HasTypes (get_or l.lines k d)
