-- The text is that of the definition, line by line.
use Rattle.std.proofs.Common.{rules}
use Rattle.head_lines.specs.Lines.{close_line, close_line_where}
use Rattle.exchange.proofs.refusal.behind_length.Goals as goal

pub returns-then-closes-clause-value : goal.returns-then-closes-clause-value
unfolding close_line_where close_line
returns-then-closes-clause-value c = search rules

pub returns-clause-value : goal.returns-clause-value
unfolding close_line_where
returns-clause-value c = search rules
