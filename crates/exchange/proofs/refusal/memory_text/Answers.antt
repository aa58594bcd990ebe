-- The text is that of the definition, line by line.
use Rattle.std.specs.Fmt.{digits}
use Rattle.std.proofs.Common.{refl}
use Rattle.head_lines.specs.Lines.{status_line, type_line, length_line, close_line, close_line_where, head_end}
use Rattle.head_lines.specs.Statuses.{status_code, reason_phrase}
use Rattle.exchange.specs.Refusals.{memory_text}
use Rattle.exchange.proofs.refusal.memory_text.Goals as goal

pub returns : goal.returns
unfolding memory_text status_line type_line length_line close_line close_line_where head_end status_code reason_phrase digits
returns c = refl
