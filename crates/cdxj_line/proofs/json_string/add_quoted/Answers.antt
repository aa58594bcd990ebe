use Rattle.std.proofs.Common.{◌+◌}
use Rattle.cdxj_line.proofs.LineLengths.{more, quoted_length}
use Rattle.cdxj_line.proofs.json_string.add_quoted.Goals as goal

pub returns : goal.returns
returns c = λ n e.
    quoted_length n c.args.text.now c.add_escaped.result (c.add_escaped.ensures (n + 2) (more n c.args.len 2 c.saturating_add.result e c.saturating_add.ensures))
