use Rattle.std.proofs.Common.{◌∙◌}
use Rattle.checkpoint.proofs.WritingLaws.{is_committed}
use Rattle.checkpoint.proofs.writing.write_for.Goals as goal

pub put_text-requires-clause-committed : goal.put_text-requires-clause-committed
put_text-requires-clause-committed g c = is_committed c.args.lines.now c.as_slice.result.now (c.as_slice.ensures ∙ c.in_ok-text.ensures.text)
