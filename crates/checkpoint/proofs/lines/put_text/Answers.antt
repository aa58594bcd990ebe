use Rattle.std.proofs.Common.{codes}
use Rattle.std.proofs.lemmas.Result.{on_ok_weaker}
use Rattle.checkpoint.specs.Checkpoints.{lines_text}
use Rattle.checkpoint.proofs.WritingLaws.{two_put}
use Rattle.checkpoint.proofs.lines.put_text.Goals as goal

pub returns : goal.returns
returns c =
    on_ok_weaker c.put_lines.result (λ last.
    two_put c.args.out.now.items (codes "!memproxy-cdxj 1\n") (lines_text c.args.lines.now) c.put_all.new.out.items c.put_lines.new.out.items
    c.in_ok-put_all.ensures last)
    c.put_lines.ensures
