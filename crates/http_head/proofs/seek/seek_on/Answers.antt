use Rattle.std.proofs.Common.{◌-◌, take, sym, ◌∙◌, ap, arith}
use Rattle.http_head.specs.steps.HeadSeek.{seek_after}
use Rattle.http_head.proofs.SeekLaws.{going_at_less}
use Rattle.http_head.proofs.seek.seek_on.Goals as goal

pub returns-in-Line-clause-soonest : goal.returns-in-Line-clause-soonest
returns-in-Line-clause-soonest c =
    let found = c.seek_line_end in
    going_at_less c.args.seek c.args.rest.now (found.result.used - 1) found.result.used (omega arith)
    (λ e. found.ensures.going (found.ensures.seek ∙ ap (λ q. seek_after q (take found.result.used c.args.rest.now)) (sym c.in-Line.is) ∙ e))
