use Rattle.std.proofs.Common.{sym, ◌∙◌}
use Rattle.http_head.proofs.FrontLaws.{found_end, found_none}
use Rattle.http_head.proofs.seek.find_head_end.Goals as goal

pub returns-in-Ended : goal.returns-in-Ended
returns-in-Ended c =
    found_end c.args.stream.now _ c.seek_end-found.ensures.fits (sym c.seek_end-found.ensures.seek ∙ c.in-Ended.is)
    c.seek_end-found.ensures.soonest

pub returns-in_default : goal.returns-in_default
returns-in_default c =
    found_none c.args.stream.now _ (c.seek_end-found.ensures.whole c.in_default.not-Ended)
    (λ e. c.in_default.not-Ended (c.seek_end-found.ensures.seek ∙ e))
