use Rattle.std.proofs.Common.{sym, ◌∙◌}
use Rattle.http_head.proofs.SectionLaws.{found_section, found_no_section}
use Rattle.http_head.proofs.section.find_section_end.Goals as goal

pub returns-in-Ended : goal.returns-in-Ended
returns-in-Ended c =
    found_section c.args.text.now _ c.seek_end-found.ensures.fits (sym c.seek_end-found.ensures.seek ∙ c.in-Ended.is)
    c.seek_end-found.ensures.soonest

pub returns-in_default : goal.returns-in_default
returns-in_default c =
    found_no_section c.args.text.now _ (c.seek_end-found.ensures.whole c.in_default.not-Ended)
    (λ e. c.in_default.not-Ended (c.seek_end-found.ensures.seek ∙ e))
