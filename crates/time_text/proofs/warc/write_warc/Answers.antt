use Rattle.std.proofs.Common.{ap, ◌∙◌}
use Rattle.time_text.specs.Texts.{warc_of, warc_date}
use Rattle.time_text.proofs.warc.write_warc.Goals as goal

pub returns : goal.returns
unfolding warc_date
returns c = (c.in_ok-civil.ensures.value.0, c.of.ensures ∙ ap warc_of c.in_ok-civil.ensures.value.1)
