use Rattle.warc_text.specs.Lines.{field, profile_lines}
use Rattle.record_opening.proofs.opening_parts.strip_profile.Goals as goal

pub returns-clause-ok : goal.returns-clause-ok
unfolding profile_lines field
returns-clause-ok c = c.strip.ensures.ok

pub returns-clause-err : goal.returns-clause-err
unfolding profile_lines field
returns-clause-err c = c.strip.ensures.err
