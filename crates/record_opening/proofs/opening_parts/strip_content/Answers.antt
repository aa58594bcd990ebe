use Rattle.warc_text.specs.Lines.{content_line, field}
use Rattle.record_opening.proofs.opening_parts.strip_content.Goals as goal

pub returns-clause-ok : goal.returns-clause-ok
unfolding content_line field
returns-clause-ok c = c.strip.ensures.ok

pub returns-clause-err : goal.returns-clause-err
unfolding content_line field
returns-clause-err c = c.strip.ensures.err
