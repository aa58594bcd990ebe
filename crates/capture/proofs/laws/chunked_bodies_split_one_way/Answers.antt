-- By the size lines, of which a text begins with one at most.
use Rattle.capture.proofs.CutLaws.{cut_unique, whole_unique, whole_is_not_cut}
use Rattle.capture.proofs.laws.chunked_bodies_split_one_way.Goals as goal

pub returns-clause-whole : goal.returns-clause-whole
returns-clause-whole c = whole_unique

pub returns-clause-cut : goal.returns-clause-cut
returns-clause-cut c = cut_unique

pub returns-clause-apart : goal.returns-clause-apart
returns-clause-apart c = whole_is_not_cut
