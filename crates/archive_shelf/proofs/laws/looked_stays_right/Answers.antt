use Rattle.archive_shelf.proofs.ComparingLaws as laws
use Rattle.archive_shelf.proofs.laws.looked_stays_right.Goals as goal

pub returns : goal.returns
returns c = laws.looked_stays_right c.growth_keeps_captures.ensures.keeps
