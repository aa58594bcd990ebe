use Rattle.http_head.proofs.FrontLaws.{ends_stay, heads_stay, too_long_stays}
use Rattle.http_head.proofs.laws.fronts_stay.Goals as goal

pub returns-clause-ends : goal.returns-clause-ends
returns-clause-ends c = ends_stay

pub returns-clause-heads : goal.returns-clause-heads
returns-clause-heads c = heads_stay

pub returns-clause-too_long : goal.returns-clause-too_long
returns-clause-too_long c = too_long_stays
