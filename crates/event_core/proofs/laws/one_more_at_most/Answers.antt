use Rattle.event_core.proofs.MoreLaws as laws
use Rattle.event_core.proofs.laws.one_more_at_most.Goals as goal

pub returns : goal.returns
returns c = laws.one_more
