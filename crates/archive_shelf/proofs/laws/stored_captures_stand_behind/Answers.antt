use Rattle.archive_shelf.proofs.StoringLaws as laws
use Rattle.archive_shelf.proofs.laws.stored_captures_stand_behind.Goals as goal

pub returns-clause-behind : goal.returns-clause-behind
returns-clause-behind c = laws.gains_stand_behind

pub returns-clause-grows : goal.returns-clause-grows
returns-clause-grows c = laws.gains_grow c.growth_keeps_captures.ensures.steps

pub returns-clause-storing : goal.returns-clause-storing
returns-clause-storing c = laws.storing_gains

pub returns-clause-stores : goal.returns-clause-stores
returns-clause-stores c = laws.stores_grow c.growth_keeps_captures.ensures.itself c.growth_keeps_captures.ensures.steps
