use Rattle.archive_shelf.proofs.StoringLaws as laws
use Rattle.archive_shelf.proofs.laws.leading_books_grow.Goals as goal

pub returns-clause-itself : goal.returns-clause-itself
returns-clause-itself c = laws.leads_itself c.growth_keeps_captures.ensures.itself

pub returns-clause-grows : goal.returns-clause-grows
returns-clause-grows c = laws.leading_grows c.growth_keeps_captures.ensures.itself
