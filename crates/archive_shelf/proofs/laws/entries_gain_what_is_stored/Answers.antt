use Rattle.archive_shelf.proofs.EntryLaws as laws
use Rattle.archive_shelf.proofs.laws.entries_gain_what_is_stored.Goals as goal

pub returns-clause-stay : goal.returns-clause-stay
returns-clause-stay c = laws.entries_stay c.growth_keeps_captures.ensures.keeps

pub returns-clause-new : goal.returns-clause-new
returns-clause-new c = laws.new_entries c.growth_keeps_captures.ensures.keeps

pub returns-clause-one : goal.returns-clause-one
returns-clause-one c = laws.entries_gain_one c.growth_keeps_captures.ensures.keeps

pub returns-clause-all : goal.returns-clause-all
returns-clause-all c = laws.entries_are_all c.growth_keeps_captures.ensures.keeps

pub returns-clause-same : goal.returns-clause-same
returns-clause-same c = laws.entries_stay_all c.growth_keeps_captures.ensures.keeps
