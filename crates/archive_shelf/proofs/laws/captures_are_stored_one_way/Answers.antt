use Rattle.archive_shelf.proofs.OneWayLaws as laws
use Rattle.archive_shelf.proofs.laws.captures_are_stored_one_way.Goals as goal

pub returns-clause-one : goal.returns-clause-one
returns-clause-one c = laws.one_way c.captures_have_one_payload.ensures c.numbers_have_one_group.ensures

pub returns-clause-next : goal.returns-clause-next
returns-clause-next c = laws.leaves_next
