use Rattle.capture.proofs.GrowthLaws as growth
use Rattle.warc_text.proofs.GrowthLaws as laws
use Rattle.warc_text.proofs.GrowthLaws.{GrowthKeeps}
use Rattle.warc_text.proofs.laws.texts_stay_when_a_book_grows.Goals as goal

keep : GrowthKeeps
keep = record { captures = growth.growth_keeps_captures; payloads = growth.growth_keeps_payloads }

pub returns-clause-groups : goal.returns-clause-groups
returns-clause-groups c = laws.groups_stay keep

pub returns-clause-sealed : goal.returns-clause-sealed
returns-clause-sealed c = laws.sealed_volumes_stay keep

pub returns-clause-last : goal.returns-clause-last
returns-clause-last c = laws.last_volume_goes_on keep
