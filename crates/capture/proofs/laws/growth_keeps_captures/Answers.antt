-- By the volumes, of which all but the last are the same.
use Rattle.capture.proofs.GrowthLaws as growth
use Rattle.capture.proofs.laws.growth_keeps_captures.Goals as goal

pub returns-clause-keeps : goal.returns-clause-keeps
returns-clause-keeps c = growth.growth_keeps_captures

pub returns-clause-payloads : goal.returns-clause-payloads
returns-clause-payloads c = growth.growth_keeps_payloads

pub returns-clause-steps : goal.returns-clause-steps
returns-clause-steps c = growth.growth_goes_on
