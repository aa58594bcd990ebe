-- The laws of specs/steps.
use Rattle.folder_model.specs.steps.SeenLaws.{reading_is_left, no_more_left}
use Rattle.folder_model.specs.steps.SureLaws.{opened_is_disk}
use Rattle.folder_model.specs.steps.ReadingLaws.{each_is_seen}
use Rattle.folder_model.proofs.laws.what_is_left_is_a_disk.Goals as goal

pub returns-clause-reading : goal.returns-clause-reading
returns-clause-reading c = reading_is_left

pub returns-clause-no_more : goal.returns-clause-no_more
returns-clause-no_more c = no_more_left

pub returns-clause-opened : goal.returns-clause-opened
returns-clause-opened c = opened_is_disk

pub returns-clause-each : goal.returns-clause-each
returns-clause-each c = each_is_seen
