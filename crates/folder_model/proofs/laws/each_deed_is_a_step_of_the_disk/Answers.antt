-- The laws of specs/steps.
use Rattle.folder_model.specs.steps.SeenLaws.{write_follows, cut_follows, synced_within}
use Rattle.folder_model.specs.steps.MadeLaws.{made_follows}
use Rattle.folder_model.proofs.laws.each_deed_is_a_step_of_the_disk.Goals as goal

pub returns-clause-write : goal.returns-clause-write
returns-clause-write c = write_follows

pub returns-clause-cut : goal.returns-clause-cut
returns-clause-cut c = cut_follows

pub returns-clause-make : goal.returns-clause-make
returns-clause-make c = made_follows

pub returns-clause-sync : goal.returns-clause-sync
returns-clause-sync c = synced_within
