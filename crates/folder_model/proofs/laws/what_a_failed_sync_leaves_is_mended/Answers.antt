-- The laws of specs/steps.
use Rattle.folder_model.specs.steps.MendLaws.{range_anew_is_sure, range_anew_adds_none}
use Rattle.folder_model.proofs.laws.what_a_failed_sync_leaves_is_mended.Goals as goal

pub returns-clause-sure : goal.returns-clause-sure
returns-clause-sure c = range_anew_is_sure

pub returns-clause-adds_none : goal.returns-clause-adds_none
returns-clause-adds_none c = range_anew_adds_none
