-- The laws of specs/steps.
use Rattle.folder_model.specs.steps.FileLaws.{written_anew}
use Rattle.folder_model.specs.steps.SureLaws.{file_sync_is_durable, new_file_is_durable}
use Rattle.folder_model.proofs.laws.what_was_synced_is_durable.Goals as goal

pub returns-clause-file : goal.returns-clause-file
returns-clause-file c = file_sync_is_durable

pub returns-clause-name : goal.returns-clause-name
returns-clause-name c = new_file_is_durable

pub returns-clause-anew : goal.returns-clause-anew
returns-clause-anew c = written_anew
