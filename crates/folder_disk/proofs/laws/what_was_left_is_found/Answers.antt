-- The next run goes on where this one ended.
use Rattle.folder_disk.specs.steps.FoundLaws.{crashed_is_image, let_go_is_read, crashed_volumes_are_read, let_go_volumes_are_read}
use Rattle.folder_disk.proofs.laws.what_was_left_is_found.Goals as goal

pub returns-clause-crashed : goal.returns-clause-crashed
returns-clause-crashed c = crashed_is_image

pub returns-clause-let_go : goal.returns-clause-let_go
returns-clause-let_go c = let_go_is_read

pub returns-clause-crashed_read : goal.returns-clause-crashed_read
returns-clause-crashed_read c = crashed_volumes_are_read

pub returns-clause-let_go_read : goal.returns-clause-let_go_read
returns-clause-let_go_read c = let_go_volumes_are_read
