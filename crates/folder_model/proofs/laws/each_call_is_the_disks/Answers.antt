-- The laws of specs/steps.
use Rattle.folder_model.specs.steps.KnownLaws.{write_leaves, cut_leaves, sync_done, sync_failed, sync_doubted, create_done, create_failed, opened_knows}
use Rattle.folder_model.specs.steps.MendLaws.{mending, mended_sync}
use Rattle.folder_model.specs.steps.SettleLaws.{syncs_leave, settled_leaves}
use Rattle.folder_model.proofs.laws.each_call_is_the_disks.Goals as goal

pub returns-clause-opened : goal.returns-clause-opened
returns-clause-opened c = opened_knows

pub returns-clause-write : goal.returns-clause-write
returns-clause-write c = write_leaves

pub returns-clause-cut : goal.returns-clause-cut
returns-clause-cut c = cut_leaves

pub returns-clause-sync : goal.returns-clause-sync
returns-clause-sync c = sync_done

pub returns-clause-sync_failed : goal.returns-clause-sync_failed
returns-clause-sync_failed c = sync_failed

pub returns-clause-create : goal.returns-clause-create
returns-clause-create c = create_done

pub returns-clause-create_failed : goal.returns-clause-create_failed
returns-clause-create_failed c = create_failed

pub returns-clause-doubt : goal.returns-clause-doubt
returns-clause-doubt c = sync_doubted

pub returns-clause-mending : goal.returns-clause-mending
returns-clause-mending c = mending

pub returns-clause-mended : goal.returns-clause-mended
returns-clause-mended c = mended_sync

pub returns-clause-settling : goal.returns-clause-settling
returns-clause-settling c = syncs_leave

pub returns-clause-settled : goal.returns-clause-settled
returns-clause-settled c = settled_leaves
