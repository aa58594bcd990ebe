use Rattle.volume_scan.specs.Scannings.{disk_of}
use Rattle.archive_opening.proofs.FollowingLaws.{rests_on}
use Rattle.archive_opening.proofs.SyncLaws.{still_synced}
use Rattle.archive_opening.proofs.starting.start.Goals as goal

pub returns-in-Ok-start-clause-synced : goal.returns-in-Ok-start-clause-synced
returns-in-Ok-start-clause-synced g c = λ tells.
    still_synced g.D.Disk c.args.disk c.sync_checkpoints.new.disk (disk_of c.in-Ok-start.scanning) (c.sync_checkpoints.ensures.rests tells)
    (c.in-Ok-start.ensures.rests tells) (c.in-Ok.ensures.synced tells)

pub returns-in-Ok-start-clause-rests : goal.returns-in-Ok-start-clause-rests
returns-in-Ok-start-clause-rests g c = λ tells.
    rests_on g.D.Disk c.args.disk c.sync_checkpoints.new.disk (disk_of c.in-Ok-start.scanning) (c.sync_checkpoints.ensures.rests tells) (c.in-Ok-start.ensures.rests tells)

pub returns-in-Err-start-clause-given_back : goal.returns-in-Err-start-clause-given_back
returns-in-Err-start-clause-given_back g c = λ tells.
    rests_on g.D.Disk c.args.disk c.sync_checkpoints.new.disk c.in-Err-start.disk (c.sync_checkpoints.ensures.rests tells) (c.in-Err-start.ensures.given_back tells)
