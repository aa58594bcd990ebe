-- It is full, or a store follows.
use Rattle.archive_core.proofs.AfterLaws.{full_exit}
use Rattle.archive_core.specs.Holdings.{contents_of}
use Rattle.archive_volumes.proofs.ChangeLaws.{DiskLaws}
use Rattle.archive_core.proofs.FaultLaws.{full_since}
use Rattle.archive_core.proofs.archive.Archive.store_after.Given.{Over}
use Rattle.archive_core.proofs.archive.Archive.store_after.Goals as goal

-- what is asked of the disk
disk_laws : (g : Over) → DiskLaws g.D.Disk
disk_laws g = record { earlier = g.met.D.Disk.earlier; now_counts = g.met.D.Disk.now_counts; now_only = g.met.D.Disk.now_only }

pub returns-in_err-check_room-clause-stores : goal.returns-in_err-check_room-clause-stores
returns-in_err-check_room-clause-stores g c =
    full_exit g.D.Disk (disk_laws g) c.args.self.now c.args.taken.now c.in_err-check_room.field-0.0 c.from_residual.result c.from_residual.ensures.1
    c.in_err-check_room.ensures

pub returns-in_err-check_room-clause-since : goal.returns-in_err-check_room-clause-since
returns-in_err-check_room-clause-since g c =
    full_since _ (contents_of c.args.self.now) c.args.looked.upto c.in_err-check_room.field-0.0 c.from_residual.result c.from_residual.ensures.1
    c.in_err-check_room.ensures
