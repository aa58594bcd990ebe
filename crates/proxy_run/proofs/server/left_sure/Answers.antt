-- Each image that may be opened stands for the archive's book, and has its checkpoints.
use Rattle.archive_volumes.proofs.ChangeLaws.{DiskLaws}
use Rattle.proxy_run.proofs.VaultSeats.{settled_calm}
use Rattle.proxy_run.proofs.server.left_sure.Given.{Over}
use Rattle.proxy_run.proofs.server.left_sure.Goals as goal

disk_laws : (g : Over) → DiskLaws g.D.Disk
disk_laws g = record { earlier = g.met.D.Disk.earlier; now_counts = g.met.D.Disk.now_counts; now_only = g.met.D.Disk.now_only }

pub returns-clause-calm : goal.returns-clause-calm
returns-clause-calm g c = settled_calm g.D.Disk (disk_laws g) c.args.archive.now c.requires

pub returns-clause-right : goal.returns-clause-right
returns-clause-right g c = λ told image left. (c.requires told image left).checkpoints
