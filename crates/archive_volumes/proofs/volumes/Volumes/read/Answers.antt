use Rattle.std.proofs.Common.{ap}
use Rattle.warc_journal.specs.Journals.{disk_of}
use Rattle.warc_journal.specs.declared.extent.Extent.{Extent}
use Rattle.archive_volumes.specs.Held.{book_of}
use Rattle.archive_volumes.proofs.ChangeLaws.{DiskLaws, quiet_by}
use Rattle.archive_volumes.proofs.VolumeLaws.{holds_rest, measured_same, texts_rest}
use Rattle.archive_volumes.proofs.volumes.Volumes.read.Given.{Over}
use Rattle.archive_volumes.proofs.volumes.Volumes.read.Goals as goal

-- what is asked of the disk
disk_laws : (g : Over) → DiskLaws g.D.Disk
disk_laws g = record { earlier = g.met.D.Disk.earlier; now_counts = g.met.D.Disk.now_counts; now_only = g.met.D.Disk.now_only }

pub returns-clause-bytes : goal.returns-clause-bytes
returns-clause-bytes g c tells = c.read.ensures.text tells (c.requires.in_step tells) (c.requires.there tells) (c.requires.in_range tells)

pub returns-clause-reading : goal.returns-clause-reading
returns-clause-reading g c tells = (c.read.ensures.rests tells).read

pub returns-clause-texts : goal.returns-clause-texts
returns-clause-texts g c tells = texts_rest g.D.Disk c.args.self.now.journal c.read.new.self (c.read.ensures.rests tells) c.read.ensures.extent

pub returns-clause-in_step : goal.returns-clause-in_step
returns-clause-in_step g c tells = c.read.ensures.in_step tells (c.requires.in_step tells)

pub returns-clause-holds : goal.returns-clause-holds
returns-clause-holds g c told holds =
    holds_rest g.D.Disk (disk_laws g) told c.args.self.now.journal c.read.new.self (book_of c.args.self.now.held) c.read.ensures.rests c.read.ensures.extent
    (λ tells. c.read.ensures.in_step tells (c.requires.in_step tells)) holds

pub returns-clause-measured : goal.returns-clause-measured
returns-clause-measured g c measured =
    measured_same c.args.self.now.journal c.read.new.self (book_of c.args.self.now.held) (ap (λ (e : Extent). e.volumes) c.read.ensures.extent)
    (ap (λ (e : Extent). e.end) c.read.ensures.extent) measured

pub returns-clause-quiet : goal.returns-clause-quiet
returns-clause-quiet g c = quiet_by g.D.Disk (disk_laws g) (disk_of c.args.self.now.journal) (disk_of c.read.new.self) c.read.ensures.rests
