use Rattle.std.proofs.Common.{List, subst}
use Rattle.warc_journal.specs.Journals.{disk_of}
use Rattle.archive_volumes.proofs.ChangeLaws.{DiskLaws}
use Rattle.archive_volumes.specs.Held.{book_of}
use Rattle.archive_volumes.specs.declared.spot.Spot.{Spot}
use Rattle.archive_core.specs.Holdings.{Holdings}
use Rattle.archive_core.specs.Settling.{SettlesOn}
use Rattle.archive_core.specs.View.{holdings_of}
use Rattle.archive_settling.specs.Supplying.{GoesThrough, shelved_as}
use Rattle.archive_core.proofs.SettlingLaws.{over, settled_archive, settles_on}
use Rattle.archive_core.proofs.archive.Archive.settle.Given.{Over}
use Rattle.archive_core.proofs.archive.Archive.settle.Goals as goal

-- what is asked of the disk
disk_laws : (g : Over) → DiskLaws g.D.Disk
disk_laws g = record { earlier = g.met.D.Disk.earlier; now_counts = g.met.D.Disk.now_counts; now_only = g.met.D.Disk.now_only }

pub invariant_of-self : goal.invariant_of-self
invariant_of-self g c =
    settled_archive g.D.Disk (disk_laws g) (holdings_of c.self.inside) c.self.inside.volumes c.settle_volumes.new.volumes c.self.inside.settled c.settle_volumes.new.settled
    c.settle_volumes.ensures.keeps c.self.invariant c.settle_volumes.result (λ tells. subst (λ (l : List Spot). GoesThrough g.D.Disk (shelved_as c.self.inside.told.value (book_of c.self.inside.volumes.held) l) c.settle_volumes.new.settled
    (disk_of c.self.inside.volumes.journal) (disk_of c.settle_volumes.new.volumes.journal) c.settle_volumes.result) c.as_slice.ensures.value
    (c.settle_volumes.ensures.went tells)) c.settle_volumes.ensures.knows

pub returns : goal.returns
returns g c =
    let new = c.settle_volumes.new.volumes in
    subst (λ (held : Holdings _). SettlesOn g.D.Disk held (over (holdings_of c.self.inside) new c.settle_volumes.new.settled) c.settle_volumes.result) c.self.view_is
    (settles_on g.D.Disk (disk_laws g) (holdings_of c.self.inside) c.self.inside.volumes new c.self.inside.settled c.settle_volumes.new.settled
    c.settle_volumes.ensures.keeps c.self.invariant c.settle_volumes.result (λ tells. subst (λ (l : List Spot). GoesThrough g.D.Disk (shelved_as c.self.inside.told.value (book_of c.self.inside.volumes.held) l) c.settle_volumes.new.settled
    (disk_of c.self.inside.volumes.journal) (disk_of c.settle_volumes.new.volumes.journal) c.settle_volumes.result) c.as_slice.ensures.value
    (c.settle_volumes.ensures.went tells)) c.settle_volumes.ensures.knows c.settle_volumes.ensures.unasked c.settle_volumes.ensures.faults)
