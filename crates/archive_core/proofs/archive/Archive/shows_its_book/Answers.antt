use Rattle.warc_journal.specs.Journals.{disk_of}
use Rattle.archive_volumes.proofs.ChangeLaws.{DiskLaws, laws_muted}
use Rattle.archive_volumes.specs.Volumes.{muted}
use Rattle.archive_core.proofs.NextLaws.{opens_next}
use Rattle.archive_core.proofs.ShelfLaws.{consistent}
use Rattle.archive_core.proofs.archive.Archive.shows_its_book.Given.{Over}
use Rattle.archive_core.proofs.archive.Archive.shows_its_book.Goals as goal

-- what is asked of the disk
disk_laws : (g : Over) → DiskLaws g.D.Disk
disk_laws g = record { earlier = g.met.D.Disk.earlier; now_counts = g.met.D.Disk.now_counts; now_only = g.met.D.Disk.now_only }

pub returns-clause-shows : goal.returns-clause-shows
returns-clause-shows g c = record {
  consistent = consistent g.D.Disk c.args.self.now c.is_an_archive.ensures;
  next = opens_next (muted c.args.self.now.told g.D.Disk) (laws_muted g.D.Disk c.args.self.now.told (disk_laws g)) (disk_of c.args.self.now.journal) c.args.self.now.book c.is_an_archive.ensures.holds.near;
}

pub returns-clause-near : goal.returns-clause-near
returns-clause-near g c = c.is_an_archive.ensures.holds.near

pub returns-clause-tells : goal.returns-clause-tells
returns-clause-tells g c = c.is_an_archive.ensures.holds.tells

pub returns-clause-spots : goal.returns-clause-spots
returns-clause-spots g c = c.is_an_archive.ensures.spots
