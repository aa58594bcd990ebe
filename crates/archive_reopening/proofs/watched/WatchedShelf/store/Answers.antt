-- Each clause is one of an archive's store, or holds of an archive at each call.
use Rattle.std.proofs.Common.{true, subst}
use Rattle.warc_journal.specs.Journals.{disk_of}
use Rattle.archive_shelf.specs.Told.{StoresOn}
use Rattle.archive_volumes.proofs.ChangeLaws.{DiskLaws}
use Rattle.archive_core.specs.Holdings.{Holdings}
use Rattle.archive_core.specs.Told.{told_of}
use Rattle.archive_core.proofs.ShelfLaws.{just_read}
use Rattle.archive_core.proofs.LastingLaws.{stored_behind}
use Rattle.archive_reopening.proofs.watched.WatchedShelf.store.Given.{Over}
use Rattle.archive_reopening.proofs.watched.WatchedShelf.store.Goals as goal

-- what is asked of the disk
disk_laws : (g : Over) → DiskLaws g.D.Disk
disk_laws g = record { earlier = g.met.D.Disk.earlier; now_counts = g.met.D.Disk.now_counts; now_only = g.met.D.Disk.now_only }

pub invariant_of-self : goal.invariant_of-self
invariant_of-self g c = λ tells.
    stored_behind g.D.Disk (disk_laws g) g.S.Since.stood c.self.inside.archive c.store_new-answer.new.self c.args.taken.now tells (c.self.invariant tells)
    c.store_new-answer.result c.store_new-answer.ensures.stores

pub returns-clause-stores : goal.returns-clause-stores
returns-clause-stores g c =
    subst (λ (held : Holdings _). StoresOn true c.args.taken.now (told_of g.D.Disk held) (told_of g.D.Disk c.store_new-answer.new.self) c.store_new-answer.result) c.self.view_is
    c.store_new-answer.ensures.stores.told

pub returns-clause-just : goal.returns-clause-just
returns-clause-just g c =
    just_read g.D.Disk c.store_new-answer.new.self c.store_new-answer.result
    (λ told. g.met.D.Disk.reading_is_image (disk_of c.store_new-answer.new.self.journal) (c.shows_its_book.ensures.tells told)) c.store_new-answer.ensures.stores.just

pub returns-clause-shows : goal.returns-clause-shows
returns-clause-shows g c = c.shows_its_book.ensures.shows
