-- Each clause is one of an archive's store, or holds of an archive at each call.
use Rattle.warc_journal.specs.Journals.{disk_of}
use Rattle.archive_core.proofs.ShelfLaws.{just_read}
use Rattle.archive_core.proofs.shelf.ArchiveShelf.store.Goals as goal

pub returns-clause-stores : goal.returns-clause-stores
returns-clause-stores g c = c.store_new-answer.ensures.stores.told

pub returns-clause-just : goal.returns-clause-just
returns-clause-just g c =
    just_read g.D.Disk c.store_new-answer.new.self c.store_new-answer.result
    (λ told. g.met.D.Disk.reading_is_image (disk_of c.store_new-answer.new.self.journal) (c.shows_its_book.ensures.tells told)) c.store_new-answer.ensures.stores.just

pub returns-clause-shows : goal.returns-clause-shows
returns-clause-shows g c = c.shows_its_book.ensures.shows
