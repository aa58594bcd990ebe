-- Each clause is one of bringing by number, or holds of an archive at each call.
use Rattle.archive_shelf.specs.Answers.{is_bring_fault}
use Rattle.archive_core.proofs.ShelfLaws.{reads_on}
use Rattle.archive_core.proofs.shelf.ArchiveShelf.bring.Goals as goal

pub returns-clause-brings : goal.returns-clause-brings
returns-clause-brings g c = c.bring_numbered-answer.ensures.brings

pub returns-clause-reads : goal.returns-clause-reads
returns-clause-reads g c =
    reads_on g.D.Disk (is_bring_fault c.bring_numbered-answer.result) c.args.self.now c.bring_numbered-answer.new.self c.bring_numbered-answer.ensures.looks
    c.bring_numbered-answer.ensures.faults

pub returns-clause-shows : goal.returns-clause-shows
returns-clause-shows g c = c.shows_its_book.ensures.shows

pub returns-clause-names : goal.returns-clause-names
returns-clause-names g c = c.bring_numbered-answer.ensures.names

pub returns-clause-digests : goal.returns-clause-digests
returns-clause-digests g c = c.bring_numbered-answer.ensures.digests
