-- Each clause is one of the piece by its number, or holds of an archive at each call.
use Rattle.archive_shelf.specs.Answers.{is_bring_fault}
use Rattle.archive_core.proofs.ShelfLaws.{reads_on}
use Rattle.archive_core.proofs.shelf.ArchiveShelf.piece.Goals as goal

pub returns-clause-gives : goal.returns-clause-gives
returns-clause-gives g c = c.piece_numbered-answer.ensures.gives

pub returns-clause-reads : goal.returns-clause-reads
returns-clause-reads g c =
    reads_on g.D.Disk (is_bring_fault c.piece_numbered-answer.result) c.args.self.now c.piece_numbered-answer.new.self c.piece_numbered-answer.ensures.looks
    c.piece_numbered-answer.ensures.faults

pub returns-clause-shows : goal.returns-clause-shows
returns-clause-shows g c = c.shows_its_book.ensures.shows

pub returns-clause-digests : goal.returns-clause-digests
returns-clause-digests g c = c.piece_numbered-answer.ensures.digests
