-- An archive shows all that it holds.
use Rattle.std.proofs.Common.{true}
use Rattle.archive_shelf.proofs.CallLaws.{catches_itself}
use Rattle.archive_core.specs.Told.{told_of}
use Rattle.archive_core.proofs.shelf.ArchiveShelf.catch_up.Goals as goal

pub returns-clause-catches : goal.returns-clause-catches
returns-clause-catches g c = catches_itself true (told_of g.D.Disk c.args.self.now)

pub returns-clause-shows : goal.returns-clause-shows
returns-clause-shows g c = c.shows_its_book.ensures.shows
