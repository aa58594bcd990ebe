use Rattle.std.proofs.Common.{IsTrue, refl}
use Rattle.index_entry.specs.OfBook.{AreEntries}
use Rattle.archive_index.specs.Shown.{numbered}
use Rattle.archive_core.proofs.ArchiveLaws.{on_each_ok}
use Rattle.archive_core.proofs.archive.ArchiveFinder.starting.Goals as goal

pub returns-clause-found : goal.returns-clause-found
returns-clause-found g c = c.entries_from.ensures

pub returns-clause-knows : goal.returns-clause-knows
returns-clause-knows g c =
    on_each_ok c.entries_from.result (IsTrue c.args.self.now.told → AreEntries c.args.self.now.book (numbered c.args.self.now.index))
    (c.shows_its_book.ensures.shows.consistent.shown refl)
