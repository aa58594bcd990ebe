use Rattle.std.proofs.Common.{IsTrue, refl, subst}
use Rattle.std.specs.Prelude.{bytes_eq, IfOk, OnOk}
use Rattle.archive_shelf.specs.Queries.{ArePicked}
use Rattle.index_entry.specs.OfBook.{AreEntries}
use Rattle.archive_core.specs.Holdings.{Holdings}
use Rattle.archive_index.specs.Shown.{numbered}
use Rattle.archive_core.proofs.ArchiveLaws.{on_each_ok}
use Rattle.archive_reopening.proofs.watched.WatchedFinder.map.Goals as goal

pub returns-clause-found : goal.returns-clause-found
returns-clause-found g c =
    subst (λ (held : Holdings _). IfOk c.entries_of.result (λ entries. ArePicked (λ e. bytes_eq c.args.key.now e.key) (numbered held.index) entries.items)) c.self.view_is c.entries_of.ensures

pub returns-clause-knows : goal.returns-clause-knows
returns-clause-knows g c =
    subst (λ (held : Holdings _). OnOk c.entries_of.result (IsTrue held.told → AreEntries held.book (numbered held.index))) c.self.view_is
    (on_each_ok c.entries_of.result (IsTrue c.self.inside.archive.told → AreEntries c.self.inside.archive.book (numbered c.self.inside.archive.index))
    (c.shows_its_book.ensures.shows.consistent.shown refl))
