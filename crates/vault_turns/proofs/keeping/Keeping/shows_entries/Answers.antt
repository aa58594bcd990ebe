use Rattle.std.proofs.Common.{IsTrue, refl, subst}
use Rattle.index_entry.specs.OfBook.{AreEntries}
use Rattle.archive_index.specs.Shown.{numbered}
use Rattle.vault_turns.specs.Guarded.{Guarded}
use Rattle.vault_turns.proofs.keeping.Keeping.shows_entries.Goals as goal

pub returns : goal.returns
returns g c =
    subst (λ (k : Guarded _). IsTrue k.holdings.told → AreEntries k.holdings.book (numbered k.holdings.index)) c.self.view_is
    (c.shows_its_book.ensures.shows.consistent.shown refl)
