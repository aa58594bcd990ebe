-- What lies behind a vault's lock.
use Rattle.std.specs.Prelude.{◌≡◌, ℕ, ◌+◌, ◌<◌, ◌≤◌, Bool, true, List, Contains, length}
use Rattle.capture.specs.Captures.{captures}
use Rattle.capture.specs.Growth.{Grows}
use Rattle.index_entry.specs.Facts.{Facts}
use Rattle.archive_core.specs.Holdings.{Holdings}
use Rattle.archive_index.specs.Shown.{numbered}
use Rattle.index_snapshot.specs.Entries.{entries_in}
use Rattle.index_snapshot.specs.Publishing.{Print}
use Rattle.vault_lists.specs.Items.{AreItems, brings_of, last_book, tells_in}
use Rattle.vault_lists.specs.declared.item.Item.{Item}
use Rattle.vault_turns.specs.History.{IsBegun, Names, is_told, told_book, told_limits}
use Rattle.vault_turns.specs.declared.noted.Noted.{Noted}

-- the history, and what the archive holds
pub record Guarded (D : Type 0) : Type 0 where
  pub history : List Noted
  pub holdings : Holdings D

-- the archive has the book and the limits that the history tells, and is told of that book where it says so
pub record Stands {D : Type 0} (history : List Noted) (holdings : Holdings D) : Type 0 where
  pub begun : IsBegun history
  pub book : holdings.book ≡ told_book history
  pub limits : holdings.limits ≡ told_limits history
  pub told : holdings.told ≡ is_told history

-- these, the list that is published, and whether that has the archive's book
pub record Publication (D : Type 0) : Type 0 where
  pub kept : Guarded D
  pub print : Print Item
  pub whole : Bool

-- each of these entries is shown by the archive
abbrev pub AreShown : {D : Type 0} → List Facts → Holdings D → Type 0
AreShown entries holdings = (entry : Facts) → Contains entries entry → Contains (numbered holdings.index) entry

-- what an archive shows it shows later too
abbrev pub KeepsShown : {D : Type 0} → Holdings D → Holdings D → Type 0
KeepsShown was is = AreShown (numbered was.index) is

-- The history names the list, whose last book is the archive's, or lacks of that one capture at most. So many captures were appended. The
-- archive shows the entries of the list.
pub record Publishes {D : Type 0} (tells : Bool) (history : List Noted) (holdings : Holdings D) (print : Print Item) (whole : Bool) (appended : ℕ) : Type 0 where
  pub named : Names history print.of
  pub told : is_told history ≡ tells
  pub list_told : tells_in print.full ≡ tells
  pub fits : AreItems print.full
  pub shown : AreShown (entries_in brings_of print.full) holdings
  pub some : 0 < length print.full
  pub grows : Grows (last_book print.full) holdings.book
  pub count : length (captures (last_book print.full)) ≡ appended
  pub few : length (captures holdings.book) ≤ appended + 1
  pub same : whole ≡ true → last_book print.full ≡ holdings.book
