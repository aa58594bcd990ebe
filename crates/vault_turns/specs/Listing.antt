-- What a pass knows of the list that is published.
use Rattle.std.specs.Prelude.{◌≡◌, Bool, IsTrue, List, ◌∷◌}
use mathlib.Core.List.{IsPrefix}
use Rattle.capture.specs.declared.book.Book.{Book}
use Rattle.index_entry.specs.Facts.{Facts}
use Rattle.index_entry.specs.OfBook.{AreEntries}
use Rattle.index_snapshot.specs.Edges.{Edge}
use Rattle.vault_lists.specs.Items.{book_in, last_from, tells_in}
use Rattle.vault_lists.specs.declared.item.Item.{Item}
use Rattle.vault_turns.specs.History.{Names, is_told, told_book}
use Rattle.vault_turns.specs.declared.noted.Noted.{Noted}

-- a beginning of the list has the book that the history tells
pub record HasBook (history : List Noted) (items : List Item) : Type 0 where
  pub first : Item
  pub others : List Item
  pub begins : IsPrefix (first ∷ others) items
  pub book_is : last_from (book_in first) others ≡ told_book history

-- there is a list of the book's entries
abbrev pub HasEntries : Book → Type 0
HasEntries book = (entries : List Facts) × AreEntries book entries

-- The note is of the list that the history names; where it is whole, the list has the history's book. Where the disk is told, that book has entries.
pub record IsListed (history : List Noted) (note : Edge Item) (whole : Bool) : Type 0 where
  pub named : Names history note.of
  pub told : tells_in note.items ≡ is_told history
  pub book : IsTrue whole → HasBook history note.items
  pub entries : IsTrue (is_told history) → HasEntries (told_book history)
