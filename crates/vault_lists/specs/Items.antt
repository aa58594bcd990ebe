-- What is published of a vault: books, each of which has grown from the one before it, with the entries that are new in it.
use Rattle.std.specs.Prelude.{◌<◌, ◌≤◌, Bool, false, IsTrue, List, [], ◌∷◌, ◌++◌, length, Contains, option_to_list}
use Rattle.std.specs.List.Sorted.{IsStrictlySortedBy}
use Rattle.capture.specs.Captures.{captures}
use Rattle.capture.specs.Growth.{Grows}
use Rattle.capture.specs.declared.book.Book.{Book}
use Rattle.index_entry.specs.Facts.{Facts}
use Rattle.index_entry.specs.OfBook.{AreOf, by_number}
use Rattle.index_entry.specs.Queries.{IsIndex}
use Rattle.archive_shelf.specs.Storing.{empty_book}
use Rattle.archive_volumes.specs.Held.{book_of}
use Rattle.archive_index.specs.Shown.{numbered}
use Rattle.index_snapshot.specs.Entries.{entries_in}
use Rattle.vault_lists.specs.declared.item.Entries.{Entries}
use Rattle.vault_lists.specs.declared.item.Entries.TheVariants.{Many, One}
use Rattle.vault_lists.specs.declared.item.Item.{Item}

-- the book of an item
abbrev pub book_in : Item → Book
book_in item = book_of item.held.value

abbrev pub facts_of : Entries → List Facts
facts_of (Many index) = index.value
facts_of (One place) = option_to_list place.value

-- the entries that an item brings
abbrev pub brings_of : Item → List Facts
brings_of item = facts_of item.entries

-- the book of the last item, behind this one
abbrev pub last_from : Book → List Item → Book
last_from book [] = book
last_from book (item ∷ items) = last_from (book_in item) items

-- the book of the last item
abbrev pub last_book : List Item → Book
last_book [] = empty_book []
last_book (item ∷ items) = last_from (book_in item) items

-- whether the disk tells what it holds
abbrev pub tells_in : List Item → Bool
tells_in [] = false
tells_in (item ∷ items) = item.told.value

-- the entries that are shown of a published list, by number
abbrev pub shown_in : List Item → List Facts
shown_in [] = []
shown_in (item ∷ items) = numbered (brings_of item) ++ entries_in brings_of items

-- ---- which lists may be published

-- Behind a list with this book and these entries: the book has grown, and the entries are of captures which the one before hasn't. Where
-- the disk is told, all entries are just those of the book.
pub record GoesBehind (told : Bool) (book : Book) (entries : List Facts) (item : Item) : Type 0 where
  pub grows : Grows book (book_in item)
  pub from : (entry : Facts) → Contains (brings_of item) entry → length (captures book) ≤ entry.number
  pub below : (entry : Facts) → Contains (brings_of item) entry → entry.number < length (captures (book_in item))
  pub in_order : IsStrictlySortedBy by_number (brings_of item)
  pub of_book : IsTrue told → AreOf (book_in item) (entries ++ brings_of item)

abbrev pub GoBehind : Bool → Book → List Facts → List Item → Type 0
GoBehind told book entries [] = Unit {0}
GoBehind told book entries (item ∷ items) =
    GoesBehind told book entries item × GoBehind told (book_in item) (entries ++ brings_of item) items

-- The first item brings an index of captures of its book. Where the disk is told, these are just the book's entries.
pub record OpensList (item : Item) : Type 0 where
  pub indexed : IsIndex (brings_of item)
  pub below : (entry : Facts) → Contains (brings_of item) entry → entry.number < length (captures (book_in item))
  pub of_book : IsTrue item.told.value → AreOf (book_in item) (brings_of item)

abbrev pub AreItems : List Item → Type 0
AreItems [] = Unit {0}
AreItems (item ∷ items) = OpensList item × GoBehind item.told.value (book_in item) (brings_of item) items
