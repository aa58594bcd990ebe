-- What is taken of an archive for the list that is published.
use Rattle.std.specs.Prelude.{◌≡◌, ℕ, ◌<◌, Bool, IsTrue, IfNone, IfSome, List, length, Contains, Option, None, option_to_list, if◌then◌else◌, nat_lt}
use Rattle.capture.specs.Captures.{captures}
use Rattle.capture.specs.declared.book.Book.{Book}
use Rattle.index_entry.specs.Facts.{Facts}
use Rattle.index_entry.specs.OfBook.{AreEntries, AreOf}
use Rattle.index_entry.specs.Queries.{IsIndex, with_number}
use Rattle.archive_core.specs.Holdings.{Holdings}
use Rattle.archive_index.specs.Shown.{numbered}
use Rattle.vault_lists.specs.Items.{book_in, brings_of}
use Rattle.vault_lists.specs.declared.item.Item.{Item}

-- The item has the archive's book and the entry of a capture, if that is shown by date.
pub record TakesItem {D : Type 0} (tells : Bool) (held : Holdings D) (number : ℕ) (item : Item) (place : Option Facts) : Type 0 where
  pub told : item.told.value ≡ tells
  pub book : book_in item ≡ held.book
  pub brings : brings_of item ≡ option_to_list place
  pub below : IfSome place (λ entry. (entry.number ≡ number) × (number < length (captures held.book)))
  pub shown : IfSome place (λ entry. Contains (numbered held.index) entry)
  pub none : IfNone place (number < length (captures held.book) → (entry : Facts) → Contains (numbered held.index) entry → entry.number ≡ number → ⊥)
  pub entries : IsTrue tells → AreEntries held.book (numbered held.index)

-- the entries of the archive under numbers below this one
abbrev pub HasBelow : ℕ → List Facts → List Facts → Type 0
HasBelow count source index = (number : ℕ) → with_number number index ≡ (if nat_lt number count then with_number number source else None)

-- an index of all entries of the book, which an archive shows that has these
pub record IsGathered (tells : Bool) (book : Book) (source index : List Facts) : Type 0 where
  pub indexed : IsIndex index
  pub shown : (entry : Facts) → Contains index entry → Contains (numbered source) entry
  pub below : (entry : Facts) → Contains index entry → entry.number < length (captures book)
  pub of_book : IsTrue tells → AreOf book index
