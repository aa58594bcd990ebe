-- What is shown of an archive, and an archive whose disk has a fuse.
use Rattle.std.proofs.Common.{◌≡◌, ℕ, IsTrue, List, Option, Some, None, Result, Ok, Err, sym}
use Rattle.std.specs.Prelude.{Contains, IfNone, IfSome, OnOk}
use Rattle.capture.specs.declared.book.Book.{Book}
use Rattle.index_entry.proofs.Entries.{with_number-none, with_number-some}
use Rattle.index_entry.proofs.Members.{among_from_contains, contains_from_among}
use Rattle.index_entry.specs.Facts.{Facts}
use Rattle.index_entry.specs.OfBook.{AreEntries, AreOf}
use Rattle.index_entry.specs.Queries.{IsIndex, with_number}
use Rattle.disk_model.specs.declared.disk.Disk.{Ghosts}
use Rattle.archive_shelf.specs.Answers.{ShowsNone}
use Rattle.archive_core.specs.Holdings.{Holdings, IsArchive, contents_of}
use Rattle.archive_index.specs.Shown.{numbered}
use Rattle.archive_index.proofs.ShownLaws.{numbered_sorted, shown_all, shown_from}

-- what is shown of the index of a book are its entries
pub entries_shown : (book : Book) (index : List Facts) → IsIndex index → AreOf book index → AreEntries book (numbered index)
entries_shown book index is of_book = record {
  in_order = numbered_sorted index is;
  of_book = record {
    each = λ entry has. of_book.each entry (shown_from index entry has);
    found = λ entry stored has. of_book.found entry stored (shown_from index entry has);
    all = λ number stored placed found_by_date.
        let one = of_book.all number stored placed found_by_date in
        (one.0, shown_all index one.0 one.1, one.2);
  };
}

pub shows_entries : {D : Type 0} (d : Ghosts D) (held : Holdings D) → IsArchive d held → IsTrue held.told
    → AreEntries held.book (numbered held.index)
shows_entries d held is told = entries_shown held.book held.index is.indexed (is.known told)

pub on_each_ok : {T E : Type 0} (result : Result T E) (P : Type 0) → P → OnOk result P
on_each_ok (Ok value) P p = p
on_each_ok (Err error) P p = tt

-- ---- the entry of a number

module _ {D : Type 0} (held : Holdings D) (number : ℕ) where
  pub entry_shown : (found : Option Facts) → found ≡ with_number number held.index
      → IfSome found (λ entry. Contains (contents_of held).shown entry)
  entry_shown None is = tt
  entry_shown (Some entry) is =
      shown_all held.index entry (contains_from_among held.index entry (with_number-some number held.index entry (sym is)).0)

  pub entry_number : (found : Option Facts) → found ≡ with_number number held.index → IfSome found (λ entry. entry.number ≡ number)
  entry_number None is = tt
  entry_number (Some entry) is = (with_number-some number held.index entry (sym is)).1

  pub no_entry_shown : (found : Option Facts) → found ≡ with_number number held.index → IfNone found (ShowsNone (contents_of held) number)
  no_entry_shown (Some entry) is = tt
  no_entry_shown None is = λ other shown same.
      with_number-none number held.index (sym is) other (among_from_contains held.index other (shown_from held.index other shown)) same
