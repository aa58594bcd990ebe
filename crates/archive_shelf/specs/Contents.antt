-- What a shelf tells of what it holds, and what its calls change of it.
use Rattle.std.specs.Prelude.{None, ◌≡◌, ◌⊎◌, ℕ, ◌≤◌, Bool, true, false, IsTrue, List, [], ◌∷◌, ◌++◌, length, Contains, Option, Some}
use Rattle.std.specs.List.Sorted.{IsStrictlySortedBy}
use Rattle.capture.specs.Captures.{captures}
use Rattle.capture.specs.Growth.{Grows}
use Rattle.capture.specs.declared.book.Book.{Book}
use Rattle.capture.specs.declared.limits.Limits.{Limits}
use Rattle.index_entry.specs.Facts.{Facts}
use Rattle.index_entry.specs.OfBook.{AreEntries, by_number}
use Rattle.warc_text.specs.Sound.{IsSound}

-- Whether what the disk holds is told; the book that was seen last; the entries that are shown, by number; the numbers that
-- its own stores gave; and its limits.
pub record Contents : Type 0 where
  pub tells : Bool
  pub seen : Book
  pub shown : List Facts
  pub mine : List ℕ
  pub limits : Limits

-- a list is the beginning of another
pub record Begins {A : Type 0} (front whole : List A) : Type 0 where
  pub rest : List A
  pub joined : whole ≡ front ++ rest

-- from the book that was seen last to the one that a call finds: alone it is the same, in company it may have grown
abbrev pub Leads : Bool → Book → Book → Type 0
Leads true old new = new ≡ old
Leads false old new = Grows old new

-- and what is shown: alone it is the same, or where a capture with this number was stored, at most its own entry is new; in company there may be more
abbrev pub LeadsShown : Bool → Option ℕ → List Facts → List Facts → Type 0
LeadsShown true None old new = new ≡ old
LeadsShown true (Some number) old new = (new ≡ old) ⊎ ((entry : Facts) × (entry.number ≡ number) × (new ≡ old ++ entry ∷ []))
LeadsShown false stored old new = Begins old new

-- Nothing was looked at but what is shown: all else stays.
pub record Looks (alone : Bool) (was is : Contents) : Type 0 where
  pub shown : LeadsShown alone None was.shown is.shown
  pub others : is ≡ record was { shown = is.shown }

-- Nothing was stored: all stays but what others did.
pub record Stays (alone : Bool) (was is : Contents) : Type 0 where
  pub seen : Leads alone was.seen is.seen
  pub shown : LeadsShown alone None was.shown is.shown
  pub others : is ≡ record was { seen = is.seen; shown = is.shown }

-- What is shown of the book. Alone that is its entries. In company these are the first, and all stand in order of number; what stands behind them is of later
-- captures, and none of no capture, since all are the entries of a book that has grown from this one.
abbrev pub Shows : Bool → Book → List Facts → Type 0
Shows true book shown = AreEntries book shown
Shows false book shown =
    (entries : List Facts) × AreEntries book entries × (first : Begins entries shown) × IsStrictlySortedBy by_number shown
    × ((entry : Facts) → Contains first.rest entry → length (captures book) ≤ entry.number)
    × (later : Book) × Grows book later × AreEntries later shown

-- Where the disk is told, the book is sound, and alone its entries are what is shown.
pub record IsConsistent (alone : Bool) (now : Contents) : Type 0 where
  pub sound : IsTrue now.tells → IsSound now.seen
  pub shown : IsTrue alone → IsTrue now.tells → AreEntries now.seen now.shown
