-- What storing promises to those who build on it.
use Rattle.std.specs.Prelude.{◌≡◌, ℕ, Bool, IsTrue, List, [], ◌∷◌, ◌++◌, Result, ◌≤◌}
use Rattle.capture.specs.Captures.{captures, KeepsPayload}
use Rattle.capture.specs.Growth.{Grows}
use Rattle.capture.specs.Soundness.{HasSoundCaptures}
use Rattle.capture.specs.declared.book.Book.{Book}
use Rattle.capture.specs.declared.captured.Stored.{Stored}
use Rattle.capture.specs.declared.captured.Taken.{Taken}
use Rattle.archive_shelf.specs.Answers.{StoreLeaves}
use Rattle.archive_shelf.specs.Comparing.{IsRight, HasWhole}
use Rattle.archive_shelf.specs.Contents.{Contents, Leads}
use Rattle.archive_shelf.specs.Openings.{IsNext, MayLeave}
use Rattle.archive_shelf.specs.Storing.{Gains, Storing, as_stored, stored_by}
use Rattle.archive_shelf.specs.declared.fault.StoreFault.{StoreFault}
use Rattle.archive_shelf.specs.declared.looked.Looked.{Looked}
use Rattle.archive_shelf.specs.declared.receipt.Receipt.{Receipt}

-- a book leads to itself
abbrev pub BooksLeadToThemselves : Type 0
BooksLeadToThemselves = (alone : Bool) (book : Book) → Leads alone book book

-- the book that another one leads to has grown from it
abbrev pub LeadingGrows : Type 0
LeadingGrows = (alone : Bool) (old new : Book) → Leads alone old new → Grows old new

-- a capture that is gained stands behind all others
abbrev pub GainsStandBehind : Type 0
GainsStandBehind = (old new : Book) (stored : Stored) → Gains old stored new → captures new ≡ captures old ++ stored ∷ []

-- a book that gained a capture has grown
abbrev pub GainsGrow : Type 0
GainsGrow = (old new : Book) (stored : Stored) → Gains old stored new → Grows old new

-- storing a capture gains it
abbrev pub StoringGains : Type 0
StoringGains =
    (limit : ℕ) (book : Book) (taken : Taken) (storing : Storing limit book taken)
    → Gains book (as_stored taken storing.same) (stored_by storing)

-- whatever a store answers, the book that is seen has grown from the one before
abbrev pub StoresGrow : Type 0
StoresGrow =
    (alone : Bool) (taken : Taken) (was is : Contents) (result : Result Receipt StoreFault)
    → StoreLeaves alone taken was is result → Grows was.seen is.seen

-- what was found of a payload so far stays right when the book grows
abbrev pub LookedStaysRight : Type 0
LookedStaysRight =
    (tells : Bool) (old new : Book) (payload : List ℕ) (looked : Looked) → (IsTrue tells → HasSoundCaptures old) → Grows old new
    → IsRight tells old payload looked → IsRight tells new payload looked

-- a capture that keeps its whole wire, of this payload
pub record IsOriginal (book : Book) (number : ℕ) (payload : List ℕ) : Type 0 where
  pub stored : Stored
  pub wire : List ℕ
  pub keeps : KeepsPayload book number stored wire payload

-- the first capture with a payload, of those that weren't cut, is one
abbrev pub FirstKeepsItsWire : Type 0
FirstKeepsItsWire =
    (book : Book) (number : ℕ) (payload : List ℕ) → HasSoundCaptures book → HasWhole book number payload
    → ((other : ℕ) → HasWhole book other payload → number ≤ other) → IsOriginal book number payload

-- two ways in which a book takes a capture are one
pub record IsOneWay {limit : ℕ} {book : Book} {taken : Taken} (a b : Storing limit book taken) : Type 0 where
  pub same : a.same ≡ b.same
  pub unfilled : a.unfilled ≡ b.unfilled
  pub stored : stored_by a ≡ stored_by b

-- a book takes a capture in one way
abbrev pub CapturesAreStoredOneWay : Type 0
CapturesAreStoredOneWay = (limit : ℕ) (book : Book) (taken : Taken) (a b : Storing limit book taken) → IsOneWay a b

-- what a store may leave is next to the book
abbrev pub StoringLeavesNext : Type 0
StoringLeavesNext = (limit : ℕ) (was : Book) (taken : Taken) (x : Book) → MayLeave limit was taken x → IsNext was x
