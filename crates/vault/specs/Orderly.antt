-- What holds of a pass from the beginning on.
use Rattle.std.specs.Prelude.{◌≡◌, ◌≢◌, ℕ, ◌≤◌, Bool, IsTrue, List, [], ◌∷◌, Result, ⊤}
use Rattle.capture.specs.declared.book.Book.{Book}
use Rattle.capture.specs.declared.captured.Taken.{Taken}
use Rattle.capture.specs.declared.limits.Limits.{Limits}
use Rattle.archive_shelf.specs.Storing.{empty_book}
use Rattle.archive_shelf.specs.declared.fault.StoreFault.{StoreFault}
use Rattle.archive_shelf.specs.declared.receipt.Receipt.{Receipt}
use Rattle.index_entry.specs.Facts.{Facts}
use Rattle.history_lock.specs.Known.{IsSamePass, Known, LockId}
use Rattle.history_lock.specs.Seen.{All, Turn}
use Rattle.vault_turns.specs.History.{after_kind, by_of, opened_book}
use Rattle.vault_turns.specs.Own.{is_among}
use Rattle.vault.specs.Passes.{IsMade}
use Rattle.vault_turns.specs.Turns.{AddsFaultAlone, StoresBy}
use Rattle.vault_turns.specs.declared.noted.Kind.{Kind}
use Rattle.vault_turns.specs.declared.noted.Kind.TheVariants.{Opened, Began, Stored, Failed}
use Rattle.vault_turns.specs.declared.noted.Noted.{Noted}

-- the book that the archive had when it was given
abbrev pub given_book : List Noted → Book
given_book [] = empty_book []
given_book (first ∷ others) = opened_book first.kind

-- the entry names one of so many passes
abbrev pub NamesPass : ℕ → Noted → Type 0
NamesPass passes noted = (1 ≤ noted.by) × (noted.by ≤ passes)

-- the first entry names none, and each other one does
abbrev pub NamePasses : ℕ → List Noted → Type 0
NamePasses passes [] = ⊥
NamePasses passes (first ∷ others) = (first.by ≡ 0) × All (NamesPass passes) others

-- a capture that is noted has a volume to stand in
abbrev pub IsPlaced : Book → Kind → Type 0
IsPlaced book (Opened held limits told list faults sure) = ⊤
IsPlaced book (Began at) = ⊤
IsPlaced book (Stored taken same) = book.volumes ≢ []
IsPlaced book Failed = ⊤

-- so it is with those that were stored under these numbers behind a book
abbrev pub ArePlaced : List ℕ → Book → List Noted → Type 0
ArePlaced numbers book [] = ⊤
ArePlaced numbers book (noted ∷ others) =
    (IsTrue (is_among numbers noted.by) → IsPlaced book noted.kind) × ArePlaced numbers (after_kind book noted.kind) others

-- and with those in a history
abbrev pub HavePlaces : List ℕ → List Noted → Type 0
HavePlaces numbers [] = ⊤
HavePlaces numbers (first ∷ others) = ArePlaced numbers (opened_book first.kind) others

-- The pass has seen that an archive with this book was given, and behind that entries that each name a pass. The captures that it stored
-- itself had a volume to stand in.
pub record IsOrderly (book : Book) (pass : Known Noted) : Type 0 where
  pub given : given_book pass.seen ≡ book
  pub numbered : (1 ≤ pass.number) × (pass.number ≤ pass.passes)
  pub named : NamePasses pass.passes pass.seen
  pub placed : HavePlaces pass.numbers pass.seen

-- It holds of a pass as it is made,
abbrev pub NewPassesAreOrderly : Type 0
NewPassesAreOrderly =
    (lock : LockId) (passes number : ℕ) (book : Book) (limits : Limits) (pass : Known Noted) → 1 ≤ number → number ≤ passes
    → IsMade lock passes number book limits pass → IsOrderly book pass

-- after it stored a capture, or didn't,
abbrev pub StoresKeepOrder : Type 0
StoresKeepOrder =
    (book : Book) (tells : Bool) (entries : List Facts) (taken : Taken) (was is : Known Noted) (result : Result Receipt StoreFault) → IsSamePass was is
    → StoresBy tells entries taken was is result → IsOrderly book was → IsOrderly book is

-- and after each turn that adds a fault at most.
abbrev pub AddsFaultAtMost : List Noted → Type 0
AddsFaultAtMost added = (failed : Bool) × AddsFaultAlone failed added

abbrev pub ReadsKeepOrder : Type 0
ReadsKeepOrder =
    (book : Book) (was is : Known Noted) → IsSamePass was is → Turn by_of was is.seen (λ found added. AddsFaultAtMost added)
    → IsOrderly book was → IsOrderly book is
