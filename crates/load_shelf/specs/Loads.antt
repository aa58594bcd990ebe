-- Books that took the exchanges of a load.
use Rattle.std.specs.Prelude.{◌≡◌, ℕ, zero, suc, ◌<◌, Bool, IsTrue, List, []}
use Rattle.archive_shelf.specs.Openings.{HasJust}
use Rattle.archive_shelf.specs.Storing.{Storing, stored_by}
use Rattle.archive_shelf.specs.Told.{Told}
use Rattle.capture.specs.Captures.{IsPayloadOf}
use Rattle.capture.specs.declared.book.Book.{Book}
use Rattle.load_maker.specs.Load.{payload, taken_of}

-- the book of this namespace that took the first so many exchanges of a load, one after the other, each by the rule of storing
abbrev pub HoldsFirst : (limit : ℕ) (namespace : List ℕ) (seed count : ℕ) → Book → Type 0
HoldsFirst limit namespace seed zero book = book ≡ record { namespace = namespace; volumes = [] }
HoldsFirst limit namespace seed (suc count) book =
    (before : Book) × HoldsFirst limit namespace seed count before
    × (storing : Storing limit before (taken_of seed count)) × (book ≡ stored_by storing)

-- each of the first so many captures has the payload of its exchange
abbrev pub HavePayloads : (seed count : ℕ) → Book → Type 0
HavePayloads seed count book = (number : ℕ) → number < count → IsPayloadOf book number (payload seed number)

-- A shelf of which is told what its book has took the first so many exchanges of a load: the book did, and the files of the volumes are
-- just that book's texts. Of the first so many the payload was brought back.
pub record IsFilled (now : Told) (seed count replayed : ℕ) : Type 0 where
  pub told : IsTrue now.contents.tells
  pub namespace : List ℕ
  pub holds : HoldsFirst now.contents.limits.volume_bytes namespace seed count now.contents.seen
  pub just : HasJust now.reading now.contents.seen
  pub payloads : HavePayloads seed replayed now.contents.seen

-- where nobody else stores, a shelf that is said to follow the load took so many exchanges
abbrev pub Follows : (alone : Bool) → Told → (seed count replayed : ℕ) (follows : Bool) → Type 0
Follows alone now seed count replayed follows =
    IsTrue alone → IsTrue follows → IsFilled now seed count replayed

-- what is kept of a shelf that follows a load
pub record Held (S : Type 0) : Type 0 where
  pub shelf : S
  pub seed : ℕ
  pub stored : ℕ
  pub replayed : ℕ
  pub follows : Bool
