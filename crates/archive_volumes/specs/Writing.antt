-- How a store goes on: the room that it makes, the book with the capture, and what is left where it is refused.
use Rattle.std.specs.Prelude.{◌≡◌, ◌⊎◌, ℕ, ◌+◌, ◌-◌, ◌^◌, ◌<◌, ◌≤◌, Bool, true, false, IsTrue, List, [], ◌∷◌, ◌++◌, length, OnErr, OnOk, Option, Some, None, Result}
use Rattle.capture.specs.declared.book.Book.{Book}
use Rattle.capture.specs.declared.captured.Taken.{Taken}
use Rattle.disk_model.specs.declared.disk.Disk.{Ghosts}
use Rattle.time_text.specs.Texts.{InRange}
use Rattle.warc_journal.specs.Journals.{last_len, volumes}
use Rattle.archive_shelf.specs.Gaining.{AreFilled}
use Rattle.archive_shelf.specs.Openings.{HasIds, IsState, Keeps, KeepsCheckpoints, Moves, SameBook, StaysCovered}
use Rattle.archive_shelf.specs.Storing.{Storing, stored_by, with_volume}
use Rattle.archive_volumes.specs.Held.{TakesCapture, TakesVolume, book_of, is_filled}
use Rattle.archive_volumes.specs.Volumes.{IsPrepared, LeavesJust, crash_of}
use Rattle.archive_volumes.specs.declared.room.Prepared.{Prepared}
use Rattle.archive_volumes.specs.declared.volumes.Volumes.{Volumes}

-- ---- room for a capture

-- the volume that was prepared can be begun: all others hold a capture
pub record CanBegin {D : Type 0} (volumes_now : Volumes D) (prepared : Prepared) : Type 0 where
  pub prepared_is : IsPrepared (book_of volumes_now.held) prepared
  pub space : TakesVolume volumes_now.held
  pub filled : AreFilled (book_of volumes_now.held)
  pub number : volumes volumes_now.journal < 2 ^ 32 - 1
  pub born : InRange prepared.shadow.born

-- there is room for a capture in the last volume, or in one that was prepared for it
abbrev pub HasRoomFor : {D : Type 0} → Volumes D → Option Prepared → Type 0
HasRoomFor volumes_now None = TakesCapture volumes_now.held
HasRoomFor volumes_now (Some prepared) = CanBegin volumes_now prepared

-- By how long the last text and the group are, the capture needs a new volume: there is none, or the last one holds a capture
-- and its text would pass the limit with the group. Or it needs none.
abbrev pub IsNeeded : ℕ → Book → ℕ → ℕ → Bool → Type 0
IsNeeded limit book end group true = (length book.volumes ≡ 0) ⊎ ((is_filled book.volumes ≡ true) × (limit < end + group))
IsNeeded limit book end group false = (0 < length book.volumes) × ((is_filled book.volumes ≡ false) ⊎ (end + group ≤ limit))

-- a volume was prepared exactly where it is needed
abbrev pub IsDecided : ℕ → Book → ℕ → ℕ → Option Prepared → Type 0
IsDecided limit book end group None = IsNeeded limit book end group false
IsDecided limit book end group (Some prepared) = IsNeeded limit book end group true

-- the book with that volume, if there is one
abbrev pub with_prepared : Book → Option Prepared → Book
with_prepared book None = book
with_prepared book (Some prepared) = with_volume book prepared.shadow.born

-- the texts of the volumes with it
abbrev pub texts_with : List (List ℕ) → Option Prepared → List (List ℕ)
texts_with texts None = texts
texts_with texts (Some prepared) = texts ++ prepared.info ∷ []

-- where the text ends behind which the capture is to stand
abbrev pub end_with : {D : Type 0} → Volumes D → Option Prepared → ℕ
end_with volumes_now None = last_len volumes_now.journal
end_with volumes_now (Some prepared) = length prepared.info

-- ---- writing

-- the books of a call that writes a capture: the one before, that with room for it, that with it, and the one that is held then
pub record Books : Type 0 where
  pub was : Book
  pub room : Book
  pub after : Book
  pub is : Book

abbrev pub books_as : (was room after is : Book) → Books
books_as was room after is = record { was = was; room = room; after = after; is = is }

-- A call that writes a capture into a book, once a volume was begun if it needs one; or it is refused.
pub record Writes {D T E : Type 0} (d : Ghosts D) (old new : D) (books : Books) (result : Result T E) : Type 0 where
  pub later : (crash_of d old).moment ≤ (crash_of d new).moment
  pub moves : HasIds books.was
      → Moves (crash_of d old) (crash_of d new) (λ x. SameBook x books.was ⊎ ((x ≡ books.room) ⊎ (x ≡ books.after)))
  pub only : HasIds books.was → OnOk result (IsState (crash_of d new) books.after None)
  pub refused : HasIds books.was → OnErr result
      (((books.is ≡ books.was) × Keeps (crash_of d old) (crash_of d new) books.was)
      ⊎ (IsState (crash_of d new) books.is (Some books.room) ⊎ IsState (crash_of d new) books.is (Some books.after)))
  pub covered : StaysCovered (crash_of d old) (crash_of d new)
  pub kept : KeepsCheckpoints (crash_of d old) (crash_of d new)
  pub just : OnOk result (LeavesJust d new books.after)

-- where the disk tells, the book takes the capture in this way: with this book with room, and this one after it
pub record IsWay {D : Type 0} (d : Ghosts D) (limit : ℕ) (book : Book) (taken : Taken) (room after : Book) : Type 0 where
  pub told : IsTrue d.tells
  pub storing : Storing limit book taken
  pub unfilled : room ≡ storing.unfilled
  pub stored : after ≡ stored_by storing

abbrev pub TakesSo : {D : Type 0} → Ghosts D → ℕ → Book → Taken → Book → Book → Type 0
TakesSo d limit book taken room after = IsTrue d.tells → IsWay d limit book taken room after
