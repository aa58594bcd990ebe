-- The passes of a vault.
use Rattle.std.specs.Prelude.{◌≡◌, ℕ, Bool, IsTrue, List}
use Rattle.capture.specs.declared.book.Book.{Book}
use Rattle.capture.specs.declared.limits.Limits.{Limits}
use Rattle.index_entry.specs.OfBook.{AreEntries}
use Rattle.history_lock.specs.Known.{Known, LockId, newcomer}
use Rattle.history_lock.specs.Seen.{Shows}
use Rattle.vault_lists.specs.Items.{shown_in}
use Rattle.vault_turns.specs.History.{IsBegun, IsOpening, by_of, given_faults, is_told, sure_in, told_book, told_limits}
use Rattle.vault_turns.specs.Calm.{Crash}
use Rattle.vault.specs.Company.{Passing}
use Rattle.vault_turns.specs.Own.{AreCounted, faults_since}
use Rattle.vault_turns.specs.declared.noted.Noted.{Noted}
use Rattle.vault_turns.specs.declared.noted.Sure.{Sure}

-- the pass with this number as it is made: it has seen that the archive was given, with this book and these limits
pub record IsMade (lock : LockId) (passes number : ℕ) (book : Book) (limits : Limits) (pass : Known Noted) : Type 0 where
  pub is : pass ≡ newcomer lock passes number pass.seen
  pub opens : IsOpening book limits pass.seen

-- with what it has seen by date: where the disk tells what it holds, these are the book's entries; the disk had counted so many faults; and this
-- was sure of a crash
pub record IsNew (tells : Bool) (sure : Sure) (faults : ℕ) (lock : LockId) (passes number : ℕ) (book : Book) (limits : Limits) (pass : Passing) : Type 0 where
  pub made : IsMade lock passes number book limits pass.known
  pub told : is_told pass.known.seen ≡ tells
  pub given : given_faults pass.known.seen ≡ faults
  pub sure_is : sure_in pass.known.seen ≡ sure
  pub shows : IsTrue tells → AreEntries book (shown_in pass.shown.items)

-- What is left when a vault is closed: the book and the limits of some history that the pass had seen the beginning of, whether the book is
-- told as that says, and a disk that has counted the faults which it tells of. A crash leaves of the archive what was sure of it when it was given: its
-- book alone where no fault was met, and in any case its checkpoints, and what stood in its volumes.
pub record IsLeft (pass : Known Noted) (book : Book) (limits : Limits) (told : Bool) (faults : ℕ) (crash : Crash) : Type 0 where
  pub history : List Noted
  pub shows : Shows by_of pass.passes pass.numbers pass.seen history
  pub begun : IsBegun history
  pub book_is : book ≡ told_book history
  pub limits_are : limits ≡ told_limits history
  pub told_is : told ≡ is_told history
  pub counted : AreCounted history faults
  pub calm : IsTrue (sure_in history).calm → faults_since history ≡ 0 → crash.calm
  pub right : IsTrue (sure_in history).right → crash.right
  pub lasts : IsTrue (sure_in history).lasts → crash.lasts (sure_in history).stood
