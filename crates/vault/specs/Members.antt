-- Which vault a pass belongs to.
use Rattle.std.specs.Prelude.{◌≡◌, ℕ, ◌+◌, Bool, false, IsTrue, IfSome, List, [], ◌∷◌, length, slice_get}
use Rattle.capture.specs.declared.book.Book.{Book}
use Rattle.capture.specs.declared.limits.Limits.{Limits}
use Rattle.index_entry.specs.OfBook.{AreEntries}
use Rattle.warc_text.specs.Sound.{IsSound}
use Rattle.archive_shelf.specs.Storing.{empty_book}
use Rattle.history_lock.specs.Known.{Known, LockId}
use Rattle.vault_lists.specs.Items.{shown_in}
use Rattle.vault.specs.Company.{Passing}
use Rattle.vault_turns.specs.History.{IsOpening, given_faults, is_told, not_sure, sure_in, told_book, told_limits}
use Rattle.vault.specs.Orderly.{IsOrderly, given_book}
use Rattle.vault_turns.specs.declared.noted.Noted.{Noted}
use Rattle.vault_turns.specs.declared.noted.Sure.{Sure}

-- What a vault is called: its lock, how many passes it was made with, and the archive that was given to it: its book, its limits, whether
-- its disk tells what it holds, how many faults that had counted, and what was sure of a crash then.
pub record VaultName : Type 0 where
  pub lock : LockId
  pub passes : ℕ
  pub book : Book
  pub limits : Limits
  pub tells : Bool
  pub faults : ℕ
  pub sure : Sure

-- the name that says nothing
abbrev pub no_vault : VaultName
no_vault = record {
  lock = record { words = 0; slots = 0; views_name = 0; atom = 0; block = 0; offset = 0; slot_names = [] };
  passes = 0;
  book = empty_book [];
  limits = record { volume_bytes = 0; captures = 0 };
  tells = false;
  faults = 0;
  sure = not_sure;
}

-- A pass of this vault, with one number. It is orderly, and where the disk tells what it holds, the book that it has seen is sound.
pub record IsMember (vault : VaultName) (pass : Known Noted) : Type 0 where
  pub lock_is : pass.lock ≡ vault.lock
  pub count : pass.passes ≡ vault.passes
  pub alone : pass.numbers ≡ pass.number ∷ []
  pub orderly : IsOrderly vault.book pass
  pub limits_are : told_limits pass.seen ≡ vault.limits
  pub told : is_told pass.seen ≡ vault.tells
  pub given : given_faults pass.seen ≡ vault.faults
  pub sure : sure_in pass.seen ≡ vault.sure
  pub sound : IsTrue vault.tells → IsSound (told_book pass.seen)

-- The pass of this vault with this number as it is made: it has seen that the archive was given and nothing else, and where the disk tells what
-- it holds, what it has seen by date are the entries of its book.
pub record IsNewMember (vault : VaultName) (number : ℕ) (pass : Passing) : Type 0 where
  pub member : IsMember vault pass.known
  pub number_is : pass.known.number ≡ number
  pub book_is : told_book pass.known.seen ≡ vault.book
  pub opens : IsOpening vault.book vault.limits pass.known.seen
  pub shows : IsTrue vault.tells → AreEntries vault.book (shown_in pass.shown.items)

-- the passes of a vault as they are made, in the order of their numbers
pub record AreNewMembers (vault : VaultName) (passes : List Passing) : Type 0 where
  pub count : length passes ≡ vault.passes
  pub each : (k : ℕ) → IfSome (slice_get passes k) (IsNewMember vault (k + 1))

-- the pass of this vault with this number
pub record IsMemberAt (vault : VaultName) (number : ℕ) (pass : Passing) : Type 0 where
  pub member : IsMember vault pass.known
  pub number_is : pass.known.number ≡ number

-- all passes of a vault, in the order of their numbers
pub record AreMembers (vault : VaultName) (passes : List Passing) : Type 0 where
  pub count : length passes ≡ vault.passes
  pub each : (k : ℕ) → IfSome (slice_get passes k) (IsMemberAt vault (k + 1))

-- the name of the vault of this lock with these passes
abbrev pub name_of : LockId → List Passing → VaultName
name_of lock [] = record no_vault { lock = lock }
name_of lock (pass ∷ others) = record {
  lock = lock;
  passes = pass.known.passes;
  book = given_book pass.known.seen;
  limits = told_limits pass.known.seen;
  tells = is_told pass.known.seen;
  faults = given_faults pass.known.seen;
  sure = sure_in pass.known.seen;
}
