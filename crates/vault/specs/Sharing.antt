-- How the passes of a vault share out what its last history tells.
use Rattle.std.specs.Prelude.{◌≡◌, ℕ, ◌+◌, ◌≤◌, Bool, IsTrue, List, [], ◌∷◌, ◌++◌, length, slice_get, IfSome, sum_by, flat_map, IsPermutation}
use Rattle.std.specs.List.{range_with_len}
use Rattle.std.specs.List.Sorted.{IsStrictlyIncreasing}
use Rattle.capture.specs.Captures.{captures}
use Rattle.capture.specs.Faults.{RoseBy}
use Rattle.capture.specs.Growth.{Grows}
use Rattle.capture.specs.declared.book.Book.{Book}
use Rattle.capture.specs.declared.limits.Limits.{Limits}
use Rattle.history_lock.specs.Known.{Known}
use Rattle.history_lock.specs.Seen.{Shows}
use Rattle.vault_turns.specs.Calm.{Crash}
use Rattle.vault.specs.Company.{Passing}
use Rattle.vault_turns.specs.History.{by_of, told_book}
use Rattle.vault.specs.Members.{VaultName}
use Rattle.vault.specs.Orderly.{IsOrderly, NamePasses}
use Rattle.vault_turns.specs.Own.{faults_since, own_captures, own_entries, own_faults}
use Rattle.vault_turns.specs.declared.noted.Noted.{Noted}

-- The pass is orderly, it has this number alone, out of so many, and the history shows what it has seen.
pub record HasPart (book : Book) (passes number : ℕ) (history : List Noted) (pass : Known Noted) : Type 0 where
  pub count : pass.passes ≡ passes
  pub numbers : pass.numbers ≡ number ∷ []
  pub orderly : IsOrderly book pass
  pub shows : Shows by_of pass.passes pass.numbers pass.seen history

-- The entries that a pass has seen as its own are all that the history has under its number. Their captures stand in the book that the
-- history tells, under the numbers that they had when they were stored, in that order.
pub record HasItsOwn (history : List Noted) (pass : Known Noted) : Type 0 where
  pub entries : own_entries pass.numbers history ≡ own_entries pass.numbers pass.seen
  pub captures : own_captures pass.numbers history ≡ own_captures pass.numbers pass.seen
  pub rise : IsStrictlyIncreasing (own_captures pass.numbers pass.seen)
  pub grown : Grows (told_book pass.seen) (told_book history)

-- how many captures all passes stored
abbrev pub all_stored : List (Known Noted) → ℕ
all_stored passes = sum_by (λ pass. length (own_captures pass.numbers pass.seen)) passes

-- Each entry of the history, but the first, is one of a pass. The captures that the passes stored are together just those which the book
-- told has behind the ones of the book that was given, each once; and what faults were met are theirs.
pub record IsSharedOut (book : Book) (passes : List (Known Noted)) (history : List Noted) : Type 0 where
  pub named : NamePasses (length passes) history
  pub own : (k : ℕ) → IfSome (slice_get passes k) (HasItsOwn history)
  pub grown : Grows book (told_book history)
  pub count : length (captures (told_book history)) ≡ length (captures book) + all_stored passes
  pub once : IsPermutation (flat_map (λ pass. own_captures pass.numbers pass.seen) passes)
      (range_with_len (length (captures book)) (all_stored passes))
  pub faults : faults_since history ≡ sum_by (λ pass. own_faults pass.numbers pass.seen) passes

-- So it is with a history that shows what all passes of a vault have seen.
abbrev pub HistoriesAreSharedOut : Type 0
HistoriesAreSharedOut =
    (book : Book) (passes : List (Known Noted)) (history : List Noted) → 1 ≤ length passes
    → ((k : ℕ) → IfSome (slice_get passes k) (HasPart book (length passes) (k + 1) history)) → IsSharedOut book passes history

-- ---- what all passes of a vault leave

-- the history begins with all that the pass has seen, and has behind that entries of others alone
abbrev pub IsShownIn : List Noted → Passing → Type 0
IsShownIn history pass = Shows by_of pass.known.passes pass.known.numbers pass.known.seen history

-- What is left when a vault is closed with all its passes: the book of a history that is shared out among them; the limits, and whether
-- the book is told, as of the archive that was given; a disk whose count of faults has risen by those that the passes met; and of
-- what a crash leaves, what was sure of it when the archive was given: its book alone where they met none, and in any case its checkpoints, and what
-- stood in its volumes.
pub record IsLeftByAll (vault : VaultName) (passes : List (Known Noted)) (book : Book) (limits : Limits) (told : Bool) (faults : ℕ) (crash : Crash) : Type 0 where
  pub history : List Noted
  pub shared : IsSharedOut vault.book passes history
  pub book_is : book ≡ told_book history
  pub limits_are : limits ≡ vault.limits
  pub told_is : told ≡ vault.tells
  pub counted : RoseBy (sum_by (λ pass. own_faults pass.numbers pass.seen) passes) vault.faults faults
  pub calm : IsTrue vault.sure.calm → sum_by (λ pass. own_faults pass.numbers pass.seen) passes ≡ 0 → crash.calm
  pub right : IsTrue vault.sure.right → crash.right
  pub lasts : IsTrue vault.sure.lasts → crash.lasts vault.sure.stood

-- ---- histories that were shown one after the other

-- what is shown of what is shown
abbrev pub ShowingGoesOn : Type 0
ShowingGoesOn =
    (passes : ℕ) (numbers : List ℕ) (seen later last : List Noted) → Shows by_of passes numbers seen later
    → Shows by_of passes numbers later last → Shows by_of passes numbers seen last

-- what is shown of two passes in one
abbrev pub PartsAreShown : Type 0
PartsAreShown =
    (passes : ℕ) (numbers others : List ℕ) (seen history : List Noted) → Shows by_of passes (numbers ++ others) seen history
    → Shows by_of passes numbers seen history × Shows by_of passes others seen history
