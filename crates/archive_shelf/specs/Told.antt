-- What is told of a shelf, and what each of its calls leaves of that. Whatever stands on a shelf cites these statements.
use Rattle.std.specs.Prelude.{◌≡◌, ◌≤◌, ℕ, Bool, false, IsTrue, List, OnOk, None, Result}
use Rattle.capture.specs.Growth.{Grows}
use Rattle.capture.specs.declared.captured.Taken.{Taken}
use Rattle.index_entry.specs.Facts.{Facts}
use Rattle.disk_model.specs.Image.{Image}
use Rattle.archive_shelf.specs.Answers.{CountsIf, LeavesReading, StoreLeaves, WritesNone, is_store_fault}
use Rattle.archive_shelf.specs.Contents.{Begins, Contents, IsConsistent, Looks, Shows, Stays}
use Rattle.archive_shelf.specs.Openings.{CrashStates, HasIds, HasJust, IsRefused, IsState, KeepsCheckpoints, LeavesNoMore, MayLeave, Moves, OpensNext, StaysCovered}
use Rattle.archive_shelf.specs.declared.fault.StoreFault.{StoreFault}
use Rattle.archive_shelf.specs.declared.receipt.Receipt.{Receipt}

-- What is told of a shelf: its contents; how many faults of the disk it has met; what a read of its files gives, which is told alone,
-- over a disk that tells; and what a crash may leave.
pub record Told : Type 1 where
  pub contents : Contents
  pub faults : ℕ
  pub reading : Image
  pub crash : CrashStates

-- ---- what holds of a shelf

-- what is shown knows the captures of the book that is seen, where the disk is told
abbrev pub KnowsBook : Bool → Contents → Type 0
KnowsBook alone now = IsTrue now.tells → Shows alone now.seen now.shown

-- It shows its book: that is sound and alone its entries are what is shown, where the disk is told; what may be opened is next to it.
pub record ShowsItsBook (alone : Bool) (now : Told) : Type 0 where
  pub consistent : IsConsistent alone now.contents
  pub next : HasIds now.contents.seen → OpensNext now.crash now.contents.seen

-- where a capture was stored, the files of the volumes are just the texts of the book
abbrev pub HoldsJust : {T E : Type 0} → Bool → Told → Result T E → Type 0
HoldsJust alone now result = IsTrue alone → IsTrue now.contents.tells → OnOk result (HasJust now.reading now.contents.seen)

-- ---- what a call leaves

-- Nothing was written: a read gives what it gave, and a crash leaves nothing more.
pub record WritesNothing (alone : Bool) (was is : Told) : Type 0 where
  pub reading : IsTrue alone → IsTrue was.contents.tells → is.reading ≡ was.reading
  pub crash : LeavesNoMore was.crash is.crash

-- A look at the entries that are shown: the disk wasn't asked.
pub record LooksOn (alone : Bool) (was is : Told) : Type 0 where
  pub looks : Looks alone was.contents is.contents
  pub faults : is.faults ≡ was.faults
  pub unwritten : WritesNothing alone was is

-- The disk was read, and failed or didn't. Nothing was stored.
pub record ReadsOn (alone fault : Bool) (was is : Told) : Type 0 where
  pub stays : Stays alone was.contents is.contents
  pub faults : CountsIf fault was.faults is.faults
  pub unwritten : WritesNothing alone was is

-- A look, or looks with a turn between that showed what couldn't be shown before: nothing was stored, and the disk wasn't asked. In company a book that has
-- grown may be seen then; what knows that knows the one before.
pub record CatchesUp (alone : Bool) (was is : Told) : Type 0 where
  pub reads : ReadsOn alone false was is
  pub knows : IsTrue was.contents.tells → (shown : List Facts) → Shows alone is.contents.seen shown → Shows alone was.contents.seen shown
  pub consistent : IsConsistent alone was.contents → IsConsistent alone is.contents

-- What a crash may leave after a store, at whatever moment it stops that.
pub record StoreMayLeave (alone : Bool) (taken : Taken) (was is : Told) (result : Result Receipt StoreFault) : Type 0 where
  pub later : was.crash.moment ≤ is.crash.moment
  pub moves : HasIds was.contents.seen → Moves was.crash is.crash (MayLeave was.contents.limits.volume_bytes was.contents.seen taken)
  pub only : HasIds was.contents.seen → OnOk result (IsState is.crash is.contents.seen None)
  pub refused : IsTrue alone → IsTrue was.contents.tells → HasIds was.contents.seen → IsTrue (is_store_fault result)
      → IsRefused was.crash is.crash was.contents is.contents taken
  pub quiet : WritesNone result → Moves was.crash is.crash (λ x. ⊥)
  pub covered : StaysCovered was.crash is.crash
  pub kept : KeepsCheckpoints was.crash is.crash

-- A capture was stored, or refused.
pub record StoresOn (alone : Bool) (taken : Taken) (was is : Told) (result : Result Receipt StoreFault) : Type 0 where
  pub leaves : StoreLeaves alone taken was.contents is.contents result
  pub faults : CountsIf (is_store_fault result) was.faults is.faults
  pub reading : IsTrue alone → IsTrue was.contents.tells → LeavesReading was.reading is.reading result
  pub crash : StoreMayLeave alone taken was is result

-- ---- what holds through each call

-- Whatever is called, and whatever the disk tells: the book grows, what is shown and the numbers of the shelf's own captures go on, limits
-- stay, and no count or moment falls.
pub record GoesOn (alone : Bool) (was is : Told) : Type 0 where
  pub grows : Grows was.contents.seen is.contents.seen
  pub shows : Begins was.contents.shown is.contents.shown
  pub mine : Begins was.contents.mine is.contents.mine
  pub same_tells : is.contents.tells ≡ was.contents.tells
  pub same_limits : is.contents.limits ≡ was.contents.limits
  pub consistent : IsConsistent alone was.contents → IsConsistent alone is.contents
  pub faults : was.faults ≤ is.faults
  pub later : was.crash.moment ≤ is.crash.moment
  pub covered : StaysCovered was.crash is.crash
  pub kept : KeepsCheckpoints was.crash is.crash
