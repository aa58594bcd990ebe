-- What an event answers and leaves, by the book, the other one that an opening may give in its place, and how many checkpoints stand.
use Rattle.std.specs.Prelude.{◌≡◌, ◌⊎◌, ℕ, ◌+◌, ◌-◌, ◌<◌, ◌≤◌, true, if◌then◌else◌, bytes_eq, List, length, Option, Some, None, Result, Ok, Err, ⊤}
use Rattle.capture.specs.Captures.{captures}
use Rattle.capture.specs.declared.book.Book.{Book}
use Rattle.capture.specs.declared.captured.Brought.{Brought}
use Rattle.capture.specs.declared.captured.Taken.{Taken}
use Rattle.capture.specs.declared.limits.Limits.{Limits}
use Rattle.index_entry.specs.Facts.{Facts}
use Rattle.index_entry.specs.OfBook.{AreEntries}
use Rattle.checkpoint.specs.declared.fault.CheckpointFault.{CheckpointFault}
use Rattle.archive_shelf.specs.Answers.{IsBrought}
use Rattle.archive_shelf.specs.Queries.{ArePicked, IsFound}
use Rattle.archive_shelf.specs.Storing.{Storing, rolled, stored_by}
use Rattle.archive_shelf.specs.declared.fault.BringFault.{BringFault}
use Rattle.archive_shelf.specs.declared.fault.BringFault.TheVariants as brings
use Rattle.archive_shelf.specs.declared.fault.RollFault.{RollFault}
use Rattle.archive_shelf.specs.declared.fault.RollFault.TheVariants as rolls
use Rattle.archive_shelf.specs.declared.fault.StoreFault.{StoreFault}
use Rattle.archive_shelf.specs.declared.fault.StoreFault.TheVariants as stores
use Rattle.archive_shelf.specs.declared.receipt.Receipt.{Receipt}
use Rattle.archive_volumes.specs.Held.{is_filled}

-- The book; the one other book that an opening may give in its place, if there is one; and of how many of its sealed volumes the
-- checkpoint is finished, whatever a crash leaves.
pub record State : Type 0 where
  pub book : Book
  pub other : Option Book
  pub settled : ℕ

-- how many volumes are sealed: all but the last
abbrev pub sealed : Book → ℕ
sealed book = length book.volumes - 1

-- there are as many captures as there may be
abbrev pub IsFull : Limits → State → Type 0
IsFull limits was = limits.captures ≤ length (captures was.book)

abbrev pub HasRoom : Limits → State → Type 0
HasRoom limits was = length (captures was.book) < limits.captures

-- ---- storing

-- the capture stands behind all others, and no other book may be opened
pub record IsStored (limits : Limits) (was : State) (taken : Taken) (receipt : Receipt) (is : State) : Type 0 where
  pub room : HasRoom limits was
  pub storing : Storing limits.volume_bytes was.book taken
  pub number : receipt.number ≡ length (captures was.book)
  pub same_as : receipt.same_as ≡ storing.same
  pub left : is ≡ record was { book = stored_by storing; other = None }

-- the disk refused it and the book stayed: what might have been opened in its place may be still
pub record StaysRefused (was is : State) : Type 0 where
  pub other : (is.other ≡ was.other) ⊎ (is.other ≡ None)
  pub left : is ≡ record was { other = is.other }

-- or writing was begun: the volume that it needs may be there, and may be opened, and so may the capture
pub record LeavesPart {limit : ℕ} {taken : Taken} (was : State) (storing : Storing limit was.book taken) (is : State) : Type 0 where
  pub book : (is.book ≡ was.book) ⊎ (is.book ≡ storing.unfilled)
  pub other : (is.other ≡ None) ⊎ (is.other ≡ Some storing.unfilled) ⊎ (is.other ≡ Some (stored_by storing))
  pub left : is ≡ record was { book = is.book; other = is.other }

abbrev pub LeavesRefused : Limits → State → Taken → State → Type 0
LeavesRefused limits was taken is =
    StaysRefused was is ⊎ ((storing : Storing limits.volume_bytes was.book taken) × LeavesPart was storing is)

-- what a store answers and leaves; damage is never met
abbrev pub Stores : Limits → State → Taken → Result Receipt StoreFault → State → Type 0
Stores limits was taken (Ok receipt) is = IsStored limits was taken receipt is
Stores limits was taken (Err (stores.Full count limit)) is =
    IsFull limits was × (count ≡ length (captures was.book)) × (limit ≡ limits.captures) × (is ≡ was)
Stores limits was taken (Err stores.DiskFault) is = HasRoom limits was × LeavesRefused limits was taken is
Stores limits was taken (Err (stores.Damaged number kept found)) is = ⊥
Stores limits was taken (Err stores.Memory) is = is ≡ was

-- ---- beginning a volume

-- a volume that was asked for is there, where the last one holds a capture; else all stays
abbrev pub after_roll : State → ℕ → State
after_roll was now = if is_filled was.book.volumes then record was { book = rolled was.book now; other = None } else was

-- the disk refused it: the book stays, and may be opened with the volume
pub record IsRollRefused (was : State) (now : ℕ) (is : State) : Type 0 where
  pub filled : is_filled was.book.volumes ≡ true
  pub other : (is.other ≡ was.other) ⊎ (is.other ≡ None) ⊎ (is.other ≡ Some (rolled was.book now))
  pub left : is ≡ record was { other = is.other }

abbrev pub Rolls : {T : Type 0} → State → ℕ → Result T RollFault → State → Type 0
Rolls was now (Ok done) is = is ≡ after_roll was now
Rolls was now (Err rolls.DiskFault) is = IsRollRefused was now is
Rolls was now (Err rolls.Memory) is = is ≡ was

-- ---- reading

-- what bringing a capture answers: all of it by the book
abbrev pub Brings : Book → ℕ → Result Brought BringFault → Type 0
Brings book number (Ok brought) = IsBrought book number brought
Brings book number (Err (brings.NoSuch count)) = (count ≡ length (captures book)) × (count ≤ number)
Brings book number (Err brings.DiskFault) = number < length (captures book)
Brings book number (Err (brings.Damaged at kept found)) = ⊥
Brings book number (Err brings.Memory) = ⊤

-- the entry that is found is the nearest of the book's
pub record IsNearestIn (book : Book) (key : List ℕ) (time : ℕ) (found : Option Facts) : Type 0 where
  pub entries : List Facts
  pub are : AreEntries book entries
  pub is : IsFound entries key time found

-- these are the book's entries of the key, in order of the index
pub record AreMapped (book : Book) (key : List ℕ) (mapped : List Facts) : Type 0 where
  pub entries : List Facts
  pub are : AreEntries book entries
  pub is : ArePicked (λ entry. bytes_eq key entry.key) entries mapped

-- ---- checkpoints

-- those that were missing were written, and now each sealed volume has one; refused, some more may have
abbrev pub Settles : State → Result ℕ CheckpointFault → State → Type 0
Settles was (Ok written) is = (written ≡ sealed was.book - was.settled) × (is ≡ record was { settled = sealed was.book })
Settles was (Err fault) is =
    (was.settled ≤ is.settled) × (is.settled ≤ sealed was.book) × (is ≡ record was { settled = is.settled })

-- ---- stopping

-- the book that is opened is this one, or the one that might be in its place
abbrev pub IsEither : State → Book → Type 0
IsEither was book = (book ≡ was.book) ⊎ (was.other ≡ Some book)

-- an opening gave this book alone; a checkpoint that was being written may be whole
pub record Reopens (was : State) (is : State) : Type 0 where
  pub other : is.other ≡ None
  pub settled : (is.settled ≡ was.settled) ⊎ ((is.settled ≡ was.settled + 1) × (is.settled ≤ sealed is.book))

-- while a capture was stored: the book, or what might be in its place, or that with the volume it needs, or that with the capture
abbrev pub IsLeftWithin : Limits → State → Taken → Book → Type 0
IsLeftWithin limits was taken book =
    IsEither was book
    ⊎ (HasRoom limits was × ((storing : Storing limits.volume_bytes was.book taken) × ((book ≡ storing.unfilled) ⊎ (book ≡ stored_by storing))))
