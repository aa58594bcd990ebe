-- What a shelf's calls answer, by cases of the answer, and what they leave.
use Rattle.std.specs.Prelude.{◌≡◌, ◌≢◌, ◌⊎◌, ℕ, ◌<◌, ◌≤◌, Bool, true, false, IsTrue, IsFalse, List, [], ◌∷◌, ◌++◌, length, slice_get, Contains, Option, Some, None, Result, Ok, Err, ⊤}
use Rattle.httparse.specs.Grammar.{ResponseHead}
use Rattle.sha1.specs.Sha1.{sha1}
use Rattle.capture.specs.Captures.{captures, IsPayloadOf}
use Rattle.capture.specs.Faults.{Rose}
use Rattle.capture.specs.Message.{IsResponseHeadText}
use Rattle.capture.specs.declared.book.Book.{Book}
use Rattle.capture.specs.declared.captured.Brought.{Brought}
use Rattle.capture.specs.declared.captured.Kept.{Kept}
use Rattle.capture.specs.declared.captured.Kept.TheVariants.{Wire, Same, Cut}
use Rattle.capture.specs.declared.captured.Stored.{Stored}
use Rattle.capture.specs.declared.captured.Taken.{Taken}
use Rattle.index_entry.specs.Facts.{Facts}
use Rattle.index_entry.specs.OfBook.{IsEntryOf}
use Rattle.disk_model.specs.Image.{Image}
use Rattle.time_text.specs.Texts.{InRange}
use Rattle.warc_journal.specs.Extents.{cdxj_files}
use Rattle.archive_shelf.specs.Comparing.{CanRefer, IsSameAs, RefersAsShown, RefersByDigest}
use Rattle.archive_shelf.specs.Contents.{Contents, Leads, LeadsShown, Stays}
use Rattle.archive_shelf.specs.Storing.{Gains, NeedsVolume, Storing, as_stored, stored_by, with_volume}
use Rattle.archive_shelf.specs.declared.fault.BringFault.{BringFault}
use Rattle.archive_shelf.specs.declared.fault.BringFault.TheVariants as brings
use Rattle.archive_shelf.specs.declared.fault.StoreFault.{StoreFault}
use Rattle.archive_shelf.specs.declared.fault.StoreFault.TheVariants as stores
use Rattle.archive_shelf.specs.declared.receipt.Receipt.{Receipt}

-- the bytes that were read have another digest than the one kept, or don't decode: never of a disk that is told
pub record IsDamaged (tells : Bool) (kept : List ℕ) (found : Option (List ℕ)) : Type 0 where
  pub untold : IsFalse tells
  pub other : found ≢ Some kept

-- the capture is stored by the rule, and the receipt names what it refers to
abbrev pub IsByRule : (limit : ℕ) → Book → Taken → Receipt → Book → Type 0
IsByRule limit found taken receipt after =
    (storing : Storing limit found taken) × (receipt.same_as ≡ storing.same) × (after ≡ stored_by storing)

-- The capture was stored, and it alone, in the book that the call found, which wasn't full. Whatever is told, what it refers to has the digest of its payload;
-- where the disk is told it is stored by the rule, and the receipt names what it refers to.
pub record HasStored (alone : Bool) (taken : Taken) (was is : Contents) (receipt : Receipt) : Type 0 where
  pub found : Book
  pub led : Leads alone was.seen found
  pub not_full : length (captures found) < was.limits.captures
  pub number : receipt.number ≡ length (captures found)
  pub refers : CanRefer taken.cut found receipt.same_as
  pub by_digest : RefersByDigest found taken receipt.same_as
  pub as_shown : RefersAsShown is.shown taken receipt.same_as
  pub gained : Gains found (as_stored taken receipt.same_as) is.seen
  pub by_rule : IsTrue was.tells
      → (storing : Storing was.limits.volume_bytes found taken) × (receipt.same_as ≡ storing.same) × (is.seen ≡ stored_by storing)
  pub shown : LeadsShown alone (Some receipt.number) was.shown is.shown
  pub others : is ≡ record was { seen = is.seen; shown = is.shown; mine = was.mine ++ receipt.number ∷ [] }

-- a new volume was needed, and it is there without the capture
pub record HasVolumeAlone (tells : Bool) (limit : ℕ) (found : Book) (taken : Taken) (after : Book) : Type 0 where
  pub volume : after ≡ with_volume found taken.date
  pub needed : IsTrue tells → (same : Option ℕ) × IsSameAs found taken same × NeedsVolume limit found (as_stored taken same) true

-- What a store leaves. It is full exactly where the book that the call found is; want of memory may be answered anywhere. Where the disk failed nothing was
-- stored, but a volume that was needed may be there.
abbrev pub StoreLeaves : Bool → Taken → Contents → Contents → Result Receipt StoreFault → Type 0
StoreLeaves alone taken was is (Ok receipt) = HasStored alone taken was is receipt
StoreLeaves alone taken was is (Err (stores.Full count limit)) =
    Stays alone was is × (was.limits.captures ≤ length (captures is.seen)) × (count ≡ length (captures is.seen)) × (limit ≡ was.limits.captures)
StoreLeaves alone taken was is (Err stores.DiskFault) =
    (found : Book) × Leads alone was.seen found × (length (captures found) < was.limits.captures)
    × ((is.seen ≡ found) ⊎ HasVolumeAlone was.tells was.limits.volume_bytes found taken is.seen)
    × LeadsShown alone None was.shown is.shown × (is ≡ record was { seen = is.seen; shown = is.shown })
StoreLeaves alone taken was is (Err (stores.Damaged number kept found)) =
    Stays alone was is × (length (captures is.seen) < was.limits.captures) × (number < length (captures is.seen)) × IsDamaged was.tells kept found
StoreLeaves alone taken was is (Err stores.Memory) = Stays alone was is

-- what is brought can be replayed: it has the head of a response, and its date has a text
pub record IsReplayable (brought : Brought) : Type 0 where
  pub head : ResponseHead
  pub parsed : IsResponseHeadText brought.head head
  pub in_range : InRange brought.date

-- what is brought names the capture with this number as it was seen, whatever the disk tells
pub record IsNamed (book : Book) (number : ℕ) (brought : Brought) : Type 0 where
  pub stored : Stored
  pub placed : slice_get (captures book) number ≡ Some stored
  pub method : brought.method ≡ stored.method
  pub uri : brought.uri ≡ stored.uri
  pub date : brought.date ≡ stored.date

-- a capture keeps the payload of another one, or its own
abbrev pub KeepsPayloadOf : Book → ℕ → ℕ → Type 0
KeepsPayloadOf book number at =
    (at ≡ number) ⊎ ((stored : Stored) × (slice_get (captures book) number ≡ Some stored) × (stored.kept ≡ Same at))

-- which capture keeps the payload of the one with this number
abbrev pub keeper_by : Kept → ℕ → ℕ
keeper_by (Wire wire) number = number
keeper_by (Same first) number = first
keeper_by (Cut wire) number = number

pub record IsKeeperOf (book : Book) (number keeper : ℕ) : Type 0 where
  pub stored : Stored
  pub placed : slice_get (captures book) number ≡ Some stored
  pub is : keeper ≡ keeper_by stored.kept number

-- What is damaged is named by the capture that keeps the payload; or it is the one that was asked for, of which no head of a response
-- was read.
abbrev pub NamesKeeper : Book → ℕ → Result Brought BringFault → Type 0
NamesKeeper book number (Ok brought) = ⊤
NamesKeeper book number (Err (brings.NoSuch count)) = ⊤
NamesKeeper book number (Err brings.DiskFault) = ⊤
NamesKeeper book number (Err (brings.Damaged at kept found)) = IsKeeperOf book number at ⊎ ((at ≡ number) × (found ≡ None))
NamesKeeper book number (Err brings.Memory) = ⊤

-- what is brought is the capture with this number, with its payload
pub record IsBrought (book : Book) (number : ℕ) (brought : Brought) : Type 0 where
  pub has : IsPayloadOf book number brought.payload
  pub method : brought.method ≡ has.stored.method
  pub uri : brought.uri ≡ has.stored.uri
  pub date : brought.date ≡ has.stored.date
  pub head : brought.head ≡ has.stored.head

-- an entry that is shown under this number is that of the book's capture
abbrev pub AgreesAt : Contents → ℕ → Type 0
AgreesAt shelf number = (entry : Facts) → Contains shelf.shown entry → entry.number ≡ number → IsEntryOf shelf.seen number entry

-- no entry is shown under this number
abbrev pub ShowsNone : Contents → ℕ → Type 0
ShowsNone shelf number = (entry : Facts) → Contains shelf.shown entry → entry.number ≢ number

-- what is brought is what each of these entries under the number tells: its target, its date, and the digest of its payload
abbrev pub BringsAsShown : List Facts → ℕ → Brought → Type 0
BringsAsShown entries number brought =
    (entry : Facts) → Contains entries entry → entry.number ≡ number
    → (entry.uri ≡ brought.uri) × (entry.date ≡ brought.date) × (entry.digest ≡ sha1 brought.payload)

-- What bringing a capture answers, by what is seen and shown after it. There is none exactly where the number isn't below the
-- count; want of memory may be answered anywhere. Whatever is told, what is brought is what the entry tells that is shown.
abbrev pub Brings : Contents → ℕ → Result Brought BringFault → Type 0
Brings is number (Ok brought) =
    (number < length (captures is.seen)) × IsReplayable brought × IsNamed is.seen number brought
    × (IsTrue is.tells → IsBrought is.seen number brought × AgreesAt is number) × BringsAsShown is.shown number brought
Brings is number (Err (brings.NoSuch count)) =
    (count ≡ length (captures is.seen)) × (count ≤ number) × ShowsNone is number
Brings is number (Err brings.DiskFault) = number < length (captures is.seen)
Brings is number (Err (brings.Damaged at kept found)) =
    (number < length (captures is.seen)) × (at ≤ number) × KeepsPayloadOf is.seen number at × IsDamaged is.tells kept found
Brings is number (Err brings.Memory) = ⊤

-- a fault of the disk is the answer
abbrev pub is_store_fault : Result Receipt StoreFault → Bool
is_store_fault (Ok receipt) = false
is_store_fault (Err (stores.Full count limit)) = false
is_store_fault (Err stores.DiskFault) = true
is_store_fault (Err (stores.Damaged number kept found)) = false
is_store_fault (Err stores.Memory) = false

-- of bringing a capture, or its piece
abbrev pub is_bring_fault : {T : Type 0} → Result T BringFault → Bool
is_bring_fault (Ok brought) = false
is_bring_fault (Err (brings.NoSuch count)) = false
is_bring_fault (Err brings.DiskFault) = true
is_bring_fault (Err (brings.Damaged at kept found)) = false
is_bring_fault (Err brings.Memory) = false

-- a count of faults rises where the disk's fault is the answer, and else stays
abbrev pub CountsIf : Bool → ℕ → ℕ → Type 0
CountsIf true before now = (before ≤ now) × Rose before now
CountsIf false before now = now ≡ before

-- neither stored nor refused by the disk: nothing was written
abbrev pub WritesNone : Result Receipt StoreFault → Type 0
WritesNone (Ok receipt) = ⊥
WritesNone (Err (stores.Full count limit)) = ⊤
WritesNone (Err stores.DiskFault) = ⊥
WritesNone (Err (stores.Damaged number kept found)) = ⊤
WritesNone (Err stores.Memory) = ⊤

-- where nothing was written a read gives what it gave, and it gives the checkpoints that it gave in any case
abbrev pub LeavesReading : Image → Image → Result Receipt StoreFault → Type 0
LeavesReading was is result = (WritesNone result → is ≡ was) × (cdxj_files is ≡ cdxj_files was)
