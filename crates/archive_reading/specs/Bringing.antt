-- What a call that only reads the volumes leaves, and what it answers.
use Rattle.std.specs.Prelude.{◌≡◌, ◌≢◌, ℕ, ◌≤◌, Bool, true, false, IsTrue, List, Option, Some, None, Result, Ok, Err, if◌then◌else◌, ⊤}
use Rattle.std.specs.Str.{bytes_eq}
use Rattle.sha1.specs.Sha1.{sha1}
use Rattle.capture.specs.Captures.{IsPayloadOf}
use Rattle.capture.specs.declared.book.Book.{Book}
use Rattle.capture.specs.declared.captured.Brought.{Brought}
use Rattle.disk_model.specs.declared.disk.Disk.{Ghosts}
use Rattle.warc_journal.specs.Journals.{IsInStep, Rests, disk_of, extent_of, texts}
use Rattle.archive_shelf.specs.Answers.{IsBrought, IsDamaged, IsNamed, IsReplayable, KeepsPayloadOf}
use Rattle.archive_shelf.specs.declared.fault.BringFault.{BringFault}
use Rattle.archive_shelf.specs.declared.fault.BringFault.TheVariants as brings
use Rattle.archive_shelf.specs.declared.fault.StoreFault.{StoreFault}
use Rattle.archive_shelf.specs.declared.fault.StoreFault.TheVariants as stores
use Rattle.archive_reading.specs.Decoding.{DecodesToDigest, IsHead}
use Rattle.archive_volumes.specs.Held.{book_of}
use Rattle.archive_volumes.specs.Spots.{IsPlaced, IsSpotOf, head_in, is_cut_form, is_same_form, is_told_form, wire_in}
use Rattle.archive_volumes.specs.Volumes.{HoldsBook, IsMeasured, IsQuiet}
use Rattle.archive_reading.specs.declared.part.ReadFault.{ReadFault}
use Rattle.archive_reading.specs.declared.part.ReadFault.TheVariants as reads
use Rattle.archive_reading.specs.declared.payload.ReadBack.{ReadBack}
use Rattle.archive_reading.specs.declared.payload.ReadBack.TheVariants as back
use Rattle.archive_volumes.specs.declared.spot.Spot.{Spot}
use Rattle.archive_volumes.specs.declared.volumes.Volumes.{Volumes}

-- The volumes hold the book that they held, and nothing more may be opened. Where the disk tells, a read gives what it gave, and a crash leaves
-- at each moment what it might have left before.
pub record OnlyReads {D : Type 0} (d : Ghosts D) (old new : Volumes D) : Type 0 where
  pub held : new.held ≡ old.held
  pub extent : extent_of new.journal ≡ extent_of old.journal
  pub reading : IsTrue d.tells → d.reading (disk_of new.journal) ≡ d.reading (disk_of old.journal)
  pub rests : IsTrue d.tells → Rests d (disk_of old.journal) (disk_of new.journal)
  pub in_step : (IsTrue d.tells → IsInStep d old.journal) → IsTrue d.tells → IsInStep d new.journal
  pub holds : (told : Bool) → HoldsBook d told old.journal (book_of old.held) → HoldsBook d told new.journal (book_of new.held)
  pub measured : IsMeasured old.journal (book_of old.held) → IsMeasured new.journal (book_of new.held)
  pub quiet : IsQuiet d (disk_of old.journal) (disk_of new.journal)

-- a fault of the disk is the answer
abbrev pub is_read_fault : {T : Type 0} → Result T ReadFault → Bool
is_read_fault (Ok value) = false
is_read_fault (Err reads.DiskFault) = true
is_read_fault (Err reads.Memory) = false

-- the same fault, as a capture's bringing or storing answers it
abbrev pub bring_fault_of : ReadFault → BringFault
bring_fault_of reads.DiskFault = brings.DiskFault
bring_fault_of reads.Memory = brings.Memory

abbrev pub store_fault_of : ReadFault → StoreFault
store_fault_of reads.DiskFault = stores.DiskFault
store_fault_of reads.Memory = stores.Memory

-- ---- a capture that keeps its wire

-- the capture keeps its wire, whole or cut, and stands where it says: not a line alone told of it
pub record IsKept (texts : List (List ℕ)) (book : Book) (number : ℕ) (spot : Spot) : Type 0 where
  pub is : IsSpotOf book number spot
  pub placed : IsPlaced texts book number spot
  pub own : is_same_form spot.form ≡ false
  pub read : is_told_form spot.form ≡ false

-- the payload where its digest is the one that is kept
abbrev pub checked_by : List ℕ → List ℕ → Option (List ℕ) → ReadBack
checked_by kept head None = back.Damaged None
checked_by kept head (Some payload) =
    if bytes_eq (sha1 payload) kept then back.Right head payload else back.Damaged (Some (sha1 payload))

-- the payload, or the digest that it has in place of the one that is kept
abbrev pub payload_by : ReadBack → Result (List ℕ) (Option (List ℕ))
payload_by (back.Right head payload) = Ok payload
payload_by (back.Damaged found) = Err found

-- whatever the disk tells: there is a response's head, and the payload has the digest that is kept; or it hasn't
abbrev pub IsChecked : List ℕ → ReadBack → Type 0
IsChecked kept (back.Right head payload) = IsHead head true × (sha1 payload ≡ kept)
IsChecked kept (back.Damaged found) = found ≢ Some kept

-- where the disk tells: this is found of a payload by the head and the wire that stand in the capture's places
abbrev pub DecodesThere : List (List ℕ) → Spot → Option (List ℕ) → Type 0
DecodesThere texts spot found = DecodesToDigest (is_cut_form spot.form) spot.method (head_in texts spot) (wire_in texts spot) found

-- what is damaged is told with that
abbrev pub FindsThere : List (List ℕ) → Spot → ReadBack → Type 0
FindsThere texts spot (back.Right head payload) = ⊤
FindsThere texts spot (back.Damaged found) = DecodesThere texts spot found

-- these are the head and the payload of the capture with this number
pub record AreOf (book : Book) (number : ℕ) (head payload : List ℕ) : Type 0 where
  pub has : IsPayloadOf book number payload
  pub head_is : head ≡ has.stored.head

-- where the disk tells: what was read is that capture's
abbrev pub IsReadRight : Book → ℕ → ReadBack → Type 0
IsReadRight book number (back.Right head payload) = AreOf book number head payload
IsReadRight book number (back.Damaged found) = ⊥

-- ---- a capture by its number

-- what is brought, with this head and payload
abbrev pub brought_of : Spot → List ℕ → List ℕ → Brought
brought_of spot head payload = record {
  method = spot.method;
  uri = spot.uri;
  date = spot.date;
  head = head;
  payload = payload;
}

-- what bringing the book's capture with this number answers: there is one
abbrev pub BringsFrom : Bool → Book → ℕ → Result Brought BringFault → Type 0
BringsFrom tells book number (Ok brought) =
    IsReplayable brought × IsNamed book number brought × (IsTrue tells → IsBrought book number brought)
BringsFrom tells book number (Err (brings.NoSuch count)) = ⊥
BringsFrom tells book number (Err brings.DiskFault) = ⊤
BringsFrom tells book number (Err (brings.Damaged at kept found)) =
    (at ≤ number) × KeepsPayloadOf book number at × IsDamaged tells kept found
BringsFrom tells book number (Err brings.Memory) = ⊤
