-- What an archive is after a call that only reads its disk.
use Rattle.std.specs.Prelude.{◌≤◌, ◌≡◌, ℕ, ◌<◌, true, IfSome, IsTrue, List, length, Option, Result, Ok, Err, ⊤}
use Rattle.sha1.specs.Sha1.{sha1}
use Rattle.capture.specs.Captures.{captures, HasPayload}
use Rattle.capture.specs.Growth.{Grows}
use Rattle.capture.specs.Soundness.{HasSoundCaptures}
use Rattle.capture.specs.declared.captured.Taken.{Taken}
use Rattle.disk_model.specs.declared.disk.Disk.{Ghosts}
use Rattle.warc_journal.specs.Journals.{Rests, disk_of, extent_of, texts}
use Rattle.archive_shelf.specs.Answers.{IsDamaged}
use Rattle.archive_shelf.specs.Comparing.{CanRefer, IsRight, IsSameAs}
use Rattle.archive_shelf.specs.Contents.{Contents}
use Rattle.archive_shelf.specs.Told.{WritesNothing}
use Rattle.archive_shelf.specs.declared.fault.StoreFault.{StoreFault}
use Rattle.archive_shelf.specs.declared.fault.StoreFault.TheVariants as stores
use Rattle.archive_shelf.specs.declared.looked.Looked.{Looked}
use Rattle.archive_payloads.specs.Choosing.{IsKeptWith}
use Rattle.archive_reading.specs.Rereading.{IsChosenThere}
use Rattle.archive_core.specs.Holdings.{Holdings}
use Rattle.archive_core.specs.Told.{told_of}

-- All stays but the disk, and nothing more may be opened. Where the disk tells, whatever is told of the book, a read gives what it gave, and at each
-- moment a crash leaves what it might have left before. The volumes reach as far as they did.
pub record OnlyLooks {D : Type 0} (d : Ghosts D) (was is : Holdings D) : Type 0 where
  pub others : is ≡ record was { journal = is.journal }
  pub extent : extent_of is.journal ≡ extent_of was.journal
  pub bytes : IsTrue d.tells → Rests d (disk_of was.journal) (disk_of is.journal)
  pub unwritten : WritesNothing true (told_of d was) (told_of d is)

-- what looking for a payload answers: it is full exactly where the book is, and want of memory may be answered anywhere
abbrev pub Looks : Contents → List ℕ → Result Looked StoreFault → Type 0
Looks now payload (Ok looked) = (length (captures now.seen) < now.limits.captures) × IsRight now.tells now.seen payload looked × (looked.upto ≡ length (captures now.seen))
Looks now payload (Err (stores.Full count limit)) =
    (now.limits.captures ≤ length (captures now.seen)) × (count ≡ length (captures now.seen)) × (limit ≡ now.limits.captures)
Looks now payload (Err stores.DiskFault) = length (captures now.seen) < now.limits.captures
Looks now payload (Err (stores.Damaged at kept found)) =
    (length (captures now.seen) < now.limits.captures) × (at < length (captures now.seen)) × IsDamaged now.tells kept found
Looks now payload (Err stores.Memory) = ⊤

-- ---- the capture that a new one refers to

-- the digest is that of the capture's payload
abbrev pub IsDigestOf : Taken → List ℕ → Type 0
IsDigestOf taken digest = (payload : List ℕ) → HasPayload taken.cut taken.method taken.head taken.wire payload → digest ≡ sha1 payload

-- what was found so far of the capture's payload is right
abbrev pub IsRightOf : Contents → Taken → Looked → Type 0
IsRightOf now taken looked =
    (payload : List ℕ) → HasPayload taken.cut taken.method taken.head taken.wire payload → IsRight now.tells now.seen payload looked

-- it may refer to this one, if to any, and where the book is told it does
pub record RefersTo (now : Contents) (taken : Taken) (same : Option ℕ) : Type 0 where
  pub can : CanRefer taken.cut now.seen same
  pub does : IsTrue now.tells → IsSameAs now.seen taken same

-- A capture that is found has the payload. On each disk the payload's digest is kept of it; where the disk tells, whatever is told of the book, the bytes
-- that stand there give it just this payload.
pub record IsFoundThere {D : Type 0} (d : Ghosts D) (held : Holdings D) (payload : List ℕ) (number : ℕ) : Type 0 where
  pub kept : IsKeptWith held.spots (sha1 payload) number
  pub there : IsTrue d.tells → IsChosenThere (texts d held.journal) held.book.namespace held.spots payload number

-- so has the one that a new capture refers to, if it refers to any
abbrev pub RefersThere : {D : Type 0} → Ghosts D → Holdings D → Taken → Option ℕ → Type 0
RefersThere d held taken same =
    (payload : List ℕ) → HasPayload taken.cut taken.method taken.head taken.wire payload → IfSome same (IsFoundThere d held payload)

-- what looking for that capture answers
abbrev pub LooksFor : Contents → Taken → Result (Option ℕ) StoreFault → Type 0
LooksFor now taken (Ok same) = RefersTo now taken same
LooksFor now taken (Err (stores.Full count limit)) = ⊥
LooksFor now taken (Err stores.DiskFault) = ⊤
LooksFor now taken (Err (stores.Damaged at kept found)) = (at < length (captures now.seen)) × IsDamaged now.tells kept found
LooksFor now taken (Err stores.Memory) = ⊤

-- ---- what comparing promises to those who store later

-- the digest of a capture's payload is that of the capture
abbrev pub DigestsServe : Type 0
DigestsServe =
    (taken : Taken) (payload : List ℕ) → HasPayload taken.cut taken.method taken.head taken.wire payload → IsDigestOf taken (sha1 payload)

-- what was found of a capture's payload is right of the capture, also in a book that has grown since
abbrev pub FoundServesLater : Type 0
FoundServesLater =
    (was now : Contents) (taken : Taken) (payload : List ℕ) (looked : Looked) → (IsTrue now.tells → HasSoundCaptures was.seen)
    → Grows was.seen now.seen → HasPayload taken.cut taken.method taken.head taken.wire payload
    → IsRight now.tells was.seen payload looked → IsRightOf now taken looked
