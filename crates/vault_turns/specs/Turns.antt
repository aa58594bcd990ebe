-- What the turns of a vault's passes find, add and answer.
use Rattle.std.specs.Prelude.{◌≤◌, ◌≡◌, ◌⊎◌, ℕ, ◌<◌, Bool, true, false, IfOk, IsTrue, List, [], ◌∷◌, ◌++◌, length, Option, Result, Ok, Err}
use Rattle.capture.specs.Captures.{captures, HasPayload}
use Rattle.capture.specs.declared.captured.Brought.{Brought}
use Rattle.capture.specs.declared.captured.Taken.{Taken}
use Rattle.warc_text.specs.Sound.{IsSound}
use Rattle.archive_shelf.specs.Answers.{Brings, HasVolumeAlone, IsByRule, IsDamaged, NamesKeeper, is_bring_fault}
use Rattle.archive_shelf.specs.Comparing.{CanRefer, RefersAsShown, RefersByDigest}
use Rattle.archive_shelf.specs.Digests.{GoesByDigest, PieceGoesByDigest}
use Rattle.archive_shelf.specs.Pieces.{GivesPiece}
use Rattle.archive_shelf.specs.Storing.{Gains, as_stored}
use Rattle.archive_shelf.specs.declared.fault.BringFault.{BringFault}
use Rattle.archive_shelf.specs.declared.fault.BringFault.TheVariants as brings
use Rattle.archive_shelf.specs.declared.fault.StoreFault.{StoreFault}
use Rattle.archive_shelf.specs.declared.fault.StoreFault.TheVariants as stores
use Rattle.archive_shelf.specs.declared.looked.Looked.{Looked}
use Rattle.archive_shelf.specs.declared.receipt.Receipt.{Receipt}
use Rattle.archive_core.specs.Looking.{Looks}
use Rattle.archive_payloads.specs.Choosing.{is_look_fault}
use Rattle.index_entry.specs.Facts.{Facts}
use Rattle.history_lock.specs.Known.{Known}
use Rattle.history_lock.specs.Seen.{Turn}
use Rattle.vault_turns.specs.History.{by_of, showing, told_book, told_in, told_limits}
use Rattle.vault_turns.specs.declared.noted.Kind.{Kind}
use Rattle.vault_turns.specs.declared.noted.Kind.TheVariants.{Opened, Began, Stored, Failed}
use Rattle.vault_turns.specs.declared.noted.Noted.{Noted}

-- ---- what a turn adds

-- the entry tells that this capture was stored, which refers to that one
abbrev pub IsStoring : Taken → Option ℕ → Kind → Type 0
IsStoring taken same (Opened held limits told list faults sure) = ⊥
IsStoring taken same (Began at) = ⊥
IsStoring taken same (Stored stored as_same) = (stored.value ≡ taken) × (as_same ≡ same)
IsStoring taken same Failed = ⊥

-- nothing, or one entry that tells of a volume begun at this time
abbrev pub BeginsAtMost : ℕ → List Noted → Type 0
BeginsAtMost at [] = Unit {0}
BeginsAtMost at (noted ∷ []) = noted.kind ≡ Began at
BeginsAtMost at (noted ∷ next ∷ others) = ⊥

-- one entry, that the disk failed
abbrev pub TellsFault : List Noted → Type 0
TellsFault [] = ⊥
TellsFault (noted ∷ []) = noted.kind ≡ Failed
TellsFault (noted ∷ next ∷ others) = ⊥

-- perhaps a volume, and behind it the capture
pub record AddsCapture (taken : Taken) (same : Option ℕ) (added : List Noted) : Type 0 where
  pub begun : List Noted
  pub stored : Noted
  pub all : added ≡ begun ++ stored ∷ []
  pub begins : BeginsAtMost taken.date begun
  pub stores : IsStoring taken same stored.kind

-- perhaps a volume, and behind it that the disk failed
pub record AddsFault (at : ℕ) (added : List Noted) : Type 0 where
  pub begun : List Noted
  pub failed : Noted
  pub all : added ≡ begun ++ failed ∷ []
  pub begins : BeginsAtMost at begun
  pub fails : failed.kind ≡ Failed

-- ---- the committing turn of a store

-- The capture was stored behind the book found, which wasn't full.
pub record HasCommitted (tells : Bool) (taken : Taken) (found added : List Noted) (receipt : Receipt) : Type 0 where
  pub adds : AddsCapture taken receipt.same_as added
  pub not_full : length (captures (told_book found)) < (told_in tells found).limits.captures
  pub number : receipt.number ≡ length (captures (told_book found))
  pub refers : CanRefer taken.cut (told_book found) receipt.same_as
  pub by_digest : RefersByDigest (told_book found) taken receipt.same_as
  pub gained : Gains (told_book found) (as_stored taken receipt.same_as) (told_book (found ++ added))
  pub by_rule : IsTrue tells → IsByRule (told_limits found).volume_bytes (told_book found) taken receipt (told_book (found ++ added))

-- The disk failed. The book found is left, or it with a volume that was needed.
pub record HasFailed (tells : Bool) (taken : Taken) (found added : List Noted) : Type 0 where
  pub adds : AddsFault taken.date added
  pub not_full : length (captures (told_book found)) < (told_in tells found).limits.captures
  pub left : (told_book (found ++ added) ≡ told_book found)
      ⊎ HasVolumeAlone tells (told_limits found).volume_bytes (told_book found) taken (told_book (found ++ added))

-- what is found, added and answered
abbrev pub CommitAnswers : Bool → Taken → List Noted → List Noted → Result Receipt StoreFault → Type 0
CommitAnswers tells taken found added (Ok receipt) = HasCommitted tells taken found added receipt
CommitAnswers tells taken found added (Err (stores.Full count limit)) =
    (added ≡ []) × ((told_in tells found).limits.captures ≤ length (captures (told_book found))) × (count ≡ length (captures (told_book found)))
    × (limit ≡ (told_limits found).captures)
CommitAnswers tells taken found added (Err stores.DiskFault) = HasFailed tells taken found added
CommitAnswers tells taken found added (Err (stores.Damaged number kept digest)) =
    (added ≡ []) × (length (captures (told_book found)) < (told_in tells found).limits.captures) × (number < length (captures (told_book found)))
    × IsDamaged tells kept digest
CommitAnswers tells taken found added (Err stores.Memory) = added ≡ []

-- ---- turns that only read

-- an entry was added exactly where the disk failed
abbrev pub AddsFaultAlone : Bool → List Noted → Type 0
AddsFaultAlone true added = TellsFault added
AddsFaultAlone false added = added ≡ []

-- The committing turn of a store, where these entries are shown. Where the disk tells what it holds, the book that is left is sound.
pub record Commits (tells : Bool) (entries : List Facts) (taken : Taken) (found added : List Noted) (result : Result Receipt StoreFault) : Type 0 where
  pub answers : CommitAnswers tells taken found added result
  pub shown : IfOk result (λ receipt. RefersAsShown entries taken receipt.same_as)
  pub sound : IsTrue tells → IsSound (told_book (found ++ added))

-- A turn that looks for a payload.
pub record Compares (tells : Bool) (payload : List ℕ) (found added : List Noted) (result : Result Looked StoreFault) : Type 0 where
  pub looks : Looks (told_in tells found) payload result
  pub adds : AddsFaultAlone (is_look_fault result) added
  pub sound : IsTrue tells → IsSound (told_book (found ++ added))

-- A turn that brings a capture, where these entries are shown.
pub record BringsIt (tells : Bool) (entries : List Facts) (number : ℕ) (found added : List Noted) (result : Result Brought BringFault) : Type 0 where
  pub brings : Brings (showing entries tells found) number result
  pub names : NamesKeeper (told_book found) number result
  pub digests : GoesByDigest (told_book found) number result
  pub adds : AddsFaultAlone (is_bring_fault result) added
  pub sound : IsTrue tells → IsSound (told_book (found ++ added))

-- A turn that gives a capture as a piece, where these entries are shown.
pub record GivesIt (tells : Bool) (entries : List Facts) (number : ℕ) (found added : List Noted) (result : Result (List ℕ) BringFault) : Type 0 where
  pub gives : GivesPiece (showing entries tells found) number result
  pub digests : PieceGoesByDigest (told_book found) number result
  pub adds : AddsFaultAlone (is_bring_fault result) added
  pub sound : IsTrue tells → IsSound (told_book (found ++ added))

-- A turn that adds nothing. Where the disk tells what it holds, the book that it finds is sound.
pub record AddsNone (tells : Bool) (found added : List Noted) : Type 0 where
  pub none : added ≡ []
  pub sound : IsTrue tells → IsSound (told_book (found ++ added))

-- the answer of such a turn, where what is shown by date is known to go with it, and else want of memory in place of what would say something of that
abbrev pub held_back : {T : Type 0} → Bool → Result T BringFault → Result T BringFault
held_back true answer = answer
held_back false (Ok value) = Err brings.Memory
held_back false (Err (brings.NoSuch count)) = Err brings.Memory
held_back false (Err brings.DiskFault) = Err brings.DiskFault
held_back false (Err (brings.Damaged number kept digest)) = Err (brings.Damaged number kept digest)
held_back false (Err brings.Memory) = Err brings.Memory

-- ---- a whole store

-- It was refused in its first turn, which looked for the payload.
pub record IsRefusedEarly (tells : Bool) (taken : Taken) (was is : Known Noted) (fault : StoreFault) : Type 0 where
  pub payload : List ℕ
  pub has : HasPayload taken.cut taken.method taken.head taken.wire payload
  pub turn : Turn by_of was is.seen (λ found added. Compares tells payload found added (Err fault))

-- Its first turn found and added nothing that is told, and its second one committed it, where these entries are shown.
pub record IsCommitted (tells : Bool) (entries : List Facts) (taken : Taken) (was is : Known Noted) (result : Result Receipt StoreFault) : Type 0 where
  pub middle : List Noted
  pub looks : Turn by_of was middle (λ found added. added ≡ [])
  pub turn : Turn by_of (record was { seen = middle }) is.seen (λ found added. Commits tells entries taken found added result)

-- what a store leaves of a pass: there was no memory before its first turn; or that refused it; or the second one answered
abbrev pub StoresBy : Bool → List Facts → Taken → Known Noted → Known Noted → Result Receipt StoreFault → Type 0
StoresBy tells entries taken was is result =
    ((result ≡ Err stores.Memory) × (is ≡ was))
    ⊎ (((fault : StoreFault) × (result ≡ Err fault) × IsRefusedEarly tells taken was is fault)
    ⊎ IsCommitted tells entries taken was is result)

-- a store that ends so may have changed the book
abbrev pub changes : Result Receipt StoreFault → Bool
changes (Ok receipt) = true
changes (Err (stores.Full count limit)) = false
changes (Err stores.DiskFault) = true
changes (Err (stores.Damaged number kept digest)) = false
changes (Err stores.Memory) = false
