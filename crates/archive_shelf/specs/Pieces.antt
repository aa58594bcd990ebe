-- The piece of a capture: its group, and the warcinfo of its volume before it where it is the first of that.
use Rattle.std.specs.Prelude.{◌≡◌, ◌⊎◌, ℕ, ◌<◌, ◌≤◌, IsTrue, List, [], ◌++◌, length, slice_get, Option, Some, Result, Ok, Err, ⊤, Contains}
use Rattle.capture.specs.Captures.{captures, first_number}
use Rattle.capture.specs.declared.book.Book.{Book}
use Rattle.capture.specs.declared.book.Volume.{Volume}
use Rattle.capture.specs.declared.captured.Taken.{Taken}
use Rattle.index_entry.specs.Facts.{Facts}
use Rattle.warc_text.specs.Books.{IsGroupText}
use Rattle.warc_text.specs.Records.{group_text, info_text}
use Rattle.warc_text.specs.References.{Reference}
use Rattle.archive_shelf.specs.Answers.{IsDamaged, ShowsNone}
use Rattle.archive_shelf.specs.Contents.{Contents}
use Rattle.archive_shelf.specs.declared.fault.BringFault.{BringFault}
use Rattle.archive_shelf.specs.declared.fault.BringFault.TheVariants as brings

-- the capture with this number is the first of the volume with that number
pub record IsFirstOf (book : Book) (number k : ℕ) : Type 0 where
  pub volume : Volume
  pub placed : slice_get book.volumes k ≡ Some volume
  pub some : 0 < length volume.captures
  pub first : number ≡ first_number book k

-- the warcinfo of the volume of which the capture is the first; or nothing, where it is the first of none
abbrev pub IsFront : Book → ℕ → List ℕ → Type 0
IsFront book number front =
    ((k : ℕ) × (is : IsFirstOf book number k) × (front ≡ info_text book.namespace k is.volume.born))
    ⊎ (((k : ℕ) → IsFirstOf book number k → ⊥) × (front ≡ []))

-- the piece of the capture with this number
pub record IsPiece (book : Book) (number : ℕ) (bytes : List ℕ) : Type 0 where
  pub front : List ℕ
  pub group : List ℕ
  pub before : IsFront book number front
  pub is : IsGroupText book number group
  pub composed : bytes ≡ front ++ group

-- Whatever is told of the bytes: the piece of some capture in the place of the one with this number.
pub record IsSomePiece (book : Book) (number : ℕ) (bytes : List ℕ) : Type 0 where
  pub front : List ℕ
  pub taken : Taken
  pub digest : List ℕ
  pub same : Option Reference
  pub before : IsFront book number front
  pub composed : bytes ≡ front ++ group_text book.namespace number taken digest same

-- and its group tells the digest of each of these entries under the number
pub record IsShownPiece (book : Book) (entries : List Facts) (number : ℕ) (bytes : List ℕ) : Type 0 where
  pub piece : IsSomePiece book number bytes
  pub digest : (entry : Facts) → Contains entries entry → entry.number ≡ number → entry.digest ≡ piece.digest

-- What asking for a piece answers, by what is seen and shown after it. There is none exactly where the number isn't below the
-- count; want of memory may be answered anywhere.
abbrev pub GivesPiece : Contents → ℕ → Result (List ℕ) BringFault → Type 0
GivesPiece is number (Ok bytes) =
    (number < length (captures is.seen)) × IsShownPiece is.seen is.shown number bytes × (IsTrue is.tells → IsPiece is.seen number bytes)
GivesPiece is number (Err (brings.NoSuch count)) =
    (count ≡ length (captures is.seen)) × (count ≤ number) × ShowsNone is number
GivesPiece is number (Err brings.DiskFault) = number < length (captures is.seen)
GivesPiece is number (Err (brings.Damaged at kept found)) =
    (number < length (captures is.seen)) × (at ≡ number) × IsDamaged is.tells kept found
GivesPiece is number (Err brings.Memory) = ⊤
