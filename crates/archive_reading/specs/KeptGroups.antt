-- The group of a capture that is kept, as the disk has it, and its piece.
use Rattle.std.specs.Prelude.{◌≡◌, ℕ, suc, ◌+◌, ◌≤◌, Bool, IsTrue, List, ◌++◌, length, slice_get, Option, Some, None, Result, Ok, Err, if◌then◌else◌, ⊤}
use Rattle.std.specs.Str.{bytes_eq}
use Rattle.sha1.specs.Sha1.{sha1}
use Rattle.capture.specs.declared.book.Book.{Book}
use Rattle.warc_scan.specs.Groups.{IsGroup}
use Rattle.warc_scan.specs.Outlines.{IsOutlineOf}
use Rattle.warc_scan.specs.Answers.{BeginsWithGroup}
use Rattle.warc_scan.specs.declared.group.Group.{Group}
use Rattle.warc_scan.specs.declared.outline.Outline.{Outline}
use Rattle.warc_text.specs.Books.{IsGroupText}
use Rattle.archive_shelf.specs.Answers.{IsDamaged}
use Rattle.archive_shelf.specs.Pieces.{IsFront, IsPiece, IsSomePiece}
use Rattle.archive_shelf.specs.declared.fault.BringFault.{BringFault}
use Rattle.archive_shelf.specs.declared.fault.BringFault.TheVariants as brings
use Rattle.archive_reading.specs.Rereading.{Reaches}
use Rattle.archive_volumes.specs.Spots.{text_at}
use Rattle.archive_reading.specs.declared.kept_group.KeptGroup.{KeptGroup}
use Rattle.archive_reading.specs.declared.kept_group.KeptGroup.TheVariants as kept
use Rattle.archive_volumes.specs.declared.spot.Spot.{Spot}

-- the next capture stands in this volume, where it begins there
pub record IsNextAt (spots : List Spot) (number volume at : ℕ) : Type 0 where
  pub next : Spot
  pub placed : slice_get spots (suc number) ≡ Some next
  pub same : next.volume ≡ volume
  pub is : at ≡ next.at

-- it is a place in the text of the volume in which the capture with this number stands, and no place before the end of its group
pub record EndsWithin (texts : List (List ℕ)) (spots : List Spot) (number end : ℕ) : Type 0 where
  pub within : (spot : Spot) → slice_get spots number ≡ Some spot → end ≤ length (text_at texts spot.volume)
  pub reaches : (spot : Spot) → slice_get spots number ≡ Some spot → Reaches texts spots number spot end

-- the group of the capture with this number ends there or before
pub record EndsGroup (book : Book) (spots : List Spot) (number end : ℕ) : Type 0 where
  pub reaches : (spot : Spot) (group : List ℕ) → slice_get spots number ≡ Some spot → IsGroupText book number group
      → spot.at + length group ≤ end

-- the bytes are a group with this number, of which this is told
pub record IsTold (namespace : List ℕ) (number : ℕ) (bytes : List ℕ) (outline : Outline) : Type 0 where
  pub group : Group
  pub is : IsGroup namespace number bytes group
  pub told : IsOutlineOf group outline

-- the bytes begin with it
pub record IsFrontOf (namespace : List ℕ) (number : ℕ) (all bytes : List ℕ) (outline : Outline) : Type 0 where
  pub rest : List ℕ
  pub composed : all ≡ bytes ++ rest
  pub is : IsTold namespace number bytes outline

-- a group with this number with which the bytes begin, or they begin with none
abbrev pub IsFirstIn : List ℕ → ℕ → List ℕ → KeptGroup → Type 0
IsFirstIn namespace number all (kept.Right bytes outline) = IsFrontOf namespace number all bytes outline
IsFirstIn namespace number all kept.Damaged = (group : Group) → BeginsWithGroup namespace number all group → ⊥

-- whatever the disk tells: it is a group with this number, or none
abbrev pub IsSomeGroup : List ℕ → ℕ → KeptGroup → Type 0
IsSomeGroup namespace number (kept.Right bytes outline) = IsTold namespace number bytes outline
IsSomeGroup namespace number kept.Damaged = ⊤

-- where the book is told: it is that of the book's capture, whose payload has the digest that the group tells
pub record IsGroupOf (book : Book) (number : ℕ) (bytes : List ℕ) (outline : Outline) : Type 0 where
  pub is : IsGroupText book number bytes
  pub digest : outline.digest ≡ sha1 is.payload

abbrev pub IsKeptGroup : Book → ℕ → KeptGroup → Type 0
IsKeptGroup book number (kept.Right bytes outline) = IsGroupOf book number bytes outline
IsKeptGroup book number kept.Damaged = ⊥

-- the bytes of a group that tells this digest; or the digest that it tells, and none where there is no group
abbrev pub bytes_by : List ℕ → KeptGroup → Result (List ℕ) (Option (List ℕ))
bytes_by digest (kept.Right bytes outline) = if bytes_eq outline.digest digest then Ok bytes else Err (Some outline.digest)
bytes_by digest kept.Damaged = Err None

-- the group with what stands before it in the piece of its capture
pub record HasFront (book : Book) (number : ℕ) (group bytes : List ℕ) : Type 0 where
  pub front : List ℕ
  pub before : IsFront book number front
  pub composed : bytes ≡ front ++ group

-- what asking for the piece of the book's capture with this number answers: there is one
abbrev pub GivesPieceFrom : Bool → Book → ℕ → Result (List ℕ) BringFault → Type 0
GivesPieceFrom tells book number (Ok bytes) = IsSomePiece book number bytes × (IsTrue tells → IsPiece book number bytes)
GivesPieceFrom tells book number (Err (brings.NoSuch count)) = ⊥
GivesPieceFrom tells book number (Err brings.DiskFault) = ⊤
GivesPieceFrom tells book number (Err (brings.Damaged at kept found)) = (at ≡ number) × IsDamaged tells kept found
GivesPieceFrom tells book number (Err brings.Memory) = ⊤

-- whatever the disk tells, and whoever told of the capture: the group in its piece tells the digest that is kept, and damage is told with that
pub record TellsDigest (book : Book) (number : ℕ) (digest bytes : List ℕ) : Type 0 where
  pub piece : IsSomePiece book number bytes
  pub is : piece.digest ≡ digest

abbrev pub PieceGoesByKept : Book → ℕ → List ℕ → Result (List ℕ) BringFault → Type 0
PieceGoesByKept book number digest (Ok bytes) = TellsDigest book number digest bytes
PieceGoesByKept book number digest (Err (brings.NoSuch count)) = ⊤
PieceGoesByKept book number digest (Err brings.DiskFault) = ⊤
PieceGoesByKept book number digest (Err (brings.Damaged at kept found)) = kept ≡ digest
PieceGoesByKept book number digest (Err brings.Memory) = ⊤
