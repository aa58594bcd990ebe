-- The parts of a piece, by its bytes.
use Rattle.std.specs.Prelude.{◌≡◌, ℕ, List, ◌++◌, length, Option, Some, None}
use Rattle.capture.specs.Captures.{captures}
use Rattle.capture.specs.declared.book.Book.{Book}
use Rattle.time_text.specs.Texts.{InRange}
use Rattle.warc_scan.specs.Groups.{IsGroup}
use Rattle.warc_scan.specs.declared.group.Group.{Group}
use Rattle.warc_text.specs.Records.{info_text}
use Rattle.archive_shelf.specs.Storing.{with_capture, with_volume}
use Rattle.archive_gathering.specs.Noting.{referring}
use Rattle.archive_pieces.specs.NextPieces.{IsFrontBy, Takes}
use Rattle.archive_pieces.specs.declared.parts.Begun.{Begun}
use Rattle.archive_pieces.specs.declared.parts.Found.{Found}
use Rattle.archive_pieces.specs.declared.parts.Front.{Front}

-- ---- by the bytes alone

-- they begin with this warcinfo of the volume with that number
pub record BeginsWithFront (namespace : List ℕ) (volume : ℕ) (bytes : List ℕ) (front : Front) : Type 0 where
  pub date : InRange front.born
  pub rest : List ℕ
  pub composed : bytes ≡ info_text namespace volume front.born ++ rest
  pub len_is : front.len ≡ length (info_text namespace volume front.born)

-- they begin with none
abbrev pub HasNoFront : List ℕ → ℕ → List ℕ → Type 0
HasNoFront namespace volume bytes =
    (born : ℕ) (rest : List ℕ) → InRange born → bytes ≡ info_text namespace volume born ++ rest → ⊥

-- they are no group with this number
abbrev pub IsNoGroup : List ℕ → ℕ → List ℕ → Type 0
IsNoGroup namespace number bytes = (group : Group) → IsGroup namespace number bytes group → ⊥

-- they are the warcinfo of the volume with that number, and behind it the group with this number
pub record IsBegunBy (namespace : List ℕ) (volume number : ℕ) (bytes : List ℕ) (begun : Begun) : Type 0 where
  pub date : InRange begun.born
  pub text : List ℕ
  pub composed : bytes ≡ info_text namespace volume begun.born ++ text
  pub at_is : begun.at ≡ length (info_text namespace volume begun.born)
  pub is : IsGroup namespace number text begun.group

-- they are none such
abbrev pub IsNotBegun : List ℕ → ℕ → ℕ → List ℕ → Type 0
IsNotBegun namespace volume number bytes =
    (born : ℕ) (text : List ℕ) (group : Group) → InRange born → bytes ≡ info_text namespace volume born ++ text
    → IsGroup namespace number text group → ⊥

-- ---- by the book that is to take it

-- the book with that volume, if one is begun
abbrev pub room_by : Book → Option ℕ → Book
room_by book None = book
room_by book (Some born) = with_volume book born

-- the book with the capture of this group, which refers to that one, if to any
abbrev pub book_by : Book → Option ℕ → Group → Option ℕ → Book
book_by book begins group first = with_capture (room_by book begins) (referring group.stored first)

-- the bytes are such a front and a group with the next number
pub record IsReadAs (book : Book) (bytes : List ℕ) (begins : Option ℕ) (at : ℕ) (group : Group) : Type 0 where
  pub front : List ℕ
  pub text : List ℕ
  pub composed : bytes ≡ front ++ text
  pub is_front : IsFrontBy book front begins
  pub at_is : at ≡ length front
  pub is : IsGroup book.namespace (length (captures book)) text group

-- what was read of the bytes is right; or they are no such parts
abbrev pub IsFoundIn : Book → List ℕ → Found → Type 0
IsFoundIn book bytes found = IsReadAs book bytes found.begins found.at found.group

abbrev pub HasNoParts : Book → List ℕ → Type 0
HasNoParts book bytes = (begins : Option ℕ) (at : ℕ) (group : Group) → IsReadAs book bytes begins at group → ⊥

-- no book has this piece as that of its next capture
abbrev pub IsNoPiece : Book → List ℕ → Type 0
IsNoPiece book bytes = (after : Book) → Takes book bytes after → ⊥
