-- What it is to take the piece of another archive's capture, and what that leaves.
use Rattle.std.specs.Prelude.{◌≤◌, ◌≡◌, ◌⊎◌, ℕ, ◌+◌, ◌<◌, true, Contains, IfSome, IsTrue, List, [], ◌∷◌, ◌++◌, length, Option, Result, Ok, Err, ⊤}
use Rattle.capture.specs.Captures.{captures}
use Rattle.capture.specs.Growth.{Grows}
use Rattle.capture.specs.declared.book.Book.{Book}
use Rattle.index_entry.specs.Facts.{Facts}
use Rattle.disk_model.specs.declared.disk.Disk.{Ghosts}
use Rattle.warc_journal.specs.Extents.{cdxj_files}
use Rattle.warc_journal.specs.Journals.{disk_of, extent_of, last_len, Rests}
use Rattle.warc_journal.specs.Texts.{with_more}
use Rattle.warc_text.specs.Books.{IsGroupText}
use Rattle.warc_text.specs.Sound.{IsSound}
use Rattle.warc_text.specs.StandsFor.{IdsDifferIn}
use Rattle.warc_scan.specs.declared.group.Group.{Group}
use Rattle.archive_shelf.specs.Answers.{CountsIf, IsDamaged}
use Rattle.archive_shelf.specs.Openings.{Moves, SameBook}
use Rattle.archive_shelf.specs.Pieces.{IsPiece, IsSomePiece}
use Rattle.archive_shelf.specs.Told.{WritesNothing}
use Rattle.archive_volumes.specs.Volumes.{muted}
use Rattle.archive_volumes.specs.Writing.{Writes, books_as}
use Rattle.archive_volumes.specs.Written.{WritesTexts, texts_as}
use Rattle.archive_core.specs.Holdings.{Holdings, contents_of}
use Rattle.archive_core.specs.Looking.{OnlyLooks}
use Rattle.archive_pieces.specs.NextPieces.{Takes}
use Rattle.archive_pieces.specs.PieceFaults.{is_take_fault}
use Rattle.archive_pieces.specs.PieceParts.{IsNoPiece, IsReadAs, book_by, room_by}
use Rattle.archive_pieces.specs.PieceReady.{RefersSo, end_in}
use Rattle.archive_index.specs.Shown.{numbered}
use Rattle.archive_core.specs.Texts.{texts_room}
use Rattle.archive_core.specs.Told.{told_of}
use Rattle.archive_pieces.specs.declared.fault.PieceFault.{PieceFault}
use Rattle.archive_pieces.specs.declared.fault.PieceFault.TheVariants as pieces

-- ---- the capture of a group

-- the parts of a piece that is put: its group with the text of that, the capture to which it refers, if to any, and when the volume was born that it begins, if it begins one
pub record Parts : Type 0 where
  pub text : List ℕ
  pub group : Group
  pub first : Option ℕ
  pub begins : Option ℕ

-- It stands behind all others of the book. Where the disk tells, whatever is told of the book: its text stands behind the volumes' texts, none of
-- which loses a byte, at whatever moment a crash stops it.
pub record HasPut {D : Type 0} (d : Ghosts D) (was is : Holdings D) (parts : Parts) (number : ℕ) : Type 0 where
  pub number_is : number ≡ length (captures was.book)
  pub book : is.book ≡ book_by was.book parts.begins parts.group parts.first
  pub group_is : IsTrue was.told → IsGroupText is.book (length (captures was.book)) parts.text
  pub sound : IsTrue was.told → IsSound is.book
  -- at most the entry of the capture is shown more
  pub shown : (numbered is.index ≡ numbered was.index)
      ⊎ ((entry : Facts) × (entry.number ≡ number) × (numbered is.index ≡ numbered was.index ++ entry ∷ []))
  pub others : contents_of is
      ≡ record (contents_of was) { seen = is.book; shown = numbered is.index; mine = (contents_of was).mine ++ number ∷ [] }
  pub ends : last_len is.journal ≡ end_in was.book (last_len was.journal) parts.begins + length parts.text
  pub writes : Writes {E = PieceFault} (muted was.told d) (disk_of was.journal) (disk_of is.journal)
      (books_as was.book (room_by was.book parts.begins) is.book is.book) (Ok number)
  pub bytes : IsTrue d.tells → WritesTexts {E = PieceFault} d was.journal is.journal
      (texts_as (texts_room d was parts.begins) (with_more (texts_room d was parts.begins) parts.text)) (Ok number)
  pub checkpoints : IsTrue d.tells → cdxj_files (d.reading (disk_of is.journal)) ≡ cdxj_files (d.reading (disk_of was.journal))

-- The disk refused it. The book is left, or it with the volume that was to be begun.
pub record IsUnput {D : Type 0} (d : Ghosts D) (was is : Holdings D) (parts : Parts) : Type 0 where
  pub left : (is.book ≡ was.book) ⊎ (is.book ≡ room_by was.book parts.begins)
  pub group_is : IsTrue was.told → IsGroupText (book_by was.book parts.begins parts.group parts.first) (length (captures was.book)) parts.text
  pub sound : IsTrue was.told → IsSound (book_by was.book parts.begins parts.group parts.first)
  pub others : contents_of is ≡ record (contents_of was) { seen = is.book }
  pub writes : Writes {T = ℕ} (muted was.told d) (disk_of was.journal) (disk_of is.journal)
      (books_as was.book (room_by was.book parts.begins) (book_by was.book parts.begins parts.group parts.first) is.book) (Err pieces.DiskFault)
  pub bytes : IsTrue d.tells → WritesTexts {T = ℕ} d was.journal is.journal
      (texts_as (texts_room d was parts.begins) (with_more (texts_room d was parts.begins) parts.text)) (Err pieces.DiskFault)
  pub checkpoints : IsTrue d.tells → cdxj_files (d.reading (disk_of is.journal)) ≡ cdxj_files (d.reading (disk_of was.journal))

-- all is as it was, but for what is reserved
pub record IsUntouched {D : Type 0} (was is : Holdings D) : Type 0 where
  pub journal : is.journal ≡ was.journal
  pub contents : contents_of is ≡ contents_of was

abbrev pub Puts : {D : Type 0} → Ghosts D → Holdings D → Holdings D → Parts → Result ℕ PieceFault → Type 0
Puts d was is parts (Ok number) = HasPut d was is parts number
Puts d was is parts (Err (pieces.Full count limit)) = ⊥
Puts d was is parts (Err pieces.NotAPiece) = ⊥
Puts d was is parts (Err pieces.DiskFault) = IsUnput d was is parts
Puts d was is parts (Err (pieces.Damaged number kept found)) = ⊥
Puts d was is parts (Err pieces.Memory) = IsUntouched was is

-- ---- a piece

-- each of these entries under the number of a capture, if it is of any, tells this digest
abbrev pub ShowDigest : List Facts → List ℕ → Option ℕ → Type 0
ShowDigest entries digest same =
    IfSome same (λ number. (entry : Facts) → Contains entries entry → entry.number ≡ number → entry.digest ≡ digest)

-- The piece was taken: the capture of its group was put behind all others, and the book has just that piece more. Whatever is told, what it refers to is the
-- capture of the book before it that its record names, and is shown with the digest that the group tells.
pub record HasTaken {D : Type 0} (d : Ghosts D) (was is : Holdings D) (bytes : List ℕ) (number : ℕ) : Type 0 where
  pub begins : Option ℕ
  pub at : ℕ
  pub group : Group
  pub first : Option ℕ
  pub read : IsReadAs was.book bytes begins at group
  pub refers : RefersSo was.told was.book group first
  pub as_shown : ShowDigest (numbered was.index) group.digest first
  pub put : HasPut d was is (record { text = read.text; group = group; first = first; begins = begins }) number
  pub some : IsSomePiece is.book number bytes
  pub takes : IsTrue was.told → Takes was.book bytes is.book

-- The disk refused it when it was to be written. The book is left, or it with the volume that the piece begins. What it was to refer to is named and shown likewise.
pub record IsUntaken {D : Type 0} (d : Ghosts D) (was is : Holdings D) (bytes : List ℕ) : Type 0 where
  pub begins : Option ℕ
  pub at : ℕ
  pub group : Group
  pub first : Option ℕ
  pub read : IsReadAs was.book bytes begins at group
  pub refers : RefersSo was.told was.book group first
  pub as_shown : ShowDigest (numbered was.index) group.digest first
  pub unput : IsUnput d was is (record { text = read.text; group = group; first = first; begins = begins })
  pub takes : IsTrue was.told → Takes was.book bytes (book_by was.book begins group first)

-- What taking a piece leaves. It is full before the piece is looked at; want of memory may be answered anywhere, and then all that is told stays, the
-- volumes reach as far as they did, and nothing was written.
abbrev pub PieceLeaves : {D : Type 0} → Ghosts D → Holdings D → Holdings D → List ℕ → Result ℕ PieceFault → Type 0
PieceLeaves d was is bytes (Ok number) = (length (captures was.book) < was.limits.captures) × HasTaken d was is bytes number
PieceLeaves d was is bytes (Err (pieces.Full count limit)) =
    (was.limits.captures ≤ length (captures was.book)) × (count ≡ length (captures was.book)) × (limit ≡ was.limits.captures) × (is ≡ was)
PieceLeaves d was is bytes (Err pieces.NotAPiece) =
    (length (captures was.book) < was.limits.captures) × OnlyLooks d was is × (IsTrue was.told → IsNoPiece was.book bytes)
PieceLeaves d was is bytes (Err pieces.DiskFault) =
    (length (captures was.book) < was.limits.captures) × (OnlyLooks d was is ⊎ IsUntaken d was is bytes)
PieceLeaves d was is bytes (Err (pieces.Damaged number kept found)) =
    (length (captures was.book) < was.limits.captures) × OnlyLooks d was is × (number < length (captures was.book)) × IsDamaged was.told kept found
PieceLeaves d was is bytes (Err pieces.Memory) =
    (contents_of is ≡ contents_of was) × (extent_of is.journal ≡ extent_of was.journal)
    × (IsTrue d.tells → Rests d (disk_of was.journal) (disk_of is.journal)) × WritesNothing true (told_of d was) (told_of d is)

-- a piece was taken, or refused
pub record TakesPiece {D : Type 0} (d : Ghosts D) (was is : Holdings D) (bytes : List ℕ) (result : Result ℕ PieceFault) : Type 0 where
  pub leaves : PieceLeaves d was is bytes result
  pub faults : CountsIf (is_take_fault result) (d.faults (disk_of was.journal)) (d.faults (disk_of is.journal))

-- ---- the law of growing prefixes

-- The archive's book is a beginning of the source's still, with the piece or without it, and so is each that may be opened now which might not have been before the call,
-- at whatever moment a crash stops it.
pub record StaysBeginning {D : Type 0} (d : Ghosts D) (was is : Holdings D) (source : Book) : Type 0 where
  pub seen : Grows is.book source
  pub opened : Moves (told_of d was).crash (told_of d is).crash (λ x. SameBook x was.book ⊎ Grows x source)

-- it isn't refused as none
abbrev pub IsNotRefused : Result ℕ PieceFault → Type 0
IsNotRefused (Ok number) = ⊤
IsNotRefused (Err (pieces.Full count limit)) = ⊤
IsNotRefused (Err pieces.NotAPiece) = ⊥
IsNotRefused (Err pieces.DiskFault) = ⊤
IsNotRefused (Err (pieces.Damaged number kept found)) = ⊥
IsNotRefused (Err pieces.Memory) = ⊤

-- where the source's book has grown from the archive's and has more captures, the ids of which differ, the piece of the next of them is to be taken
pub record IsNextOf {D : Type 0} (was : Holdings D) (source : Book) (bytes : List ℕ) : Type 0 where
  pub told : IsTrue was.told
  pub sound : IsSound source
  pub ids : IdsDifferIn source
  pub grown : Grows was.book source
  pub more : length (captures was.book) < length (captures source)
  pub piece : IsPiece source (length (captures was.book)) bytes

abbrev pub TakenPiecesLeadOn : {D : Type 0} → Ghosts D → Type 0
TakenPiecesLeadOn {D} d =
    (was is : Holdings D) (source : Book) (bytes : List ℕ) (result : Result ℕ PieceFault) → IsNextOf was source bytes → TakesPiece d was is bytes result
    → IsNotRefused result × StaysBeginning d was is source
