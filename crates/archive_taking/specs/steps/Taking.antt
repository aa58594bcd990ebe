-- The text of a piece's group, the capture to which it refers, the parts of a piece that is put, what putting it answers, with its type, and what want of memory leaves.
use Rattle.std.specs.Prelude.{ℕ, Bool, List, Option, Result, Ok, Err, ◌≡◌, ◌⊎◌, true, IsTrue}
use Rattle.capture.specs.declared.book.Book.{Book}
use Rattle.archive_shelf.specs.Told.{WritesNothing}
use Rattle.warc_journal.specs.Journals.{Rests, disk_of, extent_of}
use Rattle.disk_model.specs.declared.disk.Disk.{Ghosts}
use Rattle.warc_scan.specs.Groups.{IsGroup}
use Rattle.warc_scan.specs.declared.group.Group.{Group}
use Rattle.archive_pieces.specs.PieceOriginals.{FindsOriginal}
use Rattle.archive_pieces.specs.PieceReady.{IsPastBounds, IsWithinBounds, RefersSo}
use Rattle.archive_pieces.specs.declared.fault.PieceFault.{PieceFault}
use Rattle.archive_pieces.specs.declared.fault.PieceFault.TheVariants as pieces
use Rattle.archive_taking.specs.TakingPieces.{Parts}
use Rattle.archive_core.specs.Holdings.{Holdings, contents_of}
use Rattle.archive_core.specs.Told.{told_of}

-- the text is that of the group
pub record HasText (text : List ℕ) (group : Group) : Type 0 where
  pub namespace : List ℕ
  pub number : ℕ
  pub is : IsGroup namespace number text group

-- What is answered of the capture to which a group refers that is to begin at a place of its volume's text: the group passes a bound, or it was looked for.
abbrev pub FindsWithin : Bool → Book → Group → ℕ → Result (Option ℕ) PieceFault → Type 0
FindsWithin told book group end (Ok first) = IsWithinBounds group end × RefersSo told book group first
FindsWithin told book group end (Err fault) = ((fault ≡ pieces.NotAPiece) × IsPastBounds group end) ⊎ FindsOriginal told book group (Err fault)

abbrev pub took : ℕ → Result ℕ PieceFault
took number = Ok number

abbrev pub disk_failed : Result ℕ PieceFault
disk_failed = Err pieces.DiskFault

abbrev pub parts_as : List ℕ → Group → Option ℕ → Option ℕ → Parts
parts_as text group first begins = record { text = text; group = group; first = first; begins = begins }

-- all that is told of it stays, its volumes reach as far as they did, and nothing was written
abbrev pub Remains : {D : Type 0} → Ghosts D → Holdings D → Holdings D → Type 0
Remains d was is =
    (contents_of is ≡ contents_of was) × (extent_of is.journal ≡ extent_of was.journal)
    × (IsTrue d.tells → Rests d (disk_of was.journal) (disk_of is.journal)) × WritesNothing true (told_of d was) (told_of d is)
