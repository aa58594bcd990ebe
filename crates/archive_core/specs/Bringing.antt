-- What is brought of a capture, and its piece, by what is kept of it.
use Rattle.std.specs.Prelude.{◌≡◌, ℕ, List, IfOk, IsTrue, slice_get, Some, Result}
use Rattle.capture.specs.declared.captured.Brought.{Brought}
use Rattle.disk_model.specs.declared.disk.Disk.{Ghosts}
use Rattle.warc_journal.specs.Journals.{texts}
use Rattle.archive_shelf.specs.declared.fault.BringFault.{BringFault}
use Rattle.archive_reading.specs.KeptGroups.{PieceGoesByKept}
use Rattle.archive_reading.specs.Rereading.{IsBroughtThere}
use Rattle.archive_volumes.specs.declared.spot.Spot.{Spot}
use Rattle.archive_core.specs.Holdings.{Holdings}

-- Where the disk tells, whatever is told of the book: of a capture of which a line alone told what the group tells is brought that stands at its
-- place.
abbrev pub BringsAsThere : {D : Type 0} → Ghosts D → Holdings D → ℕ → Result Brought BringFault → Type 0
BringsAsThere d held number result =
    IsTrue d.tells → (spot : Spot) → slice_get held.spots number ≡ Some spot
    → IfOk result (IsBroughtThere (texts d held.journal) held.book.namespace number spot)

-- whatever the disk tells: the group in a capture's piece tells the digest that is kept of it, and damage is told with that
abbrev pub PieceTellsKept : {D : Type 0} → Holdings D → ℕ → Result (List ℕ) BringFault → Type 0
PieceTellsKept held number result = (spot : Spot) → slice_get held.spots number ≡ Some spot → PieceGoesByKept held.book number spot.digest result
