-- How what is read goes by the digests of what was stored, whatever the disk tells.
use Rattle.std.specs.Prelude.{◌≡◌, ◌≢◌, ℕ, List, [], slice_get, Some, Result, Ok, Err, ⊤}
use Rattle.sha1.specs.Sha1.{sha1}
use Rattle.capture.specs.Captures.{captures, IsPayloadOf}
use Rattle.capture.specs.declared.book.Book.{Book}
use Rattle.capture.specs.declared.captured.Brought.{Brought}
use Rattle.capture.specs.declared.captured.Stored.{Stored}
use Rattle.archive_shelf.specs.Answers.{IsKeeperOf}
use Rattle.archive_shelf.specs.Comparing.{HasDigestOf, HasRequest}
use Rattle.archive_shelf.specs.Pieces.{IsSomePiece}
use Rattle.archive_shelf.specs.declared.fault.BringFault.{BringFault}
use Rattle.archive_shelf.specs.declared.fault.BringFault.TheVariants as brings

-- the records of the capture, and of the one that keeps its payload, were read or written
pub record WasRead (book : Book) (number : ℕ) : Type 0 where
  pub own : HasRequest book number
  pub keeper : ℕ
  pub keeps : IsKeeperOf book number keeper
  pub kept : HasRequest book keeper

-- the digest is that of the payload, where that can be known
abbrev pub HasReadDigest : Book → ℕ → List ℕ → Type 0
HasReadDigest book number digest = WasRead book number → HasDigestOf book number digest

-- A payload that is brought has the digest of the capture's payload; damage is told with that digest.
abbrev pub GoesByDigest : Book → ℕ → Result Brought BringFault → Type 0
GoesByDigest book number (Ok brought) = HasReadDigest book number (sha1 brought.payload)
GoesByDigest book number (Err (brings.NoSuch count)) = ⊤
GoesByDigest book number (Err brings.DiskFault) = ⊤
GoesByDigest book number (Err (brings.Damaged at kept found)) = HasReadDigest book number kept
GoesByDigest book number (Err brings.Memory) = ⊤

-- the group in a piece tells the digest of the capture's payload
pub record TellsDigestOf (book : Book) (number : ℕ) (bytes : List ℕ) : Type 0 where
  pub piece : IsSomePiece book number bytes
  pub tells : HasDigestOf book number piece.digest

-- So it is in the piece of a capture that keeps its wire; damage of such a one is told with that digest.
abbrev pub PieceGoesByDigest : Book → ℕ → Result (List ℕ) BringFault → Type 0
PieceGoesByDigest book number (Ok bytes) = HasRequest book number → IsKeeperOf book number number → TellsDigestOf book number bytes
PieceGoesByDigest book number (Err (brings.NoSuch count)) = ⊤
PieceGoesByDigest book number (Err brings.DiskFault) = ⊤
PieceGoesByDigest book number (Err (brings.Damaged at kept found)) =
    HasRequest book number → IsKeeperOf book number number → HasDigestOf book number kept
PieceGoesByDigest book number (Err brings.Memory) = ⊤
