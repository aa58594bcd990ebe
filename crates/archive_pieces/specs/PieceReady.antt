-- A piece that is ready to be written.
use Rattle.std.specs.Prelude.{◌≡◌, ◌⊎◌, ℕ, ◌+◌, ◌<◌, ◌≤◌, ◌^◌, Bool, List, length, Option, Some, None, Result, Ok}
use Rattle.capture.specs.declared.book.Book.{Book}
use Rattle.time_text.specs.Texts.{InRange}
use Rattle.warc_journal.specs.Journals.{last_len}
use Rattle.warc_scan.specs.declared.group.Group.{Group}
use Rattle.warc_text.specs.Records.{info_text}
use Rattle.archive_gathering.specs.Noting.{referring}
use Rattle.archive_volumes.specs.Held.{book_of, stored_in}
use Rattle.archive_volumes.specs.Spots.{spot_of}
use Rattle.archive_volumes.specs.Writing.{HasRoomFor, end_with, with_prepared}
use Rattle.archive_volumes.specs.declared.ready.Ready.{Ready}
use Rattle.archive_volumes.specs.declared.room.Prepared.{Prepared}
use Rattle.archive_volumes.specs.declared.volumes.Volumes.{Volumes}
use Rattle.archive_pieces.specs.NextPieces.{MayBegin}
use Rattle.archive_pieces.specs.PieceOriginals.{FindsOriginal}
use Rattle.archive_pieces.specs.PieceParts.{room_by}
use Rattle.archive_pieces.specs.declared.fault.PieceFault.{PieceFault}

abbrev found_first : Option ℕ → Result (Option ℕ) PieceFault
found_first first = Ok first

-- the capture of the group refers to this one, if to any
abbrev pub RefersSo : Bool → Book → Group → Option ℕ → Type 0
RefersSo told book group first = FindsOriginal told book group (found_first first)

-- the capture of a group that is this text, and refers to that one, if to any, with all that is to be kept of it
pub record IsReadyGroup (text : List ℕ) (group : Group) (first : Option ℕ) (ready : Ready) : Type 0 where
  pub stored : stored_in ready.stored ≡ referring group.stored first
  pub digest : ready.digest ≡ group.digest
  pub kept : ready.spot ≡ spot_of (stored_in ready.stored) ready.digest 0 0 0
  pub text_is : ready.group ≡ text
  pub head_at : ready.layout.head_at ≡ group.head_at
  pub record_len : ready.layout.record_len ≡ group.first_len

-- ---- bounds

-- where the group is to begin in its volume's text, by where its piece has it and where the last text ends
abbrev pub end_by : Option ℕ → ℕ → ℕ → ℕ
end_by None at last = last
end_by (Some born) at last = at

-- the length of its request and that of the volume's text with it are within their bounds
pub record IsWithinBounds (group : Group) (end : ℕ) : Type 0 where
  pub request : length group.stored.request < 2 ^ 34
  pub ends : end + group.len < 2 ^ 62

-- or one of them isn't
abbrev pub IsPastBounds : Group → ℕ → Type 0
IsPastBounds group end = (2 ^ 34 ≤ length group.stored.request) ⊎ (2 ^ 62 ≤ end + group.len)

-- ---- room

-- the book may hold the capture so: in its last volume, or in one that is begun
abbrev pub MayHold : Book → Option ℕ → Type 0
MayHold book None = 0 < length book.volumes
MayHold book (Some born) = MayBegin book × InRange born

-- where the group is to begin
abbrev pub end_in : Book → ℕ → Option ℕ → ℕ
end_in book last None = last
end_in book last (Some born) = length (info_text book.namespace (length book.volumes) born)

-- there is room for it
pub record MakesRoom {D : Type 0} (old new : Volumes D) (begins : Option ℕ) (prepared : Option Prepared) : Type 0 where
  pub room : HasRoomFor new prepared
  pub room_is : with_prepared (book_of old.held) prepared ≡ room_by (book_of old.held) begins
  pub ends : end_with new prepared ≡ end_in (book_of old.held) (last_len old.journal) begins
