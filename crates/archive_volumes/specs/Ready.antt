-- A capture that is ready to be written.
use Rattle.std.specs.Prelude.{◌≡◌, ℕ, ◌+◌, ◌-◌, ◌^◌, ◌<◌, Bool, IsTrue, List, [], ◌∷◌, ◌++◌, length, IfSome, Option}
use Rattle.capture.specs.Captures.{captures}
use Rattle.capture.specs.Tails.{IsCommitted}
use Rattle.capture.specs.declared.book.Book.{Book}
use Rattle.capture.specs.declared.captured.Taken.{Taken}
use Rattle.disk_model.specs.declared.disk.Disk.{Ghosts}
use Rattle.warc_journal.specs.Journals.{last_len, texts}
use Rattle.warc_journal.specs.Texts.{with_more}
use Rattle.warc_text.specs.Books.{IsGroupText}
use Rattle.warc_text.specs.Sound.{IsSound}
use Rattle.warc_text.specs.StandsFor.{commit_byte}
use Rattle.archive_shelf.specs.Storing.{as_stored, with_capture}
use Rattle.archive_volumes.specs.Grouping.{IsGroupFor, StandsAt}
use Rattle.archive_volumes.specs.Held.{book_of, stored_in}
use Rattle.archive_volumes.specs.Spots.{HasPlace, IsPlaced, IsSpotOf, spot_of}
use Rattle.archive_volumes.specs.Writing.{HasRoomFor, IsDecided, end_with, texts_with, with_prepared}
use Rattle.archive_volumes.specs.declared.entry.RecordAt.{RecordAt}
use Rattle.archive_volumes.specs.declared.ready.Ready.{Ready}
use Rattle.archive_volumes.specs.declared.spot.Spot.{Spot}
use Rattle.archive_volumes.specs.declared.volumes.Volumes.{Volumes}

-- a capture that is to be stored: the digest of its payload, and what it refers to
pub record Incoming : Type 0 where
  pub taken : Taken
  pub digest : List ℕ
  pub same : Option ℕ

abbrev pub incoming_of : Taken → List ℕ → Option ℕ → Incoming
incoming_of taken digest same = record { taken = taken; digest = digest; same = same }

-- the capture, whose payload this is, is ready to be written into these volumes, in which room was made for it
pub record IsReady {D : Type 0} (old new : Volumes D) (limit : ℕ) (incoming : Incoming) (payload : List ℕ) (ready : Ready) : Type 0 where
  pub stored : (stored_in ready.stored) ≡ as_stored incoming.taken incoming.same
  pub digest : ready.digest ≡ incoming.digest
  pub kept : ready.spot ≡ spot_of (stored_in ready.stored) ready.digest 0 0 0
  pub group : IsGroupFor (book_of old.held) incoming.taken payload incoming.same ready.group
  pub layout : StandsAt incoming.taken incoming.same ready.group ready.layout
  pub room : HasRoomFor new ready.prepared
  pub decided : IsDecided limit (book_of old.held) (last_len old.journal) (length ready.group) ready.prepared
  pub born : IfSome ready.prepared (λ prepared. prepared.shadow.born ≡ incoming.taken.date)
  pub fits : end_with new ready.prepared + length ready.group < 2 ^ 62

-- the book with room for the capture, and with it
abbrev pub room_of : {D : Type 0} → Volumes D → Ready → Book
room_of volumes_now ready = with_prepared (book_of volumes_now.held) ready.prepared

abbrev pub book_with : {D : Type 0} → Volumes D → Ready → Book
book_with volumes_now ready = with_capture (room_of volumes_now ready) (stored_in ready.stored)

-- what is kept of it once it is written
abbrev pub spot_in : {D : Type 0} → Volumes D → Ready → Spot
spot_in volumes_now ready =
    spot_of (stored_in ready.stored) ready.digest (length (room_of volumes_now ready).volumes - 1) (end_with volumes_now ready.prepared)
    (end_with volumes_now ready.prepared + ready.layout.head_at)

-- the capture can be written into these volumes, and kept
pub record CanCommit {D : Type 0} (d : Ghosts D) (told : Bool) (volumes_now : Volumes D) (ready : Ready) : Type 0 where
  pub room : HasRoomFor volumes_now ready.prepared
  pub kept : ready.spot ≡ spot_of (stored_in ready.stored) ready.digest 0 0 0
  pub committed : IsCommitted commit_byte ready.group
  pub fits : end_with volumes_now ready.prepared + length ready.group < 2 ^ 62
  pub gains : captures (book_with volumes_now ready) ≡ captures (book_of volumes_now.held) ++ (stored_in ready.stored) ∷ []
  pub spot : IsSpotOf (book_with volumes_now ready) (length (captures (book_of volumes_now.held))) (spot_in volumes_now ready)
  pub group : IsTrue told → IsGroupText (book_with volumes_now ready) (length (captures (room_of volumes_now ready))) ready.group
  pub sound : IsTrue told → IsSound (book_with volumes_now ready)
  pub within : IsTrue d.tells → HasPlace (with_more (texts_with (texts d volumes_now.journal) ready.prepared) ready.group) (spot_in volumes_now ready)
  pub placed : IsTrue told → IsPlaced (with_more (texts_with (texts d volumes_now.journal) ready.prepared) ready.group)
      (book_with volumes_now ready) (length (captures (book_of volumes_now.held))) (spot_in volumes_now ready)

-- where its first record is to stand
abbrev pub record_in : {D : Type 0} → Volumes D → Ready → ℕ → RecordAt
record_in volumes_now ready number = record {
  number = number;
  digest = ready.digest;
  volume = length (room_of volumes_now ready).volumes - 1;
  offset = end_with volumes_now ready.prepared;
  len = ready.layout.record_len;
}
