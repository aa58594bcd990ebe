-- The volumes on a disk, the book that they hold, and what a change of them may leave.
use Rattle.std.specs.Prelude.{◌≡◌, ◌⊎◌, ℕ, ◌+◌, ◌^◌, ◌<◌, ◌≤◌, Bool, IsTrue, if◌then◌else◌, [], length, slice_get, OnErr, OnOk, Result, Some, None, List}
use Rattle.capture.specs.Captures.{captures}
use Rattle.capture.specs.declared.book.Book.{Book}
use Rattle.capture.specs.declared.book.Volume.{Volume}
use Rattle.disk_model.specs.Image.{Image}
use Rattle.disk_model.specs.declared.disk.Disk.{Ghosts}
use Rattle.warc_journal.specs.Journals.{IsInStep, last_len, texts, volumes}
use Rattle.warc_journal.specs.declared.journal.Journal.{Journal}
use Rattle.warc_journal.specs.Texts.{AreJust}
use Rattle.warc_journal.specs.Extents.{warc_files, cdxj_files}
use Rattle.warc_text.specs.Books.{AreVolumeTexts}
use Rattle.warc_text.specs.Records.{info_text}
use Rattle.warc_text.specs.Sound.{IsSound}
use Rattle.archive_shelf.specs.Openings.{CrashStates, HasIds, ImageStandsFor, IsNext, IsState, Keeps, KeepsCheckpoints, LeavesNoMore, Moves, SameBook, StaysCovered}
use Rattle.archive_shelf.specs.Storing.{new_volume}
use Rattle.archive_volumes.specs.Held.{HasSpace, volume_of}
use Rattle.archive_volumes.specs.declared.room.Prepared.{Prepared}
use Rattle.archive_volumes.specs.Spots.{ArePlaced, AreSpotsOf, AreWithin}
use Rattle.archive_volumes.specs.declared.spot.Spot.{Spot}

-- ---- the book that is held

-- each image stands for a sound book that is next to this one
abbrev pub OpensNear : {D : Type 0} → Ghosts D → D → Book → Type 0
OpensNear d disk book = (image : Image) → d.images disk image → (x : Book) × ImageStandsFor image x × IsNext book x

-- The volumes are those of a sound book, and each image is next to it, where that is told: only of a disk that tells what it holds. Of each
-- disk that tells, the texts reach as far as the journal says.
pub record HoldsBook {D : Type 0} (d : Ghosts D) (told : Bool) (journal : Journal D) (book : Book) : Type 0 where
  pub tells : IsTrue told → IsTrue d.tells
  pub in_step : IsTrue d.tells → IsInStep d journal
  pub texts_are : IsTrue told → AreVolumeTexts book (texts d journal)
  pub sound : IsTrue told → IsSound book
  pub near : IsTrue told → OpensNear d journal.disk book

-- whatever the disk tells: how many volumes there are, that each but the last holds a capture, and where the last one ends
pub record IsMeasured {D : Type 0} (journal : Journal D) (book : Book) : Type 0 where
  pub count : volumes journal ≡ length book.volumes
  pub filled : (k : ℕ) (volume : Volume) → slice_get book.volumes k ≡ Some volume → k + 1 < length book.volumes
      → 0 < length volume.captures
  pub ends : last_len journal < 2 ^ 62
  pub begins : (k : ℕ) (volume : Volume) → k + 1 ≡ length book.volumes → slice_get book.volumes k ≡ Some volume
      → volume.captures ≡ [] → last_len journal ≤ 512

-- a volume is prepared to be begun behind those of the book: with its text, and with room for one capture
pub record IsPrepared (book : Book) (prepared : Prepared) : Type 0 where
  pub empty : volume_of prepared.shadow ≡ new_volume prepared.shadow.born
  pub space : HasSpace prepared.shadow
  pub info : prepared.info ≡ info_text book.namespace (length book.volumes) prepared.shadow.born
  pub short : length prepared.info ≤ 512

-- ---- what may be opened

-- The disk, of which is told what the book has where it says so. A change from one book to another is said of it, and so is what may be opened
-- then: where the book isn't known, nothing.
abbrev pub muted : {D : Type 0} → Bool → Ghosts D → Ghosts D
muted told d = record d { tells = told }

-- what a crash may leave of a disk that tells; of another disk nothing may be opened, and time stands still
abbrev pub crash_of : {D : Type 0} → Ghosts D → D → CrashStates
crash_of d disk = record {
  moment = if d.tells then d.moment disk else 0;
  openings = λ t book. IsTrue d.tells × (image : Image) × d.images_since disk t image × ImageStandsFor image book;
  covered = λ t. IsTrue d.tells → (image : Image) → d.images_since disk t image → (book : Book) × ImageStandsFor image book;
  checkpoints = λ files. IsTrue d.tells × (image : Image) × d.images disk image × (cdxj_files image ≡ files);
}

-- where the disk tells, the files of the volumes are just the texts of the book in each image, but for one empty file more
abbrev pub LeavesJust : {D : Type 0} → Ghosts D → D → Book → Type 0
LeavesJust d disk book =
    IsTrue d.tells → (image : Image) → d.images disk image
    → (texts : List (List ℕ)) × AreVolumeTexts book texts × AreJust texts (warc_files image)

-- a call that only reads: nothing more may be opened
abbrev pub IsQuiet : {D : Type 0} → Ghosts D → D → D → Type 0
IsQuiet d old new = LeavesNoMore (crash_of d old) (crash_of d new)

-- A call that makes one change, from one book to another, or is refused.
pub record Makes {D T E : Type 0} (d : Ghosts D) (old new : D) (before after : Book) (result : Result T E) : Type 0 where
  pub later : (crash_of d old).moment ≤ (crash_of d new).moment
  pub moves : HasIds before → Moves (crash_of d old) (crash_of d new) (λ x. SameBook x before ⊎ (x ≡ after))
  pub only : HasIds before → OnOk result (IsState (crash_of d new) after None)
  pub refused : HasIds before → OnErr result
      (Keeps (crash_of d old) (crash_of d new) before ⊎ IsState (crash_of d new) before (Some after))
  pub covered : StaysCovered (crash_of d old) (crash_of d new)
  pub kept : KeepsCheckpoints (crash_of d old) (crash_of d new)
  pub just : OnOk result (LeavesJust d new after)

-- a book with a volume or a capture more
pub record IsStep (before after : Book) : Type 0 where
  pub namespace : after.namespace ≡ before.namespace
  pub count : length (captures after) ≤ length (captures before) + 1
  pub some : 0 < length after.volumes
  pub next : IsNext before after

-- ---- what is read

-- What is read goes by these spots: they are those of the book that the volumes hold. Where the disk tells, what is read of each is within the
-- text of its volume; where the book is told, each stands where its spot says.
pub record CanReadBy {D : Type 0} (d : Ghosts D) (told : Bool) (journal : Journal D) (book : Book) (spots : List Spot) : Type 0 where
  pub holds : HoldsBook d told journal book
  pub measured : IsMeasured journal book
  pub are : AreSpotsOf book spots
  pub within : IsTrue d.tells → AreWithin (texts d journal) spots
  pub placed : IsTrue told → ArePlaced (texts d journal) book spots
