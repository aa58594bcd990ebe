-- What a crash leaves of the archive: its book alone where the disk didn't fail, and in any case its checkpoints, and what stood and was stored in its volumes.
use Rattle.std.specs.Prelude.{◌≡◌, IsTrue, List, None}
use Rattle.disk_model.specs.Crash.{Leaves}
use Rattle.disk_model.specs.declared.disk.Disk.{Ghosts}
use Rattle.warc_journal.specs.Journals.{disk_of}
use Rattle.archive_shelf.specs.Openings.{HasIds, IsState}
use Rattle.checkpoint.specs.OfVolume.{HasCheckpointsOf}
use Rattle.archive_core.specs.Holdings.{Holdings}
use Rattle.archive_core.specs.Lasting.{KeepsStored}
use Rattle.archive_core.specs.Stood.{Stood}
use Rattle.archive_core.specs.Told.{told_of}
use Rattle.vault_turns.specs.History.{sure_in}
use Rattle.vault_turns.specs.Own.{faults_since}
use Rattle.vault_turns.specs.declared.noted.Noted.{Noted}

-- only the archive's book may be opened now, where the ids differ
abbrev pub IsCalm : {D : Type 0} → Ghosts D → Holdings D → Type 0
IsCalm d holdings = HasIds holdings.book → IsState (told_of d holdings).crash holdings.book None

-- where the book is told, the finished checkpoints of each image that a crash may leave are those of the book
abbrev pub HasRightCheckpoints : {D : Type 0} → Ghosts D → Holdings D → Type 0
HasRightCheckpoints d holdings =
    IsTrue holdings.told → Leaves (d.images (disk_of holdings.journal)) (λ image. HasCheckpointsOf image holdings.book)

-- whatever is told of the book: what stood stands, with all that was stored since, and a crash has left each of that at each moment since its store
abbrev pub StillStands : {D : Type 0} → Ghosts D → Stood → Holdings D → Type 0
StillStands d stood holdings = IsTrue d.tells → KeepsStored d stood holdings

-- ---- as it was when the archive was given

-- an archive that was calm when it was given is so as long as no fault was met
abbrev pub StaysCalm : {D : Type 0} → Ghosts D → List Noted → Holdings D → Type 0
StaysCalm d history holdings = IsTrue (sure_in history).calm → faults_since history ≡ 0 → IsCalm d holdings

-- one whose checkpoints were right has right ones
abbrev pub StaysRight : {D : Type 0} → Ghosts D → List Noted → Holdings D → Type 0
StaysRight d history holdings = IsTrue (sure_in history).right → HasRightCheckpoints d holdings

-- and in one in which something stood it stands, with all that was stored since
abbrev pub StaysStood : {D : Type 0} → Ghosts D → List Noted → Holdings D → Type 0
StaysStood d history holdings = IsTrue (sure_in history).lasts → StillStands d (sure_in history).stood holdings

-- these statements, which so need no name of the disk
pub record Crash : Type 1 where
  pub calm : Type 0
  pub right : Type 0
  pub lasts : Stood → Type 0

abbrev pub crash_left : {D : Type 0} → Ghosts D → Holdings D → Crash
crash_left d holdings = record {
  calm = IsCalm d holdings;
  right = HasRightCheckpoints d holdings;
  lasts = λ stood. StillStands d stood holdings;
}
