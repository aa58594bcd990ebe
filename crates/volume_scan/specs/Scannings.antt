-- What a scan of the volumes has read, and what its steps answer.
use Rattle.std.specs.Prelude.{◌≡◌, ◌≢◌, ◌<◌, ◌≤◌, ℕ, ◌+◌, false, IsTrue, List, [], ◌∷◌, ◌++◌, length, Result, IfErr, OnOk, ⊤}
use Rattle.capture.specs.Faults.{Rose}
use Rattle.disk_model.specs.Crash.{Leaves}
use Rattle.disk_model.specs.declared.disk.Disk.{Ghosts}
use Rattle.uuid.specs.Parts.{zero_bytes}
use Rattle.warc_journal.specs.Extents.{AreVolumesSynced, IsFound, texts_in, warc_files}
use Rattle.warc_journal.specs.Laws.{HasWarcOf}
use Rattle.warc_journal.specs.Texts.{Hold, with_more}
use Rattle.warc_journal.specs.declared.extent.Further.TheVariants.{Absent}
use Rattle.warc_journal.specs.declared.place.Place.{Place}
use Rattle.warc_scan.specs.Groups.{IsGroup}
use Rattle.warc_scan.specs.Headed.{HasItsParts}
use Rattle.record_opening.specs.Infos.{IsInfo}
use Rattle.warc_scan.specs.declared.group.Group.{Group as GroupFound}
use Rattle.volume_scan.specs.Damage.{IsDamagedAt}
use Rattle.volume_scan.specs.Unread.{IsBehind, IsFurthest, file_at, unread}
use Rattle.volume_scan.specs.Windows.{IsInside, Shows}
use Rattle.volume_scan.specs.declared.fault.ScanFault.{ScanFault}
use Rattle.volume_scan.specs.declared.fault.ScanFault.TheVariants.{Damaged, DiskFault, Memory}
use Rattle.volume_scan.specs.declared.found.Found.{Found}
use Rattle.volume_scan.specs.declared.found.Found.TheVariants.{Info, Group, End}
use Rattle.volume_scan.specs.declared.position.Position.{Position}
use Rattle.volume_scan.specs.declared.position.Stage.TheVariants.{Within, Opened, Skipped, Done}
use Rattle.volume_scan.specs.declared.scanning.Scanning.{Scanning}
use Rattle.volume_scan.specs.declared.window.Window.{Window}

-- a scan's disk, how far it has read, and how many files it found
abbrev pub disk_of : {D : Type 0} → Scanning D → D
disk_of scanning = scanning.disk

abbrev pub position_of : {D : Type 0} → Scanning D → Position
position_of scanning = scanning.position

abbrev pub file_count : {D : Type 0} → Scanning D → ℕ
file_count scanning = scanning.files

-- what it has in memory: a part of a file, and the length of the last volume's file
abbrev pub window_of : {D : Type 0} → Scanning D → Window
window_of scanning = scanning.window

abbrev pub last_len : {D : Type 0} → Scanning D → ℕ
last_len scanning = scanning.len

-- how many captures were read or skipped
abbrev pub captures_of : {D : Type 0} → Scanning D → ℕ
captures_of scanning = (position_of scanning).captures

-- where a scan begins
abbrev pub begins_at : Position
begins_at = record {
  extent = record { volumes = 0; end = 0; is_dirty = false; further = Absent };
  captures = 0;
  namespace = zero_bytes;
  stage = Within;
}

-- the Warc files of its disk, as a read gives them
abbrev pub files_in : {D : Type 0} → Ghosts D → Scanning D → List (List ℕ)
files_in d scanning = warc_files (d.reading (disk_of scanning))

-- the texts that were read so far, of each volume whose warcinfo was read
abbrev pub texts : {D : Type 0} → Ghosts D → Scanning D → List (List ℕ)
texts d scanning = texts_in (position_of scanning).extent (files_in d scanning)

-- a position lies in the files
pub record LiesIn (position : Position) (files : List (List ℕ)) : Type 0 where
  pub none : position.extent.volumes ≡ 0 → position.extent.end ≡ 0
  pub enough : position.extent.volumes ≤ length files
  pub within : (k : ℕ) → k + 1 ≡ position.extent.volumes → position.extent.end ≤ length (file_at files k)
  pub opened : position.stage ≡ Opened → 0 < position.extent.volumes
  pub skipped : position.stage ≡ Skipped → (position.extent.volumes < length files) × (unread position files ≡ [])
  -- at the end the extent says what stands behind
  pub done : position.stage ≡ Done → IsFound position.extent files
  pub behind : position.stage ≡ Done → IsBehind position.extent.is_dirty (unread position files)
  pub furthest : position.stage ≡ Done → IsFurthest position.extent.further position.extent.volumes files

-- a scan stands on its disk where it says: a crash leaves what a read gives, and what it has in memory is what stands there
pub record Stands {D : Type 0} (d : Ghosts D) (scanning : Scanning D) : Type 0 where
  pub synced : AreVolumesSynced (d.reading (disk_of scanning)) (d.images (disk_of scanning))
  pub count : file_count scanning ≡ length (files_in d scanning)
  pub lies : LiesIn (position_of scanning) (files_in d scanning)
  pub last : (k : ℕ) → k + 1 ≡ (position_of scanning).extent.volumes → last_len scanning ≡ length (file_at (files_in d scanning) k)
  pub shows : Shows (window_of scanning) (files_in d scanning)

-- the same, where its disk tells what it holds
pub record IsInPlace {D : Type 0} (d : Ghosts D) (scanning : Scanning D) : Type 0 where
  pub inside : IsInside (window_of scanning)
  pub stands : IsTrue d.tells → Stands d scanning

-- where work on files of another kind leaves the Warc files, as a read gives them and in each image, a scan stands on its disk
abbrev pub ScansStayBesideOtherWork : {D : Type 0} → Ghosts D → Type 0
ScansStayBesideOtherWork {D} d =
    (old : Scanning D) (disk : D) → (IsTrue d.tells → warc_files (d.reading disk) ≡ warc_files (d.reading (disk_of old)))
    → (IsTrue d.tells → Leaves (d.images disk) (HasWarcOf (d.images (disk_of old)))) → IsInPlace d old
    → IsInPlace d (record old { disk = disk })

-- ---- what a step answers

-- A volume begins: what was read of the one before it is all that its file holds, and this one's file begins with its warcinfo.
pub record BeginsOne {D : Type 0} (d : Ghosts D) (old new : Scanning D) (volume : ℕ) (namespace : List ℕ) (born : ℕ) : Type 0 where
  pub text : List ℕ
  pub is : IsInfo volume text namespace born (length text)
  pub number : volume ≡ (position_of old).extent.volumes
  pub there : volume < file_count old
  pub position : position_of new ≡ record {
    extent = record (position_of old).extent { volumes = volume + 1; end = length text };
    captures = captures_of old;
    namespace = namespace;
    stage = Opened;
  }
  pub read : IsTrue d.tells → texts d new ≡ texts d old ++ text ∷ []

-- A group stands behind what was read, with the next number.
pub record GoesOnWith {D : Type 0} (d : Ghosts D) (old new : Scanning D) (place : Place) (group : GroupFound) : Type 0 where
  pub text : List ℕ
  pub is : IsGroup (position_of old).namespace (captures_of old) text group
  pub volume : place.volume + 1 ≡ (position_of old).extent.volumes
  pub at : place.at ≡ (position_of old).extent.end
  pub len : place.len ≡ length text
  pub position : position_of new ≡ record (position_of old) {
    extent = record (position_of old).extent { end = place.at + length text };
    captures = captures_of old + 1;
    stage = Within;
  }
  pub read : IsTrue d.tells → texts d new ≡ with_more (texts d old) text

-- The files hold just what was read: it reaches as far as the extent says, which also says what stands behind it.
pub record Ends {D : Type 0} (d : Ghosts D) (old new : Scanning D) : Type 0 where
  pub position : position_of new ≡ record (position_of old) {
    extent = record (position_of old).extent {
      is_dirty = (position_of new).extent.is_dirty;
      further = (position_of new).extent.further;
    };
    stage = Done;
  }
  pub not_skipped : IsTrue d.tells → (position_of old).stage ≢ Skipped
  pub read : IsTrue d.tells → texts d new ≡ texts d old
  pub held : IsTrue d.tells → Hold (texts d old) (files_in d old)
  -- it says so exactly where something stands there
  pub behind : IsTrue d.tells → IsBehind (position_of new).extent.is_dirty (unread (position_of old) (files_in d old))
  pub furthest : IsTrue d.tells → IsFurthest (position_of new).extent.further (position_of old).extent.volumes (files_in d old)

-- what a step that answers Ok says
abbrev pub Finds : {D : Type 0} → Ghosts D → Scanning D → Scanning D → Found → Type 0
Finds d old new (Info volume namespace born) = BeginsOne d old new volume namespace born
Finds d old new (Group place read) = GoesOnWith d old new place read.group
Finds d old new End = Ends d old new

-- a group comes with the parts of its response's head, and its target as a URL
abbrev pub IsHeaded : Found → Type 0
IsHeaded (Info volume namespace born) = ⊤
IsHeaded (Group place read) = HasItsParts read
IsHeaded End = ⊤

-- damage is answered where it is
abbrev pub IsDamage : {D : Type 0} → Ghosts D → Scanning D → ScanFault → Type 0
IsDamage d old (Damaged file place) = IsTrue d.tells → IsDamagedAt (position_of old) (files_in d old) file place
IsDamage d old DiskFault = ⊤
IsDamage d old Memory = ⊤

-- a count of faults rises just where a disk fault is answered
abbrev pub CountsFault : ℕ → ℕ → ScanFault → Type 0
CountsFault before now (Damaged file place) = now ≡ before
CountsFault before now DiskFault = (before ≤ now) × Rose before now
CountsFault before now Memory = now ≡ before

-- a call counts its disk faults
pub record CountsDisk {T : Type 0} (before now : ℕ) (result : Result T ScanFault) : Type 0 where
  pub steady : OnOk result (now ≡ before)
  pub rose : IfErr result (CountsFault before now)
