-- How the checkpoints of volumes are written one behind the other.
use Rattle.std.specs.Prelude.{◌≡◌, ℕ, ◌+◌, ◌-◌, ◌≤◌, Bool, true, false, IsTrue, length, IfOk, OnOk, Result, Ok, Err, List, slice_get, Some}
use Rattle.volume_lines.specs.OfSpots.{AreLinesOfSpots}
use Rattle.archive_shelf.specs.Openings.{CrashStates, LeavesNoMore}
use Rattle.cdxj_line.specs.declared.line.Line.{Line}
use Rattle.capture.specs.declared.book.Book.{Book}
use Rattle.capture.specs.Captures.{first_number}
use Rattle.capture.specs.declared.book.Volume.{Volume}
use Rattle.disk_model.specs.Crash.{Leaves}
use Rattle.disk_model.specs.Image.{Image, file_count}
use Rattle.disk_model.specs.declared.disk.Disk.{Ghosts}
use Rattle.disk_model.specs.declared.kind.Kind.TheVariants.{Cdxj}
use Rattle.warc_journal.specs.Extents.{warc_files}
use Rattle.warc_journal.specs.Journals.{Rests, disk_of, extent_of}
use Rattle.checkpoint.specs.Checkpoints.{checkpoint_of}
use Rattle.checkpoint.specs.declared.fault.CheckpointFault.{CheckpointFault}
use Rattle.checkpoint.specs.declared.fault.CheckpointFault.TheVariants as checkpoints
use Rattle.checkpoint.specs.OfVolume.{AreLinesOf}
use Rattle.archive_volumes.specs.Held.{book_of}
use Rattle.archive_volumes.specs.Volumes.{HoldsBook, crash_of}
use Rattle.archive_reading.specs.declared.part.ReadFault.{ReadFault}
use Rattle.archive_reading.specs.declared.part.ReadFault.TheVariants as reads
use Rattle.archive_volumes.specs.declared.volumes.Volumes.{Volumes}
use Rattle.archive_volumes.specs.declared.spot.Spot.{Spot}
use Rattle.archive_settling.specs.Finished.{FirstAreFinished, HasCheckpoint}
use Rattle.archive_settling.specs.Settling.{GoesWith, HasWithout, LeavesCheckpoints, Shelved, reach}

-- ---- what is told of checkpoints

abbrev pub shelved_as : Bool → Book → List Spot → Shelved
shelved_as told book spots = record { told = told; book = book; spots = spots }

-- The lines of a volume: they tell what is kept of its captures, one for each; where the book is told, they are those of the book's volume.
pub record AreLinesFrom (shelved : Shelved) (k : ℕ) (lines : List Line) : Type 0 where
  pub of : Volume
  pub placed : slice_get shelved.book.volumes k ≡ Some of
  pub kept : AreLinesOfSpots shelved.spots (first_number shelved.book k) (length of.captures) lines
  pub are : IsTrue shelved.told → AreLinesOf shelved.book k lines

-- an image that goes with one from before
abbrev pub HasSupplied : Shelved → ℕ → Image → (Image → Type 0) → Image → Type 0
HasSupplied shelved upto first images image = (before : Image) × images before × GoesWith shelved upto first before image

-- a read gives the checkpoint that it gave
abbrev pub IsAsBefore : Image → Image → ℕ → Type 0
IsAsBefore was is k = checkpoint_of is k ≡ checkpoint_of was k

-- nothing more may be opened, at whatever moment a crash stops the call
abbrev pub OpensNoMore : CrashStates → CrashStates → Type 0
OpensNoMore was is = LeavesNoMore was (record is { checkpoints = was.checkpoints })

-- ---- one volume behind the other

-- the fault of reading, as that of a checkpoint
abbrev pub checkpoint_fault_of : ReadFault → CheckpointFault
checkpoint_fault_of reads.DiskFault = checkpoints.DiskFault
checkpoint_fault_of reads.Memory = checkpoints.Memory

-- the volumes stay, and the book that they hold; nothing is opened that wasn't before
pub record KeepsVolumes {D : Type 0} (d : Ghosts D) (told : Bool) (old new : Volumes D) : Type 0 where
  pub held : new.held ≡ old.held
  pub extent : extent_of new.journal ≡ extent_of old.journal
  pub warc : IsTrue d.tells → warc_files (d.reading (disk_of new.journal)) ≡ warc_files (d.reading (disk_of old.journal))
  pub holds : HoldsBook d told new.journal (book_of new.held)
  pub opens : OpensNoMore (crash_of d (disk_of old.journal)) (crash_of d (disk_of new.journal))

-- The first volumes were gone through, from one state of the disk on: so many of their checkpoints were missing, and were written. The files
-- of the other volumes are as they were.
pub record Went {D : Type 0} (d : Ghosts D) (shelved : Shelved) (k n : ℕ) (from now : D) : Type 0 where
  pub left : LeavesCheckpoints d shelved k from now
  pub ahead : (j : ℕ) → k ≤ j → checkpoint_of (d.reading now) j ≡ checkpoint_of (d.reading from) j
  pub settled : IsTrue shelved.told → Leaves (d.images now) (FirstAreFinished shelved.book k)
  pub there : IsTrue shelved.told → k ≤ file_count (d.reading now) Cdxj
  pub counted : IsTrue shelved.told → HasWithout (λ j. HasCheckpoint shelved.book j (d.reading from)) k n
  pub wrote : HasWithout (IsAsBefore (d.reading from) (d.reading now)) k n
  pub none : n ≡ 0 → Rests d from now

-- it was refused when so many were gone through: those that were finished stay
pub record Stopped {D : Type 0} (d : Ghosts D) (shelved : Shelved) (k : ℕ) (fault : CheckpointFault) (from now : D) : Type 0 where
  pub left : LeavesCheckpoints d shelved (reach k (Err fault)) from now
  pub settled : IsTrue shelved.told → Leaves (d.images now) (FirstAreFinished shelved.book k)

-- one volume more was gone through, or it was refused
abbrev pub GoesTo : {D : Type 0} → Ghosts D → Shelved → ℕ → ℕ → D → D → Result Bool CheckpointFault → Type 0
GoesTo d shelved k n from new (Ok true) = Went d shelved (k + 1) (n + 1) from new
GoesTo d shelved k n from new (Ok false) = Went d shelved (k + 1) n from new
GoesTo d shelved k n from new (Err fault) = Stopped d shelved k fault from new

-- and so it goes on wherever it began
abbrev pub GoesOnBy : {D : Type 0} → Ghosts D → Shelved → ℕ → D → D → Result Bool CheckpointFault → Type 0
GoesOnBy {D} d shelved k old new result =
    (from : D) (n : ℕ) → Went d shelved k n from old → GoesTo d shelved k n from new result

-- all volumes but the last were gone through, or it was refused when so many were
abbrev pub GoesThrough : {D : Type 0} → Ghosts D → Shelved → ℕ → D → D → Result ℕ CheckpointFault → Type 0
GoesThrough d shelved k old new (Ok n) = Went d shelved k n old new
GoesThrough d shelved k old new (Err fault) = Stopped d shelved k fault old new

-- how many are known to be finished: none is forgotten, and after success all are; no more were written than were gone through
pub record KnowsMore {E : Type 0} (book : Book) (was is : ℕ) (result : Result ℕ E) : Type 0 where
  pub more : was ≤ is
  pub within : is ≤ length book.volumes - 1
  pub all : OnOk result (is ≡ length book.volumes - 1)
  pub few : IfOk result (λ n. was + n ≤ is)
