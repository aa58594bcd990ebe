-- What a command that stores begins with: a disk without checkpoints of volumes that aren't sealed.
use Rattle.std.specs.Prelude.{◌≡◌, ◌⊎◌, ◌+◌, ◌<◌, ℕ, Bool, true, false, IsTrue, List, length, is_some, IfSome, Option}
use Rattle.archive_opening.specs.Telling.{IsAskedFor, IsSettledFor}
use Rattle.archive_settling.specs.Supplying.{OpensNoMore}
use Rattle.archive_shelf.specs.Openings.{ImageStandsFor}
use Rattle.archive_shelf.specs.declared.fault.ReopenFault.TheVariants.{DiskFault}
use Rattle.archive_volumes.specs.Volumes.{crash_of}
use Rattle.capture.specs.Faults.{Rose}
use Rattle.capture.specs.declared.book.Book.{Book}
use Rattle.cdxj_line.specs.declared.line.Line.{Line}
use Rattle.checkpoint.specs.Checkpoints.{IsCheckpoint, checkpoint_of}
use Rattle.checkpoint.specs.Clearing.{ClearsUnsealed, IsCleared, sealed_count}
use Rattle.checkpoint.specs.OfVolume.{AreLinesOf}
use Rattle.disk_model.specs.Image.{Image}
use Rattle.disk_model.specs.declared.disk.Disk.{Ghosts as Disks}
use Rattle.outside.specs.declared.sink.Sink.{Ghosts as Sinks}
use Rattle.warc_journal.specs.Extents.{warc_files}
use Rattle.warc_text.specs.StandsFor.{IdsDifferIn}
use Rattle.command.specs.Printing.{LacksMemory, Printed, Prints}
use Rattle.command.specs.Texts.{IsFaultText}
use Rattle.command.specs.Words.{asked_of}
use Rattle.command.specs.declared.status.Status.TheVariants.{Archive}
use Rattle.command.specs.declared.words.Command.{Command}

-- a command that stores is one that names a namespace
abbrev pub stores : Command → Bool
stores command = is_some (asked_of command)

-- the checkpoints of volumes that aren't sealed were taken away, and a crash leaves none of them
pub record IsBegun {D : Type 0} (disks : Disks D) (was begun : D) : Type 0 where
  pub cleared : IsTrue disks.tells → IsCleared disks was begun
  pub same_faults : disks.faults begun ≡ disks.faults was

-- What a command begins with: one that doesn't store with the disk as it was.
abbrev pub BeginsWith : {D : Type 0} → Disks D → Bool → D → D → Type 0
BeginsWith disks true was begun = IsBegun disks was begun
BeginsWith disks false was begun = begun ≡ was

-- The disk failed, which is printed, or there was no memory to. Some of those checkpoints may have been taken away.
pub record IsNotBegun {D O : Type 0} (disks : Disks D) (sinks : Sinks O) (was is : D) (printed : Printed O) : Type 0 where
  pub clears : IsTrue disks.tells → ClearsUnsealed disks was is
  pub rose : Rose (disks.faults was) (disks.faults is)
  pub told : ((text : List ℕ) × IsFaultText DiskFault text × Prints sinks Archive text printed.was printed.is printed.status)
      ⊎ LacksMemory sinks printed.was printed.is printed.status

-- ---- a book that is known

-- An image stands for this sound book, whose ids differ, and the finished checkpoints of volumes that have another file behind them are of its sealed
-- volumes, and those of it. What stands beside the last file, or of volumes that there are none of, isn't said.
pub record IsKeptFor (image : Image) (book : Book) : Type 0 where
  pub stands : ImageStandsFor image book
  pub ids : IdsDifferIn book
  pub sealed : (k : ℕ) (lines : List Line) → k < sealed_count (warc_files image) → IsCheckpoint k lines (checkpoint_of image k)
      → (k + 1 < length book.volumes) × AreLinesOf book k lines

-- an image is kept for a book for a command that stores, and settled for it for another one
abbrev pub IsFitFor : Bool → Image → Book → Type 0
IsFitFor true image book = IsKeptFor image book
IsFitFor false image book = IsSettledFor image book

-- where the disk tells, what a read gives fits the book that is known, if one is, and has the namespace that is asked for, if one is
abbrev pub MayBegin : {D : Type 0} → Disks D → D → Option Book → Command → Type 0
MayBegin disks disk known command =
    IfSome known (λ book. IsTrue disks.tells → IsFitFor (stores command) (disks.reading disk) book × IsAskedFor (asked_of command) book)

-- what may be opened where those checkpoints were taken away, all or some, at whatever moment, might have been before
abbrev pub BeginningOpensNoMore : {D : Type 0} → Disks D → Type 0
BeginningOpensNoMore {D} disks = (was is : D) → IsTrue disks.tells → ClearsUnsealed disks was is → OpensNoMore (crash_of disks was) (crash_of disks is)

-- and what is kept for a book stays kept for it
abbrev pub BeginningKeepsTheBook : {D : Type 0} → Disks D → Type 0
BeginningKeepsTheBook {D} disks = (was is : D) (book : Book) → ClearsUnsealed disks was is → IsKeptFor (disks.reading was) book → IsKeptFor (disks.reading is) book

-- what is settled for a book is kept for it: so what a run leaves settled may be stored in by the next one
abbrev pub SettledIsKept : Type 0
SettledIsKept = (image : Image) (book : Book) → IsSettledFor image book → IsKeptFor image book
