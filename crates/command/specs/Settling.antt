-- The checkpoints that are missing are written before and after a command works with its archive.
use Rattle.std.specs.Prelude.{◌≡◌, ℕ, IsTrue, Result, Ok, Err}
use Rattle.archive_core.specs.Holdings.{Holdings}
use Rattle.archive_reopening.specs.Known.{Opening}
use Rattle.archive_core.specs.Settling.{SettlesOn}
use Rattle.checkpoint.specs.OfVolume.{HasCheckpointsOf}
use Rattle.archive_shelf.specs.Openings.{ImageStandsFor}
use Rattle.archive_volumes.specs.Spots.{AreSpotsOf}
use Rattle.capture.specs.declared.book.Book.{Book}
use Rattle.checkpoint.specs.declared.fault.CheckpointFault.{CheckpointFault}
use Rattle.checkpoint.specs.declared.fault.CheckpointFault.TheVariants as checkpoints
use Rattle.disk_model.specs.Crash.{Leaves}
use Rattle.disk_model.specs.Image.{Image}
use Rattle.disk_model.specs.declared.disk.Disk.{Ghosts as Disks}
use Rattle.warc_journal.specs.Journals.{disk_of}
use Rattle.command.specs.Opening.{IsOpened}
use Rattle.command.specs.declared.status.Status.{Status}
use Rattle.command.specs.declared.status.Status.TheVariants.{Memory}

-- an image stands for the book, and its finished checkpoints are those of it
pub record IsOf (book : Book) (image : Image) : Type 0 where
  pub stands : ImageStandsFor image book
  pub checkpoints : HasCheckpointsOf image book

-- The archive was opened, over which nothing was written, with what it keeps of the captures of its book, and then it wrote the checkpoints that were missing, or was refused. Where its book is told, each
-- image that is left stands for it, and has its checkpoints.
pub record OpensSettled {D : Type 0} (disks : Disks D) (opening : Opening D) (now : Holdings D) : Type 0 where
  pub held : Holdings D
  pub opened : IsOpened disks opening held
  pub spots : AreSpotsOf held.book held.spots
  pub answer : Result ℕ CheckpointFault
  pub settles : SettlesOn disks held now answer
  pub left : IsTrue now.told → Leaves (disks.images (disk_of now.journal)) (IsOf now.book)

-- the status behind the last settling: want of memory is told, and a fault of the disk isn't
abbrev pub settled_status : Result ℕ CheckpointFault → Status → Status
settled_status (Ok written) said = said
settled_status (Err checkpoints.DiskFault) said = said
settled_status (Err checkpoints.Memory) said = Memory

-- The archive, with what it keeps of the captures of its book, wrote the checkpoints that were missing, or was refused, and was closed.
pub record ClosesSettled {D : Type 0} (disks : Disks D) (before : Holdings D) (said : Status) (is : D) (status : Status) : Type 0 where
  pub spots : AreSpotsOf before.book before.spots
  pub after : Holdings D
  pub answer : Result ℕ CheckpointFault
  pub settles : SettlesOn disks before after answer
  pub closed : is ≡ disk_of after.journal
  pub status_is : status ≡ settled_status answer said
