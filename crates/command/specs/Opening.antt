-- What opening the archive on a disk gives, and how a refusal of it is told.
use Rattle.std.specs.Prelude.{◌≡◌, ◌⊎◌, ℕ, List}
use Rattle.archive_core.specs.Holdings.{Holdings}
use Rattle.archive_reopening.specs.Known.{IsNotOpenedKnown, IsReopenedKnown, Opening}
use Rattle.archive_reopening.specs.Reopening.{IsNotOpened as IsRefused, IsReopened}
use Rattle.archive_shelf.specs.declared.depth.Depth.TheVariants.{Whole}
use Rattle.archive_shelf.specs.declared.fault.ReopenFault.{ReopenFault}
use Rattle.capture.specs.declared.limits.Limits.{Limits}
use Rattle.disk_model.specs.declared.disk.Disk.{Ghosts as Disks}
use Rattle.outside.specs.declared.sink.Sink.{Ghosts as Sinks}
use Rattle.command.specs.Printing.{LacksMemory, Printed, Prints}
use Rattle.command.specs.Texts.{IsFaultText}
use Rattle.command.specs.declared.status.Status.TheVariants.{Archive}

-- how much an archive takes: a gigabyte a volume, and a million captures
abbrev pub usual_limits : Limits
usual_limits = record { volume_bytes = 1000000000; captures = 1000000 }

-- The archive was opened, with the usual limits: all that is said of that. With each volume read it is more.
pub record IsOpened {D : Type 0} (disks : Disks D) (opening : Opening D) (held : Holdings D) : Type 0 where
  pub is : IsReopenedKnown disks opening usual_limits held
  pub whole : opening.depth ≡ Whole → IsReopened disks opening.disk opening.asked usual_limits held

-- The archive wasn't opened: why, by all that is said of that, and what the disk is. The cause is printed, or there was no memory.
pub record IsNotOpened {D O : Type 0} (disks : Disks D) (sinks : Sinks O) (opening : Opening D) (is : D) (printed : Printed O) : Type 0 where
  pub fault : ReopenFault
  pub refused : IsNotOpenedKnown disks opening.disk opening.asked opening.known (fault, is)
  pub whole : opening.depth ≡ Whole → IsRefused disks opening.disk opening.asked (fault, is)
  pub told : ((text : List ℕ) × IsFaultText fault text × Prints sinks Archive text printed.was printed.is printed.status)
      ⊎ LacksMemory sinks printed.was printed.is printed.status
