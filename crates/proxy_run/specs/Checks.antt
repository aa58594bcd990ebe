-- What the command `check` leaves.
use Rattle.std.specs.Prelude.{◌≡◌, ◌⊎◌, None}
use Rattle.archive_core.specs.Holdings.{Holdings}
use Rattle.archive_shelf.specs.Storing.{counts_of}
use Rattle.disk_model.specs.declared.disk.Disk.{Ghosts as Disks}
use Rattle.outside.specs.declared.sink.Sink.{Ghosts as Sinks}
use Rattle.archive_shelf.specs.declared.depth.Depth.TheVariants.{Whole}
use Rattle.command.specs.Opening.{IsOpened}
use Rattle.command.specs.Printing.{LacksMemory, Printed, Prints}
use Rattle.command.specs.Texts.{counts_text}
use Rattle.command.specs.declared.status.Status.TheVariants.{Done}
use Rattle.warc_journal.specs.Journals.{disk_of}

-- The archive was opened, over which nothing was written, and closed; how much it holds was printed, or there was no memory for that.
pub record IsCounted {D O : Type 0} (disks : Disks D) (sinks : Sinks O) (was is : D) (output : Printed O) : Type 0 where
  pub held : Holdings D
  pub opened : IsOpened disks (record { disk = was; depth = Whole; asked = None; known = None }) held
  pub closed : is ≡ disk_of held.journal
  pub printed : Prints sinks Done (counts_text (counts_of held.book)) output.was output.is output.status ⊎ LacksMemory sinks output.was output.is output.status
