-- What the command `check` leaves.
use Rattle.std.proofs.Common.{◌≡◌, ◌⊎◌, None, subst}
use Rattle.archive_core.specs.Holdings.{Holdings}
use Rattle.archive_shelf.specs.Storing.{counts_of}
use Rattle.archive_shelf.specs.declared.depth.Depth.TheVariants.{Whole}
use Rattle.archive_reopening.specs.Known.{opening_of}
use Rattle.command.specs.Opening.{IsOpened}
use Rattle.command.specs.Printing.{LacksMemory, Prints, printed_as}
use Rattle.command.specs.Texts.{counts_text}
use Rattle.command.specs.declared.status.Status.{Status}
use Rattle.command.specs.declared.status.Status.TheVariants.{Done}
use Rattle.disk_model.specs.declared.disk.Disk.{Ghosts as Disks}
use Rattle.outside.specs.declared.sink.Sink.{Ghosts as Sinks}
use Rattle.proxy_run.specs.Checks.{IsCounted}
use Rattle.warc_journal.specs.Journals.{disk_of}

-- an archive that was opened, counted and closed
pub counted_by : {D O : Type 0} (disks : Disks D) (sinks : Sinks O) (was is : D) (held : Holdings D) (out_was out_opened out_is : O) (status : Status)
    → IsOpened disks (opening_of was Whole None None) held → is ≡ disk_of held.journal
    → Prints sinks Done (counts_text (counts_of held.book)) out_opened out_is status ⊎ LacksMemory sinks out_opened out_is status → out_opened ≡ out_was
    → IsCounted disks sinks was is (printed_as out_was out_is status)
counted_by disks sinks was is held out_was out_opened out_is status opened closed printed silent = record {
  held = held;
  opened = opened;
  closed = closed;
  printed = subst (λ o. Prints sinks Done (counts_text (counts_of held.book)) o out_is status ⊎ LacksMemory sinks o out_is status) silent printed;
}
