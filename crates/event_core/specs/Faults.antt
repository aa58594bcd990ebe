-- How many events were refused because the disk failed.
use Rattle.std.specs.Prelude.{ℕ, ◌+◌, List, [], ◌∷◌}
use Rattle.archive_shelf.specs.declared.fault.BringFault.{BringFault}
use Rattle.archive_shelf.specs.declared.fault.BringFault.TheVariants as brings
use Rattle.archive_shelf.specs.declared.fault.ReopenFault.{ReopenFault}
use Rattle.archive_shelf.specs.declared.fault.ReopenFault.TheVariants as reopens
use Rattle.archive_shelf.specs.declared.fault.RollFault.{RollFault}
use Rattle.archive_shelf.specs.declared.fault.RollFault.TheVariants as rolls
use Rattle.archive_shelf.specs.declared.fault.StoreFault.{StoreFault}
use Rattle.archive_shelf.specs.declared.fault.StoreFault.TheVariants as stores
use Rattle.checkpoint.specs.declared.fault.CheckpointFault.{CheckpointFault}
use Rattle.checkpoint.specs.declared.fault.CheckpointFault.TheVariants as checkpoints
use Rattle.event_core.specs.declared.reply.EventFault.{EventFault}
use Rattle.event_core.specs.declared.reply.EventFault.TheVariants as refusals
use Rattle.event_core.specs.declared.reply.Reply.{Reply}
use Rattle.event_core.specs.declared.reply.Reply.TheVariants as replies

-- one where it was the disk's fault, else none
abbrev pub store_faults : StoreFault → ℕ
store_faults (stores.Full count limit) = 0
store_faults stores.DiskFault = 1
store_faults (stores.Damaged number kept found) = 0
store_faults stores.Memory = 0

abbrev pub roll_faults : RollFault → ℕ
roll_faults rolls.DiskFault = 1
roll_faults rolls.Memory = 0

abbrev pub bring_faults : BringFault → ℕ
bring_faults (brings.NoSuch count) = 0
bring_faults brings.DiskFault = 1
bring_faults (brings.Damaged number kept found) = 0
bring_faults brings.Memory = 0

abbrev pub settle_faults : CheckpointFault → ℕ
settle_faults checkpoints.DiskFault = 1
settle_faults checkpoints.Memory = 0

abbrev pub event_faults : EventFault → ℕ
event_faults (refusals.Store fault) = store_faults fault
event_faults (refusals.Roll fault) = roll_faults fault
event_faults (refusals.Bring fault) = bring_faults fault
event_faults (refusals.Query memory) = 0
event_faults (refusals.Settle fault) = settle_faults fault

abbrev pub reply_faults : Reply → ℕ
reply_faults (replies.Stored receipt) = 0
reply_faults replies.Rolled = 0
reply_faults (replies.Brought brought) = 0
reply_faults (replies.Found found) = 0
reply_faults (replies.Mapped mapped) = 0
reply_faults (replies.Settled written) = 0
reply_faults (replies.Reopened counts) = 0
reply_faults (replies.Refused fault) = event_faults fault

abbrev pub reopen_faults : ReopenFault → ℕ
reopen_faults (reopens.Damaged kind file place) = 0
reopen_faults (reopens.OtherNamespace other) = 0
reopen_faults reopens.DiskFault = 1
reopen_faults reopens.Memory = 0

-- how many replies say that the disk failed
abbrev pub disk_faults : List Reply → ℕ
disk_faults [] = 0
disk_faults (reply ∷ others) = reply_faults reply + disk_faults others
