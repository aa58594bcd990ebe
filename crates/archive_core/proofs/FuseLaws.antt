-- An archive whose disk in memory has a fuse.
use Rattle.std.proofs.Common.{ℕ, Some}
use Rattle.disk_model.specs.contracts.memory_disk.MemoryDiskDisk.TheImpl.{ghosts}
use Rattle.disk_model.specs.declared.memory_disk.MemoryDisk.{MemoryDisk}
use Rattle.warc_journal.specs.declared.journal.Journal.{Journal}
use Rattle.archive_core.specs.Holdings.{Holdings, IsArchive}

abbrev fused_journal : Journal MemoryDisk → ℕ → Journal MemoryDisk
fused_journal journal calls = record { disk = record journal.disk { fuse = Some calls }; extent = journal.extent }

abbrev fused : Holdings MemoryDisk → ℕ → Holdings MemoryDisk
fused held calls = record held { journal = fused_journal held.journal calls }

pub fused_is : (held : Holdings MemoryDisk) (calls : ℕ) → IsArchive ghosts held → IsArchive ghosts (fused held calls)
fused_is held calls is = record {
  holds = record { tells = is.holds.tells; in_step = is.holds.in_step; texts_are = is.holds.texts_are; sound = is.holds.sound; near = is.holds.near };
  measured = record { count = is.measured.count; filled = is.measured.filled; ends = is.measured.ends; begins = is.measured.begins };
  counted = record { few = is.counted.few; revisits = is.counted.revisits; found = is.counted.found; below = is.counted.below; limits = is.counted.limits; sealed = is.counted.sealed };
  spots = is.spots;
  table = is.table;
  indexed = is.indexed;
  named = is.named;
  within = is.within;
  placed = is.placed;
  made = is.made;
  known = is.known;
  settled = is.settled;
}
