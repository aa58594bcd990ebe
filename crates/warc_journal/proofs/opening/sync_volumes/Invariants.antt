use Rattle.std.proofs.Common.{◌≡◌, ◌<◌, ℕ, IsTrue, length}
use Rattle.disk_model.specs.Crash.{HasFile, Leaves}
use Rattle.disk_model.specs.Image.{file_of}
use Rattle.disk_model.specs.declared.kind.Kind.TheVariants.{Warc}
use Rattle.warc_journal.specs.Extents.{warc_files}
use Rattle.warc_journal.specs.Journals.{Rests}
use Rattle.warc_journal.proofs.opening.sync_volumes.Given as goal

abbrev pub invariant-files : goal.invariant-files
invariant-files g l = record {
  count : IsTrue g.D.Disk.tells → l.count ≡ length (warc_files (g.D.Disk.reading l.disk));
  synced : IsTrue g.D.Disk.tells → (k : ℕ) → k < l.file → Leaves (g.D.Disk.images l.disk) (HasFile Warc k (file_of (g.D.Disk.reading l.disk) Warc k));
  rests : IsTrue g.D.Disk.tells → Rests g.D.Disk l.fn.disk l.disk;
  faults : g.D.Disk.faults l.disk ≡ g.D.Disk.faults l.fn.disk;
}
