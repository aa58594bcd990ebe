use Rattle.std.proofs.Common.{◌≡◌, ◌<◌, ℕ, IsTrue, length}
use Rattle.disk_model.specs.Crash.{HasFile, Leaves}
use Rattle.disk_model.specs.Image.{file_of}
use Rattle.disk_model.specs.declared.kind.Kind.TheVariants.{Cdxj}
use Rattle.warc_journal.specs.Extents.{cdxj_files}
use Rattle.warc_journal.specs.Journals.{Rests}
use Rattle.archive_opening.proofs.starting.sync_checkpoints.Given as goal

abbrev pub invariant-files : goal.invariant-files
invariant-files g l = record {
  count : IsTrue g.D.Disk.tells → l.count ≡ length (cdxj_files (g.D.Disk.reading l.disk));
  synced : IsTrue g.D.Disk.tells → (k : ℕ) → k < l.file → Leaves (g.D.Disk.images l.disk) (HasFile Cdxj k (file_of (g.D.Disk.reading l.disk) Cdxj k));
  rests : IsTrue g.D.Disk.tells → Rests g.D.Disk l.fn.disk l.disk;
  faults : g.D.Disk.faults l.disk ≡ g.D.Disk.faults l.fn.disk;
}
