-- Checkpoints that are synced stay so while nothing is written.
use Rattle.std.proofs.Common.{◌∙◌, ap}
use Rattle.disk_model.specs.Image.{Image}
use Rattle.disk_model.specs.declared.disk.Disk.{Ghosts}
use Rattle.warc_journal.specs.Extents.{cdxj_files}
use Rattle.warc_journal.specs.Journals.{Rests}
use Rattle.archive_opening.specs.Telling.{AreCheckpointsSynced}

pub still_synced : {D : Type 0} (d : Ghosts D) (old mid new : D) → Rests d old mid → Rests d mid new → AreCheckpointsSynced (d.reading mid) (d.images mid)
    → AreCheckpointsSynced (d.reading old) (d.images new)
still_synced d old mid new first second synced = λ image left.
    synced image (second.crash image left) ∙ ap (λ (i : Image). cdxj_files i) first.read
