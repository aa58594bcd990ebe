-- What is told of a filled archive.
use Rattle.std.proofs.Common.{◌≡◌, List, ℕ, length, sum_by, refl, ap, ◌∙◌}
use Rattle.archive_core.specs.Told.{told_of}
use Rattle.disk_model.specs.Device.{reading_of}
use Rattle.disk_model.specs.contracts.memory_disk.MemoryDiskDisk.TheImpl.{ghosts}
use Rattle.warc_journal.specs.Extents.{warc_files}
use Rattle.load_trial.proofs.TrialLaws.{not_held, tried_by}
use Rattle.load_trial.proofs.trying.tell.Goals as goal

pub returns-then-is_due : goal.returns-then-is_due
returns-then-is_due c = λ seed filled.
    let told = told_of ghosts c.args.archive in
    let reading : warc_files (reading_of c.close.result) ≡ warc_files told.reading =
    ap (λ disk. warc_files (reading_of disk)) c.close.ensures.disk in
    let sum : c.byte_sum-bytes.result ≡ sum_by (λ (text : List ℕ). length text) (warc_files told.reading) =
    not_held _ _ _ c.byte_sum-bytes.ensures c.if-bytes.false ∙ ap (sum_by (λ (text : List ℕ). length text)) reading in
    tried_by told seed c.args.count c.byte_sum-bytes.result c.counts-counts.result c.in_ok-text.text.items filled
    (c.if-is_due.ensures.volume refl) (c.if-is_due.ensures.namespace refl) (c.if-is_due.ensures.captures refl) c.counts-counts.ensures sum
    c.in_ok-text.ensures
