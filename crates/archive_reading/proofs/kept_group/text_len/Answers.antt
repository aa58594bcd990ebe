use Rattle.archive_reading.proofs.BringLaws.{reads_itself}
use Rattle.archive_reading.proofs.kept_group.text_len.Goals as goal

pub returns-then-volume-last-clause-reads : goal.returns-then-volume-last-clause-reads
returns-then-volume-last-clause-reads g c = reads_itself g.D.Disk c.args.volumes.now
