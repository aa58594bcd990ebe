use Rattle.archive_reading.proofs.BringLaws.{reads_itself}
use Rattle.archive_payloads.proofs.compare.keeps_wire.Goals as goal

pub returns-then-not-alike-clause-reads : goal.returns-then-not-alike-clause-reads
returns-then-not-alike-clause-reads g c = reads_itself g.D.Disk c.args.volumes.now
