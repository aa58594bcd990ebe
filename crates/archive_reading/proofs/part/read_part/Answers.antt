use Rattle.archive_reading.proofs.BringLaws.{reads_itself}
use Rattle.archive_reading.proofs.part.read_part.Goals as goal

pub returns-in_err-bytes-clause-reads : goal.returns-in_err-bytes-clause-reads
returns-in_err-bytes-clause-reads g c = reads_itself g.D.Disk c.args.volumes.now

pub returns-in_err-read-clause-reads : goal.returns-in_err-read-clause-reads
returns-in_err-read-clause-reads g c = record {
  held = c.read.ensures.held;
  extent = c.read.ensures.extent;
  reading = c.read.ensures.reading;
  rests = c.read.ensures.rests;
  in_step = λ was. c.read.ensures.in_step;
  holds = c.read.ensures.holds;
  measured = c.read.ensures.measured;
  quiet = c.read.ensures.quiet;
}

pub returns-clause-reads : goal.returns-clause-reads
returns-clause-reads g c = record {
  held = c.read.ensures.held;
  extent = c.read.ensures.extent;
  reading = c.read.ensures.reading;
  rests = c.read.ensures.rests;
  in_step = λ was. c.read.ensures.in_step;
  holds = c.read.ensures.holds;
  measured = c.read.ensures.measured;
  quiet = c.read.ensures.quiet;
}
