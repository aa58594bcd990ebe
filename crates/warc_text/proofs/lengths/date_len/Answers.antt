use Rattle.std.proofs.Common.{arith}
use Rattle.time_text.proofs.DateLaws.{short}
use Rattle.warc_text.proofs.lengths.date_len.Goals as goal

pub returns-clause-short : goal.returns-clause-short
returns-clause-short c = omega (arith, c.warc_len.ensures, (short c.args.date).1)
