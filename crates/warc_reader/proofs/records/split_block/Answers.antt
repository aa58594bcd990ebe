use Rattle.std.proofs.Common.{length}
use Rattle.warc_reader.proofs.records.split_block.Goals as goal

pub returns-in-None-clause-none : goal.returns-in-None-clause-none
returns-in-None-clause-none c = λ block rest tells e. c.in-None.ensures.none (length block) tells
