use Rattle.warc_reader.proofs.StorableLaws.{captures_can_be_stored}
use Rattle.warc_reader.proofs.laws.imported_captures_can_be_stored.Goals as goal

pub returns : goal.returns
returns c = captures_can_be_stored
