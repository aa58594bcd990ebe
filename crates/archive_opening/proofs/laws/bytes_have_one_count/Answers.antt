use Rattle.archive_opening.proofs.OneCountLaws.{one_count_of_bytes}
use Rattle.archive_opening.proofs.laws.bytes_have_one_count.Goals as goal

pub returns : goal.returns
returns c = one_count_of_bytes
