use Rattle.archive_pieces.proofs.NextSource.{next_pieces}
use Rattle.archive_pieces.proofs.laws.next_pieces_lead_on.Goals as goal

pub returns : goal.returns
returns c = next_pieces
