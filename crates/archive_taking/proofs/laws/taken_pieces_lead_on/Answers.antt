use Rattle.archive_taking.proofs.PieceLeadLaws.{taken_pieces}
use Rattle.archive_taking.proofs.laws.taken_pieces_lead_on.Goals as goal

pub returns : goal.returns
returns g c = taken_pieces g.D.Disk c.next_pieces_lead_on.ensures
