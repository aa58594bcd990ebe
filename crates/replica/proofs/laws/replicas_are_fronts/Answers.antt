-- By the law of the next piece.
use Rattle.replica.proofs.FrontLaws as laws
use Rattle.replica.proofs.laws.replicas_are_fronts.Goals as goal

pub returns : goal.returns
returns g c = record {
  fronts = laws.replicas_are_fronts g.D.Disk c.next_pieces_lead_on.ensures;
  taken = laws.pieces_are_taken g.D.Disk c.next_pieces_lead_on.ensures;
  left = laws.stops_leave_fronts g.D.Disk c.taken_pieces_lead_on.ensures;
}
