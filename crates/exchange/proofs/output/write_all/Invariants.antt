use Rattle.std.proofs.Common.{◌≡◌, IsTrue, length}
use Rattle.exchange.proofs.SendLaws.{Sends}
use Rattle.exchange.proofs.output.write_all.Given as goal

abbrev pub invariant-writing : goal.invariant-writing
invariant-writing g l = record {
  sent : IsTrue g.L.Link.tells → Sends (g.L.Link.traffic l.fn.link).taken (g.L.Link.traffic l.link).taken l.text l.rest;
  faults : g.L.Link.faults l.link ≡ g.L.Link.faults l.fn.link;
  only : IsTrue g.L.Link.tells → (g.L.Link.traffic l.link) ≡ record (g.L.Link.traffic l.fn.link) { taken = (g.L.Link.traffic l.link).taken };
}

abbrev pub decreases-writing : goal.decreases-writing
decreases-writing g l = length l.rest
