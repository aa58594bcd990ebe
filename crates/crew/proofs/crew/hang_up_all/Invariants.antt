use Rattle.std.proofs.Common.{◌≡◌, ◌≤◌, IsTrue, length}
use Rattle.std.specs.Vec.Iter.{into_iter_items, into_iter_len}
use Rattle.crew.specs.steps.Working.{hung_up}
use Rattle.crew.proofs.crew.hang_up_all.Given as goal

abbrev pub invariant-ending : goal.invariant-ending
invariant-ending g l =
    record {
      logs : IsTrue g.G.Link.Link.tells → hung_up g.G.Gate.kept (into_iter_items l.rest) (g.G.Gate.connections l.gate) ≡ hung_up g.G.Gate.kept l.fn.ended.items (g.G.Gate.connections l.fn.gate);
      out : IsTrue g.G.Link.Link.tells → length (into_iter_items l.rest) ≤ (g.G.Gate.connections l.gate).out;
      closed : g.G.Gate.closed l.gate ≡ g.G.Gate.closed l.fn.gate;
      faults : g.G.Gate.faults l.gate ≡ g.G.Gate.faults l.fn.gate;
    }

abbrev pub decreases-ending : goal.decreases-ending
decreases-ending g l = into_iter_len l.rest
