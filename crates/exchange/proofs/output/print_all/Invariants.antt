use Rattle.std.proofs.Common.{◌≡◌, IsTrue, length}
use Rattle.exchange.proofs.SendLaws.{Sends}
use Rattle.exchange.proofs.output.print_all.Given as goal

abbrev pub invariant-printing : goal.invariant-printing
invariant-printing g l = record {
  sent : IsTrue g.S.Sink.tells → Sends (g.S.Sink.written l.fn.sink) (g.S.Sink.written l.sink) l.text l.rest;
  faults : g.S.Sink.faults l.sink ≡ g.S.Sink.faults l.fn.sink;
}

abbrev pub decreases-printing : goal.decreases-printing
decreases-printing g l = length l.rest
