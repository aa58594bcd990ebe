-- The interim responses so far, and the bytes in the window, are what the link gave.
use Rattle.std.proofs.Common.{◌≡◌, ◌-◌, ◌≤◌, IsTrue}
use Rattle.capture.specs.declared.limits.TheConstants.{INTERIM_LIMIT}
use Rattle.http_wire.specs.ResponseReading.{new_response}
use Rattle.exchange.proofs.ArrivalLaws.{Awaits}
use Rattle.exchange.specs.Receiving.{Gives}
use Rattle.exchange.proofs.fetching.receive_with.Given as goal

abbrev pub invariant-receiving : goal.invariant-receiving
invariant-receiving g l = record {
  reader : l.reader ≡ new_response l.answers_head;
  few : l.interims ≤ INTERIM_LIMIT;
  awaits : IsTrue g.L.Link.tells → Awaits (g.L.Link.traffic l.link).given l.window l.interims;
  faults : g.L.Link.faults l.link ≡ g.L.Link.faults l.fn.link;
  gives : IsTrue g.L.Link.tells → Gives (g.L.Link.traffic l.fn.link) (g.L.Link.traffic l.link);
}

abbrev pub decreases-receiving : goal.decreases-receiving
decreases-receiving g l = INTERIM_LIMIT - l.interims
