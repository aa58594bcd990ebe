-- The bytes of the response so far and those in the window are what the link gave.
use Rattle.std.proofs.Common.{◌≡◌, ◌++◌, IsTrue}
use Rattle.std.specs.Prelude.{IsSome}
use Rattle.capture.specs.First.{Responses}
use Rattle.http_wire.specs.Reading.{Whole}
use Rattle.exchange.specs.Receiving.{Gives, MayGoOn, StaysAccounted}
use Rattle.exchange.proofs.ResponseLaws.{heads_left}
use Rattle.exchange.proofs.fetching.next_response.Given as goal

abbrev pub invariant-reading : goal.invariant-reading
invariant-reading g l = record {
  going : MayGoOn (Responses l.reader.answers_head) l.reader.stream l.reader.standing;
  held : l.reader.standing ≡ Whole → IsSome l.reader.head;
  answers_head : l.reader.answers_head ≡ l.fn.reader.answers_head;
  accounts : IsTrue g.L.Link.tells →
      StaysAccounted (g.L.Link.traffic l.fn.link).given (l.fn.reader.stream ++ l.fn.window)
      (g.L.Link.traffic l.link).given (l.reader.stream ++ l.window);
  faults : g.L.Link.faults l.link ≡ g.L.Link.faults l.fn.link;
  gives : IsTrue g.L.Link.tells → Gives (g.L.Link.traffic l.fn.link) (g.L.Link.traffic l.link);
}

abbrev pub decreases-reading : goal.decreases-reading
decreases-reading g l = heads_left l.reader.head
