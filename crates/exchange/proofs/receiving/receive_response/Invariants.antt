-- The bytes of the message so far and those in the window are what the link gave.
use Rattle.std.proofs.Common.{◌≡◌, ◌+◌, ◌*◌, ◌-◌, ◌++◌, IsTrue, length}
use Rattle.std.specs.Prelude.{IsSome}
use Rattle.capture.specs.First.{Responses}
use Rattle.capture.specs.declared.limits.TheConstants.{HEAD_LIMIT, BODY_LIMIT}
use Rattle.http_wire.specs.Reading.{Whole}
use Rattle.exchange.specs.Receiving.{Gives, MayGoOn, StaysAccounted}
use Rattle.exchange.proofs.receiving.receive_response.Given as goal

abbrev pub invariant-reading : goal.invariant-reading
invariant-reading g l = record {
  going : MayGoOn (Responses l.reader.answers_head) l.reader.stream l.reader.standing;
  held : l.reader.standing ≡ Whole → IsSome l.reader.head;
  head : l.reader.head ≡ l.fn.reader.head;
  answers_head : l.reader.answers_head ≡ l.fn.reader.answers_head;
  accounts : IsTrue g.L.Link.tells →
      StaysAccounted (g.L.Link.traffic l.fn.link).given (l.fn.reader.stream ++ l.fn.window)
      (g.L.Link.traffic l.link).given (l.reader.stream ++ l.window);
  ended : IsTrue g.L.Link.tells → IsTrue (g.L.Link.traffic l.link).ended → IsTrue (g.L.Link.traffic l.fn.link).ended;
  faults : g.L.Link.faults l.link ≡ g.L.Link.faults l.fn.link;
  gives : IsTrue g.L.Link.tells → Gives (g.L.Link.traffic l.fn.link) (g.L.Link.traffic l.link);
}

-- an undecided message and what was read of it grow, and it has a limit
abbrev pub decreases-reading : goal.decreases-reading
decreases-reading g l = 2 * (HEAD_LIMIT + BODY_LIMIT) + 3 - (2 * length l.reader.stream + length l.window)
