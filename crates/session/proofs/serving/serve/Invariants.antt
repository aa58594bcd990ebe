-- Each connection from here makes one from the start.
use Rattle.std.proofs.Common.{◌≡◌, ℕ, ◌-◌, ◌<◌, ◌≤◌, List, [], IsTrue}
use Rattle.archive_shelf.specs.Told.{GoesOn}
use Rattle.outside.specs.Gate.{heard_of}
use Rattle.outside.specs.Records.{Links}
use Rattle.outside.specs.declared.dialer.Transcript.{Transcript}
use Rattle.outside.specs.declared.gate.Heard.{Heard}
use Rattle.session.specs.Connection.{IsConnection}
use Rattle.session.specs.steps.Stages.{IsRemainder}
use Rattle.request_answer.specs.declared.TheConstants.{REQUEST_LIMIT}
use Rattle.session.specs.declared.served.Served.{Served}
use Rattle.session.proofs.serving.serve.Given as goal

abbrev pub invariant-serving : goal.invariant-serving
invariant-serving g l =
    let link = g.L.Link in
    let dialer = g.N.Dialer in
    let clock = g.C.Clock in
    record {
      joins : IsTrue link.tells → IsTrue g.N.Link.Link.tells → (heard : Heard) (answers : List ℕ) (links : Links Transcript) (faults : ℕ)
          (shelf : g.row.S.Denot) (result : Served)
          → IsRemainder g.S.Finder.alone (record { site = l.fn.site; clock_tells = clock.tells })
          (record {
            served = l.served;
            pending = l.of_client;
            world = record {
              heard = heard_of (link.traffic l.client) (link.faults l.client);
              answers = clock.answers l.clock;
              links = dialer.links l.dialer;
              dialer_faults = dialer.faults l.dialer;
              shelf = g.S.Finder.told l.shelf;
            };
          }) (record { heard = heard; answers = answers; links = links; dialer_faults = faults; shelf = g.S.Finder.told shelf }) result
          → IsConnection g.S.Finder.alone (record { site = l.fn.site; clock_tells = clock.tells })
          (record {
            heard = heard_of (link.traffic l.fn.client) (link.faults l.fn.client);
            answers = clock.answers l.fn.clock;
            links = dialer.links l.fn.dialer;
            dialer_faults = dialer.faults l.fn.dialer;
            shelf = g.S.Finder.told l.fn.shelf;
          }) (record { heard = heard; answers = answers; links = links; dialer_faults = faults; shelf = g.S.Finder.told shelf }) result;
      whole : link.faults l.client ≡ 0;
      fewer : l.served < REQUEST_LIMIT;
      empty : l.of_origin ≡ [];
      goes_on : GoesOn g.S.Finder.alone (g.S.Finder.told l.fn.shelf) (g.S.Finder.told l.shelf);
      faults : dialer.faults l.fn.dialer ≤ dialer.faults l.dialer;
    }

abbrev pub decreases-serving : goal.decreases-serving
decreases-serving g l = REQUEST_LIMIT - l.served
